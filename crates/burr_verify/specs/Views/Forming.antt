-- Frames by themselves: the checks of one label, and what is read of a frame for them.
use Rattle.std.specs.Prelude.{◌≡◌, ℕ, zero, suc, List, Option, Some, slice_get}
use Rattle.burr_text.specs.Checks.{needs}
use Rattle.burr_container.specs.Rules.Plans.{Range, Frame}
use Rattle.burr_frames.specs.declared.rule.Rule.TheVariants as rules
use Rattle.burr_verify.specs.Rules.Judging.{Rest, HasRoomForPoints}
use Rattle.burr_verify.specs.Rules.Pass.{refused}
use Rattle.burr_verify.specs.Rules.WellFramed.{IsFormed, IsFormedEntry}

-- slot v is live
abbrev pub IsLive : List (Option Range) → ℕ → Type 0
IsLive slots v = (range : Range) × (slice_get slots v ≡ Some (Some range))

-- the frame of label k is well formed; that of label 0 is the entry frame
abbrev pub IsFormedAt : ℕ → ℕ → Frame → Type 0
IsFormedAt zero parameters f = IsFormed parameters f × IsFormedEntry parameters f
IsFormedAt (suc k) parameters f = IsFormed parameters f

-- the frame of label k of procedure n: well formed, and then its box
abbrev pub judging_label : ℕ → ℕ → ℕ → ℕ × Frame → Rest → Rest
judging_label n parameters k label rest =
    needs (IsFormedAt k parameters label.1) (refused n label.0 rules.BadFrame)
    (needs (HasRoomForPoints label.1) (refused n label.0 rules.StateTooLarge) rest)
