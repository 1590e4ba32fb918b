-- What a call that looks at a move's pairs says of the verdict, and what a move comes to that looks
-- at none.
use Rattle.std.specs.Prelude.{⊤, ℕ, List, Option, Some, Result}
use Rattle.burr_text.specs.Checks.{needs}
use Rattle.burr_voxels.specs.declared.cell.Cell.{Cell}
use Rattle.burr_voxels.specs.declared.direction.Direction.{Direction}
use Rattle.burr_code.specs.declared.placement.Placement.{Placement}
use Rattle.burr_code.specs.Places.{aside_places}
use Rattle.burr_blocking.specs.declared.blocking.Query.{Query}
use Rattle.burr_container.specs.Rules.Plans.{FormCell}
use Rattle.burr_forms.specs.Rules.Forms.{Point}
use Rattle.burr_frames.specs.declared.rule.Break.{Break}
use Rattle.burr_frames.specs.declared.rule.Rule.{Rule}
use Rattle.burr_frames.specs.declared.rule.Rule.TheVariants as rules
use Rattle.burr_frames.specs.Views.Breaks.{last_verdict}
use Rattle.burr_frames.specs.Rules.SpaceRules.{OnBenchAt, PairAt, IsApartBy, moved, AllSmallPlaces}
use Rattle.burr_frames.specs.Rules.States.{AbstractState}
use Rattle.burr_frames.specs.Rules.Verdicts.{Broken, Rest, everywhere, everywhere_of_pairs, plainly}
use Rattle.burr_frames.specs.Rules.Verdicts.{falls_through, no_successor, paying}

-- With these places each piece of the tray is on the bench and each pair of it so, or a rule is
-- broken; nothing is said of what follows.
abbrev pub ClearOrBreaks : List (List Cell) → AbstractState → List (Placement FormCell) → Query
    → Rule → Result ⊤ Break → Type 0
ClearOrBreaks homes s places query rule result =
    everywhere s (OnBenchAt places s.tray) rules.OffBench
    (everywhere_of_pairs s (PairAt (IsApartBy query) homes places s.tray s.grip) rule no_successor)
    (last_verdict result)

-- a rule that is broken at a point, for these pieces
abbrev pub break_of_pieces : Rule → Option (ℕ × ℕ) → Point → Broken
break_of_pieces rule pieces point = record { rule = rule; pieces = pieces; point = Some point }

-- what `step` comes to where nothing is in the way
abbrev pub free_step : AbstractState → Direction → Rest
free_step s direction =
    needs (AllSmallPlaces (moved s.grip direction s.places)) (plainly rules.FormTooLarge)
    (paying s λ paid. falls_through (record paid { places = moved s.grip direction s.places }))

-- what `aside` comes to where nothing is in the way
abbrev pub free_aside : AbstractState → ℕ → Rest
free_aside s tray =
    paying s λ paid.
    falls_through (record paid { places = aside_places s.grip s.tray tray s.places; grip = 0 })
