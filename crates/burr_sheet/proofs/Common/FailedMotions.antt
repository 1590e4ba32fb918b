-- For crates above: a sink that failed at a motion had taken a front of what was then still to be written.
use Rattle.std.proofs.Common.{ℕ, List, ◌∷◌}
use Rattle.burr_io.specs.Sink.{SinkView, FailsWithin}
use Rattle.burr_io.proofs.Common.Puts.{FailsWithin-first}
use Rattle.burr_state.specs.declared.effect.Motion.{Motion}
use Rattle.burr_state.specs.declared.effect.Closing.{Closing}
use Rattle.burr_sheet.specs.Views.SheetUnderWay.{UnderWay, still, FailsInMotion}

-- whatever follows the motion
pub fails_within_still : {S : Type 0} (sink : SinkView S) (before after : S) (old : UnderWay) (motion : Motion)
    → FailsInMotion sink before after old motion → (motions : List Motion) (steps : ℕ) (closing : Closing)
    → FailsWithin sink before after (still old (motion ∷ motions) steps closing)
fails_within_still sink before after old motion (new, bytes, closes, some, fails) motions steps closing =
    rw (closes motions steps closing) (FailsWithin-first (still new motions steps closing) fails)
