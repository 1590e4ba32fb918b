-- None of the pieces so far is alone in its tray.
use Rattle.std.proofs.Common.{◌≢◌, ◌<◌, ℕ}
use Rattle.burr_code.specs.Places.{LiesIn, count_in}
use Rattle.burr_verify.proofs.forming.are_formed.Given as goal

abbrev pub invariant-loop-place : goal.invariant-loop-place
invariant-loop-place l =
    (p : ℕ) → p < l.place-index → (tray : ℕ) → LiesIn l.fn.places p tray → count_in tray l.fn.places ≢ 1
