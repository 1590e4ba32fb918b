-- A drive that is kept goes on as the drive that it lends to itself.
use Rattle.std.proofs.Common.{◌≡◌, ◌∙◌, ap, subst, sym, true, false, ℕ, ℤ, Bool, Result, Ok, Err}
use Rattle.burr_assembly.specs.Rules.Text.{Assembly}
use Rattle.burr_state.specs.Rules.Bench.{Program}
use Rattle.burr_state.specs.Views.Benches.{benched, IsSameRun}
use Rattle.burr_step.specs.declared.drive.Halt.{Halt}
use Rattle.burr_step.specs.declared.drive.Move.{Move}
use Rattle.burr_step.specs.Rules.Drive.{Led}
use Rattle.burr_step.specs.Views.Driving.{Driving, driving, led_of, resumed, IsLasting, MovesOn, Answers}

-- a drive of the same run is the one that stands where it does
pub is_resumed : (a : Assembly) (w : Program) (s left : Led) (old new : Driving) → old ≡ resumed a w s → IsSameRun old.bench new.bench → left ≡ led_of new
    → new ≡ resumed a w left
is_resumed a w s left old new is same stands =
    ap (λ (x : Assembly). driving (benched x new.bench.program new.bench.state) new.moves new.answers) (same.assembly ∙ ap (λ (d : Driving). d.bench.assembly) is)
    ∙ ap (λ (x : Program). driving (benched a x new.bench.state) new.moves new.answers) (same.program ∙ ap (λ (d : Driving). d.bench.program) is)
    ∙ ap (resumed a w) (sym stands)

pub lasts : (a : Assembly) (w : Program) (s left : Led) (old new : Driving) → old ≡ resumed a w s → IsSameRun old.bench new.bench → left ≡ led_of new
    → IsLasting new → IsLasting (resumed a w left)
lasts a w s left old new is same stands lasting = subst IsLasting (is_resumed a w s left old new is same stands) lasting

same_as : (old new : Driving) → new ≡ old → IsSameRun old.bench new.bench
same_as old new same = record { assembly = ap (λ (d : Driving). d.bench.assembly) same; program = ap (λ (d : Driving). d.bench.program) same }

-- the call for the next move stays on the same run
pub moves_same : (old new : Driving) (next : Result Move Halt) → MovesOn old next new → IsSameRun old.bench new.bench
moves_same old new (Ok m) on = on.same
moves_same old new (Err halt) on = same_as old new on.same

-- so does an answer
pub answers_same : (question : ℕ) (answer : ℤ) (old new : Driving) (taken : Bool) → Answers question answer old taken new → IsSameRun old.bench new.bench
answers_same question answer old new true on = on.same
answers_same question answer old new false on = same_as old new on.1
