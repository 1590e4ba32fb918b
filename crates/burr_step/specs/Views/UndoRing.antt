-- The records that a stepper keeps, the latest first, and going back by them.
use Rattle.std.specs.Prelude.{◌≡◌, ℕ, zero, suc, ◌+◌, ◌≤◌, ℤ, List, [], ◌∷◌, ◌++◌, length, take, drop, Option, Some, None, Ok}
use Rattle.burr_state.specs.declared.effect.Progress.TheVariants as progress
use Rattle.burr_state.specs.Rules.Bench.{BenchState, Setup}
use Rattle.burr_state.specs.Rules.Step.{Called}
use Rattle.burr_state.specs.Rules.Undo.{Undo, laid_over}
use Rattle.burr_state.specs.Views.Benches.{Benched, setup_of, in_state}
use Rattle.burr_bench.specs.Recorded.{TakesBack, gone_back}
use Rattle.burr_step.specs.Rules.Stepper.{History, history, IsStateOf, Goes, Back, Taken, Commanding}

-- the answers after a step: those before it, and the one that it took, if any
abbrev pub answers_more : Option ℤ → List ℤ → List ℤ
answers_more None answers = answers
answers_more (Some answer) answers = answers ++ answer ∷ []

-- what is fixed after one step more, with an answer or none
abbrev pub one_more : Option ℤ → History → History
one_more answer h = history (h.steps + 1) (answers_more answer h.answers)

-- one step leads from a state to another, with an answer or none
abbrev pub StepsTo : Setup → BenchState → Option ℤ → BenchState → Type 0
StepsTo setup s None new = Goes setup s new
StepsTo setup s (Some answer) new = Called setup s (Some answer) (Ok (progress.Went None)) new

-- The record is of the last of the steps that led to a bench: it takes the bench back to where it
-- stood before that step.
pub record IsLastRecord (b : Benched) (h : History) (u : Undo) : Type 0 where
  pub takes_back : TakesBack b u
  pub before : History
  pub state : IsStateOf (setup_of b) before (laid_over u b.state)
  pub answer : Option ℤ
  pub step : StepsTo (setup_of b) (laid_over u b.state) answer b.state
  pub is : h ≡ one_more answer before

-- These are records of the last steps of a run, the latest first.
abbrev pub AreRecordsOf : Benched → History → List Undo → Type 0
AreRecordsOf b h [] = Unit {0}
AreRecordsOf b h (u ∷ undos) =
    (last : IsLastRecord b h u) × AreRecordsOf (gone_back u b) last.before undos

-- the state where this many of these records are undone, or all where there are fewer
abbrev pub undone : ℕ → List Undo → BenchState → BenchState
undone zero undos s = s
undone (suc k) [] s = s
undone (suc k) (u ∷ undos) s = undone k undos (laid_over u s)

-- undoing k records is going back k steps, and the other records stay
abbrev pub UndoingIsBack : Type 0
UndoingIsBack =
    (b : Benched) (h : History) (undos : List Undo) (k : ℕ)
    → IsStateOf (setup_of b) h b.state → AreRecordsOf b h undos → k ≤ length undos
    → (kept : History)
    × Commanding (setup_of b) h b.state (Back k) (Taken kept (undone k undos b.state))
    × AreRecordsOf (in_state (undone k undos b.state) b) kept (drop k undos)

-- the record of a step that is made comes before the others
abbrev pub RecordIsKept : Type 0
RecordIsKept =
    (b : Benched) (h : History) (undos : List Undo) (answer : Option ℤ) (new : BenchState)
    (u : Undo) → IsStateOf (setup_of b) h b.state → AreRecordsOf b h undos
    → StepsTo (setup_of b) b.state answer new
    → TakesBack (in_state new b) u → laid_over u new ≡ b.state
    → AreRecordsOf (in_state new b) (one_more answer h) (u ∷ undos)

-- the latest n of these records are records of the last steps too
abbrev pub LastAreKept : Type 0
LastAreKept =
    (b : Benched) (h : History) (undos : List Undo) (n : ℕ)
    → AreRecordsOf b h undos → AreRecordsOf b h (take n undos)
