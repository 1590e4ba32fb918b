-- What a bench runs, as the code keeps it.
use Rattle.std.specs.Prelude.{◌≡◌, ◌+◌, ◌<◌, ◌≤◌, ℕ, List, [], ◌∷◌, length, map, Some, IfSome, slice_get}
use Rattle.burr_code.specs.declared.limits.TheConstants.{MOST_CODE, MOST_OPERANDS}
use Rattle.burr_container.specs.Rules.Plans.{Plan, PlanProcedure, Frame}
use Rattle.burr_state.specs.Rules.Bench.{Activation, BenchProcedure, BenchState, Program}

-- a procedure with these parts
abbrev pub procedure_of : ℕ → ℕ → List ℕ → List ℕ → BenchProcedure
procedure_of parameters results labels code =
    record { parameters = parameters; results = results; labels = labels; code = code }

-- what holds of each procedure that a bench runs
abbrev pub IsRunnable : BenchProcedure → Type 0
IsRunnable p = length p.code ≤ MOST_CODE

abbrev pub program_of : List BenchProcedure → ℕ → Program
program_of procedures budget = record { procedures = procedures; budget = budget }

-- the positions of labels
abbrev pub positions_of : List (ℕ × Frame) → List ℕ
positions_of labels = map (λ label. label.0) labels

-- a procedure of a plan, as the bench runs it
abbrev pub bench_procedure : PlanProcedure → BenchProcedure
bench_procedure q = procedure_of q.parameters q.results (positions_of q.labels) q.code

-- what the bench runs of a plan
abbrev pub plan_program : Plan → Program
plan_program p = program_of (map bench_procedure p.procedures) p.budget

-- the first `many` of these labels are there
abbrev pub HasFirstLabels : ℕ → List ℕ → List ℕ → Type 0
HasFirstLabels many positions labels =
    (n label : ℕ) → n < many → slice_get labels n ≡ Some label → label < length positions

-- all of these labels are there
abbrev pub HasLabels : List ℕ → List ℕ → Type 0
HasLabels positions labels = HasFirstLabels (length labels) positions labels

-- the operands of an activation have room for this many results
abbrev pub HasRoomFor : ℕ → Activation → Type 0
HasRoomFor results a = length a.operands + results ≤ MOST_OPERANDS

-- the operands of each caller have room for the results of the procedure that it waits for, which
-- for the first caller is procedure n
abbrev pub HasRoomAfter : List BenchProcedure → ℕ → List Activation → Type 0
HasRoomAfter procedures n [] = Unit {0}
HasRoomAfter procedures n (caller ∷ callers) =
    IfSome (slice_get procedures n) (λ p. HasRoomFor p.results caller)
    × HasRoomAfter procedures caller.procedure callers

-- there is a procedure of the running one's number, and callers have room for what they wait for
pub record FitsProgram (procedures : List BenchProcedure) (s : BenchState) : Type 0 where
  pub runs : s.running.procedure < length procedures
  pub room : HasRoomAfter procedures s.running.procedure s.callers
