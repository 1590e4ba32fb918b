-- The bench: pieces that lie in trays, and where a run stands. Activations, their slots and
-- operands are those of the JVM Specification, 2.6.
use Rattle.std.specs.Prelude.{◌≡◌, ℕ, ℤ, List, [], ◌∷◌, Option, Some, None, map, replicate, slice_get}
use Rattle.burr_voxels.specs.declared.cell.Cell.{Cell}
use Rattle.burr_voxels.specs.Grid.{origin}
use Rattle.burr_code.specs.declared.placement.Placement.{Placement}
use Rattle.burr_code.specs.declared.placement.Placement.TheVariants.{On}
use Rattle.burr_code.specs.declared.limits.TheConstants.{MOST_BUDGET}
use Rattle.burr_state.specs.declared.effect.Mode.{Mode}
use Rattle.burr_state.specs.declared.effect.Mode.TheVariants.{Running}

-- a call that has not returned; of a caller, pc is after its call
pub record Activation : Type 0 where
  pub procedure : ℕ
  pub pc : ℕ
  -- eight
  pub slots : List (Option ℤ)
  -- the top first
  pub operands : List ℤ

pub record BenchState : Type 0 where
  pub places : List (Placement Cell)
  pub tray : ℕ
  pub grip : ℕ
  pub running : Activation
  -- the nearest first
  pub callers : List Activation
  pub steps : ℕ
  pub mode : Mode

-- what the bench knows of a procedure: how many parameters and results it has, its labels'
-- positions, its code
pub record BenchProcedure : Type 0 where
  pub parameters : ℕ
  pub results : ℕ
  pub labels : List ℕ
  pub code : List ℕ

-- what is run: the procedures, main first, and the most steps of a run
pub record Program : Type 0 where
  pub procedures : List BenchProcedure
  pub budget : ℕ

-- what a run is of: each piece's home cells, and the procedures, main first
pub record Setup : Type 0 where
  pub homes : List (List Cell)
  pub procedures : List BenchProcedure

abbrev pub activation : ℕ → ℕ → List (Option ℤ) → List ℤ → Activation
activation procedure pc slots operands =
    record { procedure = procedure; pc = pc; slots = slots; operands = operands }

-- the one procedure of bare code
abbrev pub bare_procedure : List ℕ → BenchProcedure
bare_procedure code = record { parameters = 0; results = 0; labels = []; code = code }

-- bare code has the greatest budget
abbrev pub bare_program : List ℕ → Program
bare_program code = record { procedures = bare_procedure code ∷ []; budget = MOST_BUDGET }

-- the run of bare code: one procedure without labels
abbrev pub bare : List (List Cell) → List ℕ → Setup
bare homes code = record { homes = homes; procedures = bare_procedure code ∷ [] }

-- the run of a program on pieces with these home cells
abbrev pub running : List (List Cell) → Program → Setup
running homes program = record { homes = homes; procedures = program.procedures }

-- the position of a label of a procedure
abbrev pub IsLabelAt : Setup → ℕ → ℕ → ℕ → Type 0
IsLabelAt setup procedure label position =
    (here : BenchProcedure) × (slice_get setup.procedures procedure ≡ Some here)
    × (slice_get here.labels label ≡ Some position)

abbrev pub HasLabelOf : Setup → ℕ → ℕ → Type 0
HasLabelOf setup procedure label = (position : ℕ) × IsLabelAt setup procedure label position

-- All pieces are at home in tray 0, nothing is gripped, and main is at its begin.
abbrev pub start : Setup → BenchState
start setup = record {
  places = map (λ _. On 0 origin) setup.homes;
  tray = 0;
  grip = 0;
  running = activation 0 0 (replicate 8 None) [];
  callers = [];
  steps = 0;
  mode = Running;
}
