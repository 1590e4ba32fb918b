-- What holds of where the pieces lie, at each step and along each run.
use Rattle.std.specs.Prelude.{◌≢◌, ◌⊎◌, ℕ, ℤ, List, length, Option}
use Rattle.burr_voxels.specs.declared.cell.Cell.{Cell}
use Rattle.burr_voxels.specs.CellSets.{Overlap}
use Rattle.burr_code.specs.Places.{AllLieIn}
use Rattle.burr_assembly.specs.Rules.Text.{Assembly, IsAssembly}
use Rattle.burr_assembly.specs.Rules.Homes.{HasHome, homes_of}
use Rattle.burr_state.specs.declared.effect.Motion.{Motion}
use Rattle.burr_state.specs.Rules.Bench.{BenchState, Setup, start}
use Rattle.burr_state.specs.Rules.Next.{Goes}
use Rattle.burr_state.specs.Rules.Space.{NoOverlap}
use Rattle.burr_state.specs.Rules.Step.{NextIs, TakesAnswer}
use Rattle.burr_state.specs.Laws.AsideLaws.{NoneLone}
use Rattle.burr_state.specs.Rules.Calls.{Calls}

-- the grip lies in the current tray
abbrev pub IsGripHere : BenchState → Type 0
IsGripHere s = AllLieIn s.places s.tray s.grip

-- one step leads there: what stands next goes there, or an answer is taken
abbrev pub StepsTo : Setup → BenchState → BenchState → Type 0
StepsTo setup s new =
    ((motion : Option Motion) × NextIs setup s (Goes new motion))
    ⊎ ((answer : ℤ) × TakesAnswer setup s answer new)

-- At each step

-- the grip of the new state lies in its current tray
abbrev pub GripStays : Type 0
GripStays =
    (setup : Setup) (s new : BenchState) → StepsTo setup s new → IsGripHere s → IsGripHere new

-- no two pieces of a tray of the new state overlap
abbrev pub NoOverlapStays : Type 0
NoOverlapStays =
    (setup : Setup) (s new : BenchState) → StepsTo setup s new → IsGripHere s
    → NoOverlap setup.homes s.places → NoOverlap setup.homes new.places

-- no tray of the new state has exactly one piece
abbrev pub NoneLoneStays : Type 0
NoneLoneStays =
    (setup : Setup) (s new : BenchState) → StepsTo setup s new → IsGripHere s
    → NoneLone s.places → NoneLone new.places

-- Along each run

-- no two pieces overlap at home
abbrev pub AreDisjoint : List (List Cell) → Type 0
AreDisjoint homes =
    (p q : ℕ) (p_home q_home : List Cell) → p ≢ q
    → HasHome homes p p_home → HasHome homes q q_home → ¬ Overlap p_home q_home

-- the pieces of an assembly are such, and more than one
abbrev pub HomesAreDisjoint : Type 0
HomesAreDisjoint =
    (a : Assembly) → IsAssembly a → AreDisjoint (homes_of a) × (length (homes_of a) ≢ 1)

-- a state that a run from the start comes to
abbrev pub IsReached : Setup → BenchState → Type 0
IsReached setup s =
    (budget : ℕ) × (answers left : List ℤ) × (motions : List Motion)
    × Calls setup budget (start setup) answers motions s left

-- the grip lies in the current tray
abbrev pub GripIsHere : Type 0
GripIsHere = (setup : Setup) (s : BenchState) → IsReached setup s → IsGripHere s

-- no two pieces of a tray overlap
abbrev pub PiecesNeverOverlap : Type 0
PiecesNeverOverlap =
    (setup : Setup) (s : BenchState) → AreDisjoint setup.homes → IsReached setup s
    → NoOverlap setup.homes s.places

-- no tray has exactly one piece
abbrev pub NoPieceIsLone : Type 0
NoPieceIsLone =
    (setup : Setup) (s : BenchState) → length setup.homes ≢ 1 → IsReached setup s
    → NoneLone s.places
