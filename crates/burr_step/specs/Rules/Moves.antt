-- A run move by move: motions are joined into moves as the sheet joins them into lines, but never
-- over a question.
use Rattle.std.specs.Prelude.{◌≡◌, ◌↔◌, ◌<◌, ◌+◌, ℕ, ℤ, List, [], ◌∷◌, ◌++◌, length, flat_map, Option, Some, None, is_some, false, replicate, Ok}
use Rattle.std.specs.Option.{option_to_list}
use Rattle.burr_voxels.specs.declared.direction.Direction.{Direction}
use Rattle.burr_code.specs.Instruction.{Aside}
use Rattle.burr_code.specs.PieceSets.{IsInSet}
use Rattle.burr_state.specs.Rules.Space.{LiesApart}
use Rattle.burr_state.specs.declared.effect.Motion.{Motion}
use Rattle.burr_state.specs.declared.effect.Progress.TheVariants as progress
use Rattle.burr_state.specs.Rules.Bench.{BenchProcedure, BenchState, Setup}
use Rattle.burr_state.specs.Rules.Step.{Called, IsAt}
use Rattle.burr_sheet.specs.Rules.SheetText.{MoveLine, alone, motion_count, motion_on, motions_of, is_one}
use Rattle.burr_step.specs.declared.drive.Move.{Move}

-- Steps without an answer lead from a state to another, and make these motions.
pub data Makes (setup : Setup) : BenchState → List Motion → BenchState → Type 0 where
  stays : (s : BenchState) → Makes setup s [] s
  makes : (s new last : BenchState) (motion : Option Motion) (motions : List Motion)
      → Called setup s None (Ok (progress.Went motion)) new → Makes setup new motions last
      → Makes setup s (option_to_list motion ++ motions) last

-- what stands next is a motion, a question or the end: no step that moves no piece
abbrev pub Rests : Setup → BenchState → Type 0
Rests setup s = (new : BenchState) → ¬ Called setup s None (Ok (progress.Went None)) new

-- steps that move no piece lead to where the run rests
abbrev pub ComesToRest : Setup → BenchState → BenchState → Type 0
ComesToRest setup s new = Makes setup s [] new × Rests setup new

-- this motion stands next
abbrev pub MovesNext : Setup → BenchState → Motion → Type 0
MovesNext setup s motion =
    (new : BenchState) × Called setup s None (Ok (progress.Went (Some motion))) new

-- the line of a move, as a sheet has it
abbrev pub line_of : Move → MoveLine
line_of m = record {
  group = m.group;
  tray = m.tray;
  direction = m.direction;
  units = m.units;
  out = is_some m.out;
}

-- an aside to this tray stands next
abbrev pub GoesAsideTo : Setup → BenchState → ℕ → Type 0
GoesAsideTo setup s tray =
    (here : BenchProcedure) × (direction : Direction) × IsAt setup s here (Aside direction tray)

-- where there is a tray, the unit steps of the line lead to where an aside to it stands next
abbrev pub GoesOutTo : Setup → BenchState → MoveLine → Option ℕ → Type 0
GoesOutTo setup s l None = Unit {0}
GoesOutTo setup s l (Some tray) =
    (before : BenchState) × Makes setup s (replicate l.units (motion_on l false)) before
    × GoesAsideTo setup before tray

-- exactly the pieces of the set are apart now, and were not before
abbrev pub AreApartBy : BenchState → ℕ → BenchState → Type 0
AreApartBy before set now =
    (p : ℕ) → IsInSet set p ↔ (LiesApart now.places p × (¬ LiesApart before.places p))

-- no motion that stands next goes onto the line
abbrev pub IsWhole : Setup → MoveLine → BenchState → Type 0
IsWhole setup l s =
    l.out ≡ false → (motion : Motion) → MovesNext setup s motion → is_one l (alone motion) ≡ false

-- A whole move, after n others, leads from a state to one where the run rests.
pub record MakesMove (setup : Setup) (n : ℕ) (s : BenchState) (m : Move) (new : BenchState)
    : Type 0 where
  pub number : m.number ≡ n + 1
  pub some : 0 < motion_count (line_of m)
  pub makes : Makes setup s (motions_of (line_of m)) new
  pub whole : IsWhole setup (line_of m) new
  pub rests : Rests setup new
  -- where it goes out, the tray to which the group goes
  pub to : GoesOutTo setup s (line_of m) m.out
  -- the pieces that are apart by it
  pub apart : AreApartBy s m.apart new

-- Whole moves, one after the other, after n others, lead from where a run rests.
pub data MakesMoves (setup : Setup) : ℕ → BenchState → List Move → BenchState → Type 0 where
  rests : (n : ℕ) (s : BenchState) → Rests setup s → MakesMoves setup n s [] s
  moves : (n : ℕ) (s new last : BenchState) (m : Move) (ms : List Move)
      → MakesMove setup n s m new → MakesMoves setup (n + 1) new ms last
      → MakesMoves setup n s (m ∷ ms) last

-- A run with these answers is led on, after n moves: to where it rests, by whole moves to a
-- question, by its answer to where it rests again, and so on. Each leg between two questions has
-- its moves.
pub data IsLed (setup : Setup) : ℕ → BenchState → List (List Move) → List ℤ → BenchState
    → Type 0 where
  leg : (n : ℕ) (s first last : BenchState) (ms : List Move)
      → ComesToRest setup s first → MakesMoves setup n first ms last
      → IsLed setup n s (ms ∷ []) [] last
  asked : (n : ℕ) (s first here new last : BenchState) (ms : List Move) (legs : List (List Move))
      (answer : ℤ) (answers : List ℤ)
      → ComesToRest setup s first → MakesMoves setup n first ms here
      → Called setup here (Some answer) (Ok (progress.Went None)) new
      → IsLed setup (n + length ms) new legs answers last
      → IsLed setup n s (ms ∷ legs) (answer ∷ answers) last

-- the moves of legs, in their order
abbrev pub moves_of : List (List Move) → List Move
moves_of legs = flat_map (λ ms. ms) legs
