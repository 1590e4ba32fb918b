-- What holds of the moves of a run.
use Rattle.std.specs.Prelude.{◌≡◌, ◌+◌, ℕ, ℤ, List, [], ◌∷◌, ◌++◌, length, map, flat_map}
use Rattle.burr_code.specs.Places.{AllApart}
use Rattle.burr_state.specs.declared.effect.Closing.{Closing}
use Rattle.burr_state.specs.declared.effect.Closing.TheVariants.{Apart, Waiting}
use Rattle.burr_state.specs.declared.effect.Motion.{Motion}
use Rattle.burr_state.specs.Rules.Bench.{BenchState, Setup, start}
use Rattle.burr_state.specs.Rules.Calls.{Calls}
use Rattle.burr_state.specs.Rules.Run.{Run}
use Rattle.burr_state.specs.Views.Benches.{Benched, setup_of, in_state}
use Rattle.burr_bench.specs.Soundness.Machine.{IsSafeBench}
use Rattle.burr_sheet.specs.Rules.SheetText.{longest_lines, motions_of}
use Rattle.burr_step.specs.declared.drive.Halt.{Halt}
use Rattle.burr_step.specs.declared.drive.Halt.TheVariants.{Asks, Ends}
use Rattle.burr_step.specs.declared.drive.Move.{Move}
use Rattle.burr_step.specs.Rules.Stepper.{IsHalted}
use Rattle.burr_step.specs.Rules.Moves.{Makes, ComesToRest, line_of, MakesMove, MakesMoves, IsLed, moves_of}
use Rattle.burr_step.specs.Rules.Drive.{Led, led, HaltsAt, Moves, GoesTo, Takes}

-- the motions of moves, in their order
abbrev pub motions_made : List Move → List Motion
motions_made ms = flat_map (λ m. motions_of (line_of m)) ms

-- Of one leg

-- whole moves are the steps that make their motions, and their lines are those into which a sheet
-- joins these motions
abbrev pub MovesAreJoined : Type 0
MovesAreJoined =
    (setup : Setup) (n : ℕ) (s last : BenchState) (ms : List Move) → MakesMoves setup n s ms last
    → Makes setup s (motions_made ms) last
    × (longest_lines (motions_made ms) ≡ map line_of ms)

-- from a state there is one whole move at most, and it leads to one state
abbrev pub OneMove : Type 0
OneMove =
    (setup : Setup) (n : ℕ) (s new other : BenchState) (m k : Move)
    → MakesMove setup n s m new → MakesMove setup n s k other → (m ≡ k) × (new ≡ other)

-- so as many moves are the same moves, however they are asked for
abbrev pub OneWay : Type 0
OneWay =
    (setup : Setup) (n : ℕ) (s last other : BenchState) (ms ks : List Move)
    → MakesMoves setup n s ms last → MakesMoves setup n s ks other → length ms ≡ length ks
    → (ms ≡ ks) × (last ≡ other)

-- Of a whole run

-- moves that are numbered on from n
abbrev pub AreNumbered : ℕ → List Move → Type 0
AreNumbered n [] = Unit {0}
AreNumbered n (m ∷ ms) = (m.number ≡ n + 1) × AreNumbered (n + 1) ms

-- the moves are numbered without a gap
abbrev pub MovesAreNumbered : Type 0
MovesAreNumbered =
    (setup : Setup) (n : ℕ) (s last : BenchState) (legs : List (List Move)) (answers : List ℤ)
    → IsLed setup n s legs answers last → AreNumbered n (moves_of legs)

-- where an accepted plan is led, its run with these answers comes to, and makes the motions of these
-- moves: within the budget, and without a trap
abbrev pub MovesAreTheRuns : Type 0
MovesAreTheRuns =
    (b : Benched) (last : BenchState) (legs : List (List Move)) (answers : List ℤ)
    → IsSafeBench (in_state (start (setup_of b)) b)
    → IsLed (setup_of b) 0 (start (setup_of b)) legs answers last
    → Calls (setup_of b) b.program.budget (start (setup_of b)) answers
    (motions_made (moves_of legs)) last []

-- how a run closes that halts so
abbrev pub closing_of : Halt → Closing
closing_of (Asks question) = Waiting question.low question.high
closing_of (Ends steps) = Apart

-- what is so of the pieces where it halts: at the end each is apart
abbrev pub LieWell : Halt → BenchState → Type 0
LieWell (Asks question) s = Unit {0}
LieWell (Ends steps) s = AllApart s.places

-- and where it halts, its run closes: waiting where it asks, and apart at its end
abbrev pub HaltIsTheClose : Type 0
HaltIsTheClose =
    (b : Benched) (last : BenchState) (legs : List (List Move)) (answers : List ℤ) (halt : Halt)
    → IsSafeBench (in_state (start (setup_of b)) b)
    → IsLed (setup_of b) 0 (start (setup_of b)) legs answers last
    → HaltsAt (setup_of b) (led last (length (moves_of legs)) (length answers)) halt
    → Run (setup_of b) b.program.budget (start (setup_of b)) answers
    (motions_made (moves_of legs)) last.steps (closing_of halt)
    × LieWell halt last

-- with more answers a run begins with the moves that it makes with fewer
abbrev pub MoreAnswersGoOn : Type 0
MoreAnswersGoOn =
    (setup : Setup) (n : ℕ) (s last later : BenchState) (legs others : List (List Move))
    (answers more : List ℤ)
    → IsLed setup n s legs answers last → IsHalted setup last
    → IsLed setup n s others (answers ++ more) later → IsHalted setup later
    → (rest : List Move) × (moves_of others ≡ moves_of legs ++ rest)

-- Of all calls of a drive

-- Calls lead a drive from where it stands to another place, in any order. They make the first of these
-- moves, tell the second, and take these answers.
pub data IsDriven (setup : Setup) (d : Led) : List Move → List Move → List ℤ → Led → Type 0 where
  stands : IsDriven setup d [] [] [] d
  next : (e last : Led) (m : Move) (made told : List Move) (answers : List ℤ)
      → IsDriven setup d made told answers e → Moves setup e m last
      → IsDriven setup d (made ++ m ∷ []) (told ++ m ∷ []) answers last
  goes : (e last : Led) (number : ℕ) (made told : List Move) (answers : List ℤ)
      → IsDriven setup d made told answers e → (on : GoesTo setup number e last)
      → IsDriven setup d (made ++ on.ms) told answers last
  takes : (e last : Led) (answer : ℤ) (made told : List Move) (answers : List ℤ)
      → IsDriven setup d made told answers e → Takes setup e answer last
      → IsDriven setup d made told (answers ++ answer ∷ []) last

-- the first of these moves are among the second, in their order, each of them once
pub data AreAmong : List Move → List Move → Type 0 where
  none : AreAmong [] []
  one : (m : Move) (told made : List Move) → AreAmong told made
      → AreAmong (told ++ m ∷ []) (made ++ m ∷ [])
  passed : (told made more : List Move) → AreAmong told made → AreAmong told (made ++ more)

-- The run with these answers comes to `last` by the moves `made`; those `told` are among them.
pub record TellsRun (setup : Setup) (made told : List Move) (answers : List ℤ) (last : Led)
    : Type 0 where
  pub legs : List (List Move)
  pub run : IsLed setup 0 (start setup) legs answers last.state
  pub made_are : moves_of legs ≡ made
  pub told_are : AreAmong told made
  pub moves : last.moves ≡ length made

-- whatever calls a drive is led by from its begin, it makes the moves of the run with the answers that
-- were taken, and tells of them, in their order, each once
abbrev pub DriveTellsItsRun : Type 0
DriveTellsItsRun =
    (setup : Setup) (d last : Led) (made told : List Move) (answers : List ℤ)
    → ComesToRest setup (start setup) d.state → d.moves ≡ 0
    → IsDriven setup d made told answers last → TellsRun setup made told answers last
