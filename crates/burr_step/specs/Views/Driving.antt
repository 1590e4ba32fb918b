-- What a drive is at work on, and what its calls come to.
use Rattle.std.specs.Prelude.{◌≡◌, ◌↔◌, ◌<◌, ℕ, ℤ, List, length, Bool, true, false, Option, Some, None, is_some, MatchOption, Result, Ok, Err}
use Rattle.burr_code.specs.PieceSets.{IsInSet}
use Rattle.burr_state.specs.Rules.Space.{LiesApart}
use Rattle.burr_state.specs.declared.effect.Motion.{Motion}
use Rattle.burr_assembly.specs.Rules.Text.{Assembly}
use Rattle.burr_state.specs.Rules.Bench.{BenchState, Program, Setup, start}
use Rattle.burr_state.specs.Views.Benches.{Benched, benched, setup_of, in_state, IsSameRun}
use Rattle.burr_state.specs.Views.Programs.{plan_program}
use Rattle.burr_container.specs.Rules.Plans.{Plan}
use Rattle.burr_container.specs.Views.Containers.{IsContainer}
use Rattle.burr_verify.specs.Rules.Accepting.{Judged}
use Rattle.burr_bench.specs.Safe.{IsResumable}
use Rattle.burr_bench.specs.Soundness.Machine.{IsSafeBench}
use Rattle.burr_sheet.specs.declared.sheet.GrowingLine.{GrowingLine}
use Rattle.burr_sheet.specs.Rules.SheetText.{MoveLine, motions_of}
use Rattle.burr_sheet.specs.Views.SheetUnderWay.{move_line_of}
use Rattle.burr_step.specs.declared.drive.Halt.{Halt}
use Rattle.burr_step.specs.declared.drive.Move.{Move}
use Rattle.burr_step.specs.Rules.Moves.{Makes, Rests, ComesToRest, MovesNext, GoesAsideTo, GoesOutTo, IsWhole, IsLed, moves_of}
use Rattle.burr_step.specs.Rules.Stepper.{IsHalted}
use Rattle.burr_step.specs.Rules.Drive.{Led, led, HaltsAt, Moves, IsFitting, Takes}

-- a bench at work, and how many moves it has made and questions answered
pub record Driving : Type 0 where
  pub bench : Benched
  pub moves : ℕ
  pub answers : ℕ

abbrev pub driving : Benched → ℕ → ℕ → Driving
driving bench moves answers = record { bench = bench; moves = moves; answers = answers }

abbrev pub led_of : Driving → Led
led_of d = led d.bench.state d.moves d.answers

-- the drive of a program on an assembly that stands there
abbrev pub resumed : Assembly → Program → Led → Driving
resumed assembly program d = driving (benched assembly program d.state) d.moves d.answers

-- What holds of each drive of an accepted plan: its run with some answers is led to where it stands.
pub record IsDriving (d : Driving) : Type 0 where
  pub safe : IsSafeBench (in_state (start (setup_of d.bench)) d.bench)
  pub legs : List (List Move)
  pub taken : List ℤ
  pub run : IsLed (setup_of d.bench) 0 (start (setup_of d.bench)) legs taken d.bench.state
  pub moves : d.moves ≡ length (moves_of legs)
  pub answers : d.answers ≡ length taken

-- it is a drive, and its machine can be suspended and gone on with
pub record IsLasting (d : Driving) : Type 0 where
  pub driving : IsDriving d
  pub resumable : IsResumable d.bench

-- it runs the plan and the assembly that were accepted, and no move is made yet
pub record IsReady (accepted : Judged) (d : Driving) : Type 0 where
  pub assembly : d.bench.assembly ≡ accepted.assembly
  pub program : (p : Plan) → IsContainer accepted.container p → d.bench.program ≡ plan_program p
  pub begins : ComesToRest (setup_of d.bench) (start (setup_of d.bench)) d.bench.state
  pub moves : d.moves ≡ 0
  pub answers : d.answers ≡ 0

-- why no move was made; then nothing has changed
pub record HasHalted (old : Driving) (halt : Halt) (new : Driving) : Type 0 where
  pub halts : HaltsAt (setup_of old.bench) (led_of old) halt
  pub same : new ≡ old

-- where it has halted, and else nothing
abbrev pub HaltsSo : Driving → Option Halt → Type 0
HaltsSo d halt =
    MatchOption halt (¬ IsHalted (setup_of d.bench) d.bench.state)
    (λ h. HaltsAt (setup_of d.bench) (led_of d) h)

-- what this comes to, on the same run
pub record Goes (old new : Driving) (Comes : Setup → Led → Led → Type 0) : Type 0 where
  pub same : IsSameRun old.bench new.bench
  pub comes : Comes (setup_of old.bench) (led_of old) (led_of new)

-- what the call for the next move comes to
abbrev pub MovesOn : Driving → Result Move Halt → Driving → Type 0
MovesOn old (Ok m) new = Goes old new (λ setup d e. Moves setup d m e)
MovesOn old (Err halt) new = HasHalted old halt new

-- the move of this number was come to, or the run halts before
abbrev pub Arrives : ℕ → Setup → Result (Unit {0}) Halt → Led → Type 0
Arrives number setup (Ok done) d = d.moves ≡ number
Arrives number setup (Err halt) d = (d.moves < number) × HaltsAt setup d halt

-- what an answer comes to: it is taken; or it can't be taken, and nothing has changed
abbrev pub Answers : ℕ → ℤ → Driving → Bool → Driving → Type 0
Answers question answer old true new =
    Goes old new (λ setup d e. IsFitting setup d question answer × Takes setup d answer e)
Answers question answer old false new =
    (¬ IsFitting (setup_of old.bench) (led_of old) question answer) × (new ≡ old)

-- One step

-- the motion that stands next, and where it goes out the tray to which the group goes
abbrev pub IsAhead : Setup → BenchState → Option (Motion × Option ℕ) → Type 0
IsAhead setup s None = (motion : Motion) → ¬ MovesNext setup s motion
IsAhead setup s (Some (motion, None)) = MovesNext setup s motion × (motion.out ≡ false)
IsAhead setup s (Some (motion, Some tray)) =
    MovesNext setup s motion × (motion.out ≡ true) × GoesAsideTo setup s tray

-- exactly these pieces are apart
abbrev pub AreApart : BenchState → ℕ → Type 0
AreApart s set = (p : ℕ) → IsInSet set p ↔ LiesApart s.places p

-- the same run has come to rest
abbrev pub HasComeToRest : Benched → Benched → Type 0
HasComeToRest old new = IsSameRun old new × ComesToRest (setup_of old) old.state new.state

-- the line of the code as a line of a sheet, which goes out where there is a tray for it
abbrev pub ended : GrowingLine → Option ℕ → MoveLine
ended l out = move_line_of l (is_some out)

-- the motions that go on a line are made, up to where the run rests again and the line is whole
pub record MakesLine (old : Benched) (l : GrowingLine) (out : Option ℕ) (new : Benched) : Type 0 where
  pub same : IsSameRun old new
  pub makes : Makes (setup_of old) old.state (motions_of (ended l out)) new.state
  pub whole : IsWhole (setup_of old) (ended l out) new.state
  pub rests : Rests (setup_of old) new.state
  pub to : GoesOutTo (setup_of old) old.state (ended l out) out
