-- A drive: it leads a run by whole moves and numbered questions. What its commands come to.
use Rattle.std.specs.Prelude.{◌≡◌, ◌≤◌, ◌+◌, ℕ, ℤ, List, length, Some, None, Ok}
use Rattle.burr_state.specs.declared.effect.Mode.TheVariants.{Ended}
use Rattle.burr_state.specs.declared.effect.Progress.TheVariants as progress
use Rattle.burr_state.specs.Rules.Bench.{BenchState, Setup}
use Rattle.burr_state.specs.Rules.Questions.{Fits}
use Rattle.burr_state.specs.Rules.Step.{AsksNow, Called}
use Rattle.burr_step.specs.declared.drive.Halt.{Halt}
use Rattle.burr_step.specs.declared.drive.Halt.TheVariants.{Asks, Ends}
use Rattle.burr_step.specs.declared.drive.Move.{Move}
use Rattle.burr_step.specs.declared.drive.Question.{Question}
use Rattle.burr_step.specs.Rules.Moves.{ComesToRest, MakesMove, MakesMoves}

-- where a drive stands: where its run rests, and how many moves were made and questions answered
pub record Led : Type 0 where
  pub state : BenchState
  pub moves : ℕ
  pub answers : ℕ

abbrev pub led : BenchState → ℕ → ℕ → Led
led state moves answers = record { state = state; moves = moves; answers = answers }

-- the question at which the run stands; questions are counted from 1
pub record StandsAt (setup : Setup) (d : Led) (q : Question) : Type 0 where
  pub number : q.number ≡ d.answers + 1
  pub asks : AsksNow setup d.state q.low q.high
  pub procedure : q.procedure ≡ d.state.running.procedure
  pub pc : q.pc ≡ d.state.running.pc

-- why no move stands next: the run asks, or has ended after this many steps
abbrev pub HaltsAt : Setup → Led → Halt → Type 0
HaltsAt setup d (Asks question) = StandsAt setup d question
HaltsAt setup d (Ends steps) = (d.state.mode ≡ Ended) × (steps ≡ d.state.steps)

-- the next whole move is made
abbrev pub Moves : Setup → Led → Move → Led → Type 0
Moves setup d m new =
    (s : BenchState) × MakesMove setup d.moves d.state m s
    × (new ≡ led s (d.moves + 1) d.answers)

-- the run goes on until the move of this number is made, or to where it halts before
pub record GoesTo (setup : Setup) (number : ℕ) (d new : Led) : Type 0 where
  pub ms : List Move
  pub makes : MakesMoves setup d.moves d.state ms new.state
  pub moves : new.moves ≡ d.moves + length ms
  pub answers : new.answers ≡ d.answers
  pub within : new.moves ≤ number

-- an answer that can be taken: to the question at which the run stands, and one that fits it
abbrev pub IsFitting : Setup → Led → ℕ → ℤ → Type 0
IsFitting setup d question answer =
    (question ≡ d.answers + 1)
    × ((low high : ℤ) × AsksNow setup d.state low high × Fits low high answer)

-- the answer is taken, and the run goes on to where it rests again
abbrev pub Takes : Setup → Led → ℤ → Led → Type 0
Takes setup d answer new =
    (taken s : BenchState) × Called setup d.state (Some answer) (Ok (progress.Went None)) taken
    × ComesToRest setup taken s
    × (new ≡ led s d.moves (d.answers + 1))
