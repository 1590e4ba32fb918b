-- What a program in C gets of a drive, and how its calls end.
use Rattle.std.specs.Prelude.{◌≡◌, ◌≢◌, ◌⊎◌, ◌<◌, ◌≤◌, ℕ, ℤ, pos, negsuc, List, Bool, true, false, Option, None, Some, Result, Ok, Err}
use Rattle.burr_voxels.specs.Grid.{number_of}
use Rattle.burr_state.specs.Views.Benches.{setup_of}
use Rattle.burr_step.specs.declared.drive.Halt.{Halt}
use Rattle.burr_step.specs.declared.drive.Halt.TheVariants.{Asks, Ends}
use Rattle.burr_step.specs.declared.drive.Move.{Move}
use Rattle.burr_step.specs.Rules.Drive.{GoesTo}
use Rattle.burr_step.specs.Views.Driving.{Driving, IsReady, MovesOn, Goes, Arrives, Answers, led_of}
use Rattle.burr_judge.specs.OpenEnds.{Beginnings, IsOpened}
use Rattle.burr_c.specs.declared.handle.KeptRun.{KeptRun}
use Rattle.burr_c.specs.declared.handle.KeptRun.TheVariants.{Drive, Stepper}
use Rattle.burr_c.specs.declared.drive.DriveStatus.{DriveStatus}
use Rattle.burr_c.specs.declared.drive.DriveStatus.TheVariants.{Done, Refused, Waiting, Ended, Closed}
use Rattle.burr_c.specs.declared.drive.ToldMove.{ToldMove}
use Rattle.burr_c.specs.declared.drive.ToldHalt.{ToldHalt}

-- the tray to which a group goes out; or -1 where it stays in its tray
abbrev pub told_out : Option ℕ → ℤ
told_out None = negsuc 0
told_out (Some tray) = pos tray

abbrev pub told_move : Move → ToldMove
told_move m = record {
  number = m.number;
  group = m.group;
  units = m.units;
  apart = m.apart;
  out = told_out m.out;
  tray = m.tray;
  direction = number_of m.direction;
}

-- a question; or the end, which has the number 0, after its steps
abbrev pub told_halt : Halt → ToldHalt
told_halt (Asks q) = record {
  steps = 0;
  question = q.number;
  low = q.low;
  high = q.high;
  pc = q.pc;
  procedure = q.procedure;
}
told_halt (Ends steps) = record {
  steps = steps;
  question = 0;
  low = pos 0;
  high = pos 0;
  pc = 0;
  procedure = 0;
}

-- what a call returns
abbrev pub code_of : DriveStatus → ℕ
code_of Done = 0
code_of Refused = 1
code_of Waiting = 5
code_of Ended = 6
code_of Closed = 7

-- how a call ends at a halt
abbrev pub halted : Halt → DriveStatus
halted (Asks question) = Waiting
halted (Ends steps) = Ended

-- a drive has begun
abbrev pub DriveBegins : Beginnings KeptRun
DriveBegins j (Drive d) = IsReady j d
DriveBegins j (Stepper s) = ⊥

-- What the caller's places for a move and for a halt held before and hold after a call, and what it
-- returns.
pub record Told : Type 0 where
  pub old_move : ToldMove
  pub move : ToldMove
  pub old_halt : ToldHalt
  pub halt : ToldHalt
  pub code : ℕ

abbrev pub told : ToldMove → ToldMove → ToldHalt → ToldHalt → ℕ → Told
told old_move move old_halt halt code =
    record { old_move = old_move; move = move; old_halt = old_halt; halt = halt; code = code }

-- no drive is open: nothing is given, and what is open is as it was
abbrev pub IsClosed : Option KeptRun → Option KeptRun → Told → Type 0
IsClosed old new t =
    (new ≡ old) × (t.move ≡ t.old_move) × (t.halt ≡ t.old_halt) × (t.code ≡ code_of Closed)

-- the next move is given, or why there is no next move
abbrev pub TellsNext : Result Move Halt → Told → Type 0
TellsNext (Ok move) t =
    (t.move ≡ told_move move) × (t.halt ≡ t.old_halt) × (t.code ≡ code_of Done)
TellsNext (Err halt) t =
    (t.move ≡ t.old_move) × (t.halt ≡ told_halt halt) × (t.code ≡ code_of (halted halt))

-- the drive that is open makes its next move and gives it, or gives why it has no next move
abbrev pub NextComes : Option KeptRun → Option KeptRun → Told → Type 0
NextComes None new t = IsClosed None new t
NextComes (Some (Stepper s)) new t = IsClosed (Some (Stepper s)) new t
NextComes (Some (Drive old)) new t =
    (d : Driving) × (next : Result Move Halt) × (new ≡ Some (Drive d)) × MovesOn old next d × TellsNext next t

-- the number alone says that the move was reached; else it is said why not
abbrev pub TellsArrival : Result (Unit {0}) Halt → ToldHalt → ToldHalt → ℕ → Type 0
TellsArrival (Ok there) old halt code = (halt ≡ old) × (code ≡ code_of Done)
TellsArrival (Err why) old halt code = (halt ≡ told_halt why) × (code ≡ code_of (halted why))

-- the drive that is open goes on to the move of a number; below those made that is refused
abbrev pub GoComes : ℕ → Option KeptRun → Option KeptRun → ToldHalt → ToldHalt → ℕ → Type 0
GoComes number None new was halt code = (new ≡ None) × (halt ≡ was) × (code ≡ code_of Closed)
GoComes number (Some (Stepper s)) new was halt code =
    (new ≡ Some (Stepper s)) × (halt ≡ was) × (code ≡ code_of Closed)
GoComes number (Some (Drive old)) new was halt code =
    ((number < old.moves) × (new ≡ Some (Drive old)) × (halt ≡ was) × (code ≡ code_of Refused))
    ⊎ ((old.moves ≤ number) × ((d : Driving) × (came : Result (Unit {0}) Halt) × (new ≡ Some (Drive d))
    × Goes old d (λ setup from to. GoesTo setup number from to)
    × Arrives number (setup_of old.bench) came (led_of d) × TellsArrival came was halt code))

-- an answer was taken, or not
abbrev pub answered : Bool → DriveStatus
answered true = Done
answered false = Refused

-- the drive that is open takes the answer, or none that can be was given
abbrev pub AnswerComes : ℕ → ℤ → Option KeptRun → Option KeptRun → ℕ → Type 0
AnswerComes question answer None new code = (new ≡ None) × (code ≡ code_of Closed)
AnswerComes question answer (Some (Stepper s)) new code =
    (new ≡ Some (Stepper s)) × (code ≡ code_of Closed)
AnswerComes question answer (Some (Drive old)) new code =
    (d : Driving) × (taken : Bool) × (new ≡ Some (Drive d)) × Answers question answer old taken d
    × (code ≡ code_of (answered taken))
