-- What the calls of a stepper do that a program in C keeps.
use Rattle.std.specs.Prelude.{◌≡◌, ◌⊎◌, ℕ, List, [], Bool, Option, None, Some}
use Rattle.burr_step.specs.Views.Stepping.{Stepping, IsFresh}
use Rattle.burr_judge.specs.declared.status.Status.TheVariants as statuses
use Rattle.burr_judge.specs.OpenEnds.{Beginnings}
use Rattle.burr_judge.specs.Views.Commanding.{IsAnswerLine, StepAnswers}
use Rattle.burr_c.specs.declared.handle.KeptRun.{KeptRun}
use Rattle.burr_c.specs.declared.handle.KeptRun.TheVariants.{Drive, Stepper}
use Rattle.burr_c.specs.declared.drive.DriveStatus.TheVariants.{Closed}
use Rattle.burr_c.specs.Calls.{Call, Gives}
use Rattle.burr_c.specs.DriveCalls.{code_of}

-- a stepper is fresh
abbrev pub StepperBegins : Beginnings KeptRun
StepperBegins j (Drive d) = ⊥
StepperBegins j (Stepper s) = IsFresh j s

-- the line is answered by this text, whether more lines are to come or not
abbrev pub AnswersWith : Stepping → List ℕ → List ℕ → Stepping → Type 0
AnswersWith old line text new = (goes_on : Bool) × StepAnswers old line text goes_on new

-- Memory was refused: the line is an answer's, which takes memory, and nothing has changed; or it was
-- taken, and its answer is lost.
abbrev pub LosesAnswer : Stepping → List ℕ → Stepping → Type 0
LosesAnswer old line new =
    (IsAnswerLine old line × (new ≡ old)) ⊎ ((text : List ℕ) × AnswersWith old line text new)

-- no stepper is open: nothing is given, and what is open is as it was
abbrev pub GivesNothing : Option KeptRun → Option KeptRun → Call → Type 0
GivesNothing old new c =
    (new ≡ old) × (c.new ≡ c.old) × (c.size ≡ 0) × (c.code ≡ code_of Closed)

-- the stepper that is open answers the line, and the answer is given; or memory was refused
abbrev pub CommandComes : List ℕ → Option KeptRun → Option KeptRun → Call → Type 0
CommandComes line None new c = GivesNothing None new c
CommandComes line (Some (Drive d)) new c = GivesNothing (Some (Drive d)) new c
CommandComes line (Some (Stepper old)) new c =
    (s : Stepping) × (new ≡ Some (Stepper s))
    × (((text : List ℕ) × AnswersWith old line text s × Gives text statuses.Done c)
    ⊎ (LosesAnswer old line s × Gives [] statuses.Memory c))
