-- How `judge` ends: what is printed for a list of pairs of files, line by line.
use Rattle.std.specs.Prelude.{◌≡◌, ◌≢◌, ◌⊎◌, ◌<◌, ◌+◌, ◌-◌, ◌^◌, ℕ, List, [], ◌++◌, length, Bool, true, Contains, codes, decimal, min, nat_lt, if◌then◌else◌}
use Rattle.std.specs.Str.{IsUtf8}
use Rattle.burr_text.specs.Words.{IsCutAt}
use Rattle.burr_runs.specs.declared.input.BenchFault.{BenchFault}
use Rattle.burr_runs.specs.Views.BenchText.{Streams}
use Rattle.burr_judge.specs.declared.dialogue.TheConstants.{MAX_LINE}
use Rattle.burr_judge.specs.declared.plan_input.PlanInput.{PlanInput}
use Rattle.burr_judge.specs.declared.dialogue.LineEnd.{LineEnd}
use Rattle.burr_judge.specs.declared.status.Status.{Status}
use Rattle.burr_judge.specs.declared.status.Status.TheVariants.{Done, Refused, Failed, Memory}
use Rattle.burr_judge.specs.Faults.{complaint_of}
use Rattle.burr_judge.specs.Inputs.{IsPlanInput}
use Rattle.burr_judge.specs.PlanEnds.{Ends, CheckTextEnds}
use Rattle.burr_judge.specs.Statuses.{code_of}
use Rattle.burr_judge.specs.StepEnds.{Left}
use Rattle.burr_judge.specs.Views.Dialogues.{IsDialogue, BreaksDialogue}

-- two names with this byte between them, neither empty, in a line that is short enough
pub record ArePair (separator : ℕ) (line assembly plan : List ℕ) : Type 0 where
  pub cut : IsCutAt separator line assembly plan
  pub two_names : ¬ Contains plan separator
  pub assembly_named : assembly ≢ []
  pub plan_named : plan ≢ []
  pub assembly_is_text : IsUtf8 assembly
  pub plan_is_text : IsUtf8 plan
  pub short : length line < MAX_LINE

-- the line names an assembly and a plan
abbrev pub IsPair : ℕ → List ℕ → Type 0
IsPair separator line = (assembly plan : List ℕ) × ArePair separator line assembly plan

-- what `check` prints, for some bytes of the two files, with its status
abbrev pub PairEnds : Ends
PairEnds output status =
    (text bytes : List ℕ) × (plan : PlanInput) × IsPlanInput bytes plan × CheckTextEnds text plan output status

-- what is said of a line, and with which status: it is no pair; or its plan is judged; or a file can't
-- be read; or memory was refused
abbrev pub LineEnds : ℕ → List ℕ → Ends
LineEnds separator line output status =
    ((¬ IsPair separator line) × (output ≡ codes "refused pair\n") × (status ≡ Refused))
    ⊎ (IsPair separator line × (PairEnds output status
    ⊎ ((output ≡ codes "cannot read\n") × (status ≡ Failed))
    ⊎ ((output ≡ codes "no memory\n") × (status ≡ Memory))))

-- what stands between two names, how many lines were judged, as far as 64 bits count, and the greatest
-- status among theirs
pub record Tally : Type 0 where
  pub separator : ℕ
  pub count : ℕ
  pub status : Status

-- the status of the greater number
abbrev pub max_status : Status → Status → Status
max_status a b = if nat_lt (code_of a) (code_of b) then b else a

-- one line more, with this status
abbrev pub tallied : Tally → Status → Tally
tallied old status = record {
  separator = old.separator;
  count = min (old.count + 1) (2 ^ 64 - 1);
  status = max_status old.status status;
}

-- the line of a judgement: its number, its status, and what is said
abbrev pub judged_line : ℕ → Status → List ℕ → List ℕ
judged_line number status said =
    decimal number ++ (codes " " ++ (decimal (code_of status) ++ (codes " " ++ said)))

-- a line is answered by that of its judgement, and more lines are taken
pub record AnswersPair (old : Tally) (line text : List ℕ) (goes_on : Bool) (new : Tally) : Type 0 where
  pub said : List ℕ
  pub status : Status
  pub ends : LineEnds old.separator line said status
  pub text_is : text ≡ judged_line new.count status said
  pub new_is : new ≡ tallied old status
  pub more : goes_on ≡ true

-- no line asks for memory but as its answer says
abbrev pub AsksNothing : Tally → List ℕ → Type 0
AsksNothing tally line = ⊥

-- nothing was judged
abbrev pub none_judged : ℕ → Tally
none_judged separator = record { separator = separator; count = 0; status = Done }

-- `judge`: each line that the source gave is answered, and the status is the greatest of theirs
abbrev pub JudgeCommand : LineEnd → ℕ → Left → Ends
JudgeCommand end separator left output status =
    (new : Tally)
    × IsDialogue end AnswersPair (none_judged separator) left.old left.new output new
    × (status ≡ new.status)

-- and where it breaks off
abbrev pub JudgeCommandBreaks : LineEnd → ℕ → Streams → List ℕ → Type 0
JudgeCommandBreaks end separator s line =
    (fault : BenchFault) × (line ≡ complaint_of fault) × ((new : Tally)
    × BreaksDialogue end AnswersPair AsksNothing (none_judged separator) s fault new)
