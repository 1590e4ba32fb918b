-- What is put for a line of a list.
use Rattle.std.specs.Prelude.{◌≡◌, ℕ, List, Bool, true, Result, Ok, Err}
use Rattle.burr_io.specs.Sink.{SinkView, Takes, FailsWithin}
use Rattle.burr_judge.specs.declared.commands.StepFault.{StepFault}
use Rattle.burr_judge.specs.declared.commands.StepFault.TheVariants.{Write}
use Rattle.burr_judge.specs.declared.status.Status.{Status}
use Rattle.burr_program.specs.declared.commands.judge.Said.{Said}
use Rattle.burr_program.specs.declared.commands.judge.Said.TheVariants as said
use Rattle.burr_program.specs.ListEnds.{Tally, tallied, judged_line}

-- a sink took the line of a judgement, or failed within it, and the judgement is counted
abbrev pub TellsJudged : {S : Type 0} → SinkView S → S → S → Tally → Status → List ℕ
    → Result Bool StepFault → Tally → Type 0
TellsJudged sink before after old status said (Ok goes_on) new =
    (new ≡ tallied old status) × (goes_on ≡ true)
    × Takes sink before after (judged_line new.count status said)
TellsJudged sink before after old status said (Err fault) new =
    (new ≡ tallied old status) × (fault ≡ Write)
    × FailsWithin sink before after (judged_line new.count status said)

-- what is said of a line
abbrev pub bytes_of : Said → List ℕ
bytes_of (said.Printed bytes) = bytes.items
bytes_of (said.Instead words) = words.now
