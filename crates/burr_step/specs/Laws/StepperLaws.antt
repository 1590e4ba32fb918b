-- Laws of the stepper.
use Rattle.std.specs.Prelude.{◌≡◌, ◌≢◌, ◌↔◌, ℕ, ◌+◌, ◌<◌, ℤ, List, ◌++◌}
use Rattle.burr_state.specs.declared.effect.Mode.TheVariants.{Ended}
use Rattle.burr_state.specs.Rules.Bench.{BenchState, Setup, start, HasLabelOf}
use Rattle.burr_state.specs.Rules.Questions.{Fits}
use Rattle.burr_state.specs.Views.Benches.{Benched, setup_of}
use Rattle.burr_state.specs.Views.Benches.{in_state}
use Rattle.burr_state.specs.Rules.Step.{AsksNow}
use Rattle.burr_bench.specs.Soundness.Machine.{IsSafeBench}
use Rattle.burr_step.specs.Rules.Stepper.{Leads, History, history, IsStateOf, IsAsking, StepCommand, Forward, Over, Until, Answer, Back, StepOutcome, Taken, Refused, S1, S2, S3, S4, Commanding, Commanded}

-- from a state, the same number of steps with the same answers leads to one state at most
abbrev pub OneLead : Type 0
OneLead =
    (setup : Setup) (s t u : BenchState) (steps : ℕ) (answers : List ℤ)
    → Leads setup s steps answers t → Leads setup s steps answers u → t ≡ u

-- a command comes to one thing at most
abbrev pub OneOutcome : Type 0
OneOutcome =
    (setup : Setup) (h : History) (s : BenchState) (command : StepCommand)
    (outcome other : StepOutcome)
    → Commanding setup h s command outcome → Commanding setup h s command other → outcome ≡ other

-- a command that is taken comes to the state of the steps and answers that are then fixed
abbrev pub TakenIsThere : Type 0
TakenIsThere =
    (setup : Setup) (h new : History) (s last : BenchState) (command : StepCommand)
    → IsStateOf setup h s → Commanding setup h s command (Taken new last)
    → IsStateOf setup new last

-- each list of commands comes to the state of the steps and answers that are then fixed
abbrev pub CommandsAreThere : Type 0
CommandsAreThere =
    (setup : Setup) (commands : List StepCommand) (h : History) (s : BenchState)
    → Commanded setup commands h s → IsStateOf setup h s

-- going no step back changes nothing
abbrev pub BackNone : Type 0
BackNone =
    (setup : Setup) (h : History) (s : BenchState) → IsStateOf setup h s
    → Commanding setup h s (Back 0) (Taken h s)

-- going back by the steps that were made after a state gives that state, their answers forgotten
abbrev pub BackUndoes : Type 0
BackUndoes =
    (setup : Setup) (h : History) (s last : BenchState) (steps : ℕ) (answers : List ℤ)
    → IsStateOf setup h s → Leads setup s steps answers last
    → Commanding setup (history (h.steps + steps) (h.answers ++ answers)) last (Back steps)
    (Taken h s)

-- going back is refused where it would lead past the start, and only there
abbrev pub BackIsRefused : Type 0
BackIsRefused =
    (setup : Setup) (h : History) (s : BenchState) (steps : ℕ)
    → Commanding setup h s (Back steps) (Refused S4) ↔ (h.steps < steps)

-- going back has an outcome
abbrev pub SomeBack : Type 0
SomeBack =
    (setup : Setup) (h : History) (s : BenchState) (steps : ℕ) → IsStateOf setup h s
    → (outcome : StepOutcome) × Commanding setup h s (Back steps) outcome

-- forward, over and until are refused where the run has ended, and where it waits
abbrev pub GoesOn : StepCommand → Type 0
GoesOn Forward = Unit {0}
GoesOn Over = Unit {0}
GoesOn (Until procedure label) = Unit {0}
GoesOn (Answer answer) = ⊥
GoesOn (Back steps) = ⊥

abbrev pub GoingIsRefused : Type 0
GoingIsRefused =
    (setup : Setup) (h : History) (s : BenchState) (command : StepCommand) → GoesOn command
    → (Commanding setup h s command (Refused S1) ↔ (s.mode ≡ Ended))
    × (Commanding setup h s command (Refused S2) ↔ IsAsking setup s)

-- an answer is refused where the run has ended, and where no question stands that it fits
abbrev pub AnswerIsRefused : Type 0
AnswerIsRefused =
    (setup : Setup) (h : History) (s : BenchState) (answer : ℤ)
    → (Commanding setup h s (Answer answer) (Refused S1) ↔ (s.mode ≡ Ended))
    × (Commanding setup h s (Answer answer) (Refused S3) ↔ ((s.mode ≢ Ended)
    × ((low high : ℤ) → AsksNow setup s low high → ¬ Fits low high answer)))

-- On an accepted plan

-- wherever steps lead a safe bench, it is safe
abbrev pub LeadsSafely : Type 0
LeadsSafely =
    (b : Benched) (last : BenchState) (steps : ℕ) (answers : List ℤ)
    → IsSafeBench b → Leads (setup_of b) b.state steps answers last → IsSafeBench (in_state last b)

-- the label of an `until` is there
abbrev pub HasItsLabel : Setup → StepCommand → Type 0
HasItsLabel setup Forward = Unit {0}
HasItsLabel setup Over = Unit {0}
HasItsLabel setup (Until procedure label) = HasLabelOf setup procedure label
HasItsLabel setup (Answer answer) = Unit {0}
HasItsLabel setup (Back steps) = Unit {0}

-- each command comes to something, `over` and `until` too
abbrev pub SomeOutcome : Type 0
SomeOutcome =
    (b : Benched) (h : History) (command : StepCommand) → IsSafeBench b
    → IsStateOf (setup_of b) h b.state → HasItsLabel (setup_of b) command
    → (outcome : StepOutcome) × Commanding (setup_of b) h b.state command outcome

-- the steps of an accepted plan's run are those that the commands fix
abbrev pub StepsAreCounted : Type 0
StepsAreCounted =
    (b : Benched) (h : History) → IsSafeBench (in_state (start (setup_of b)) b)
    → IsStateOf (setup_of b) h b.state → b.state.steps ≡ h.steps
