-- The result of `why` and `trace`, stage by stage: what is printed, and notes below it.
use Rattle.std.proofs.Common.{◌≡◌, ◌++◌, List, ℕ, [], refl, sym, inl, inr}
use Rattle.std.specs.Prelude.{Result}
use Rattle.std.specs.Result.{IsErrAnd}
use Rattle.std.proofs.lemmas.List.{append-nil}
use Rattle.burr_io.specs.Sink.{SinkView}
use Rattle.burr_asm.specs.Rules.Assembling.{IsAssembled}
use Rattle.burr_assembly.specs.Rules.Text.{Assembly, IsText}
use Rattle.burr_container.specs.declared.fault.ContainerFault.{ContainerFault}
use Rattle.burr_container.specs.Rules.Faults.{ContainerFails}
use Rattle.burr_container.specs.Views.Containers.{ContainerView}
use Rattle.burr_runs.specs.Rules.Refusals.{container_refusal}
use Rattle.burr_judge.specs.declared.status.Status.{Status}
use Rattle.burr_judge.specs.declared.status.Status.TheVariants.{Refused}
use Rattle.burr_judge.specs.declared.stop.Stop.{Stop}
use Rattle.burr_judge.specs.declared.tasks.Task.{Task}
use Rattle.burr_judge.specs.declared.tasks.Task.TheVariants.{Try}
use Rattle.burr_lines.specs.FilledTexts.{IsFilledIn}
use Rattle.burr_judge.specs.Inputs.{IsRead, RefusesPlanBytes}
use Rattle.burr_judge.specs.PlanEnds.{Ends, TaskEnds}
use Rattle.burr_judge.specs.Stops.{Noted, Refuses, RefusesText, ResultOn}
use Rattle.burr_judge.proofs.Common.Results.{comes_among, handed, is_refused}
use Rattle.burr_program.specs.NotedEnds.{Begins, NotedEnds, TracedEnds}

module _ {S : Type 0} {sink : SinkView S} (task : Task) {drawing plan : List ℕ} (answers : List ℕ) {r : Result Status Stop} {Breaks : List ℕ → Type 0} where
  -- the assembly's text is refused
  pub text_noted : {before : S} {stop : Stop} → Refuses (Noted (RefusesText drawing)) stop → IsErrAnd r (λ e. e ≡ stop) → ResultOn sink before before (NotedEnds task drawing plan answers) Breaks r
  text_noted {stop = stop} refuses err =
      is_refused (Noted (RefusesText drawing)) (λ line (first, more, parts, (fault, fails, says)). (first, more, parts, inl (fault, fails, (says, refl)))) (handed _ _ stop refuses err)

  -- the plan text is refused
  pub plan_text_noted : {before : S} {stop : Stop} (a : Assembly) (text : List ℕ) → IsText drawing a → text ≡ plan → Refuses (Noted (RefusesPlanBytes text)) stop → IsErrAnd r (λ e. e ≡ stop)
      → ResultOn sink before before (NotedEnds task drawing plan answers) Breaks r
  plan_text_noted {stop = stop} a text is same refuses err = rw (← same)
      (is_refused (Noted (RefusesPlanBytes text)) (λ line (first, more, parts, (fault, fails, says)). (first, more, parts, inr (a, is, inl (fault, fails, (says, refl))))) (handed _ _ stop refuses err))

  -- its container is refused
  pub container_noted : {before : S} (a : Assembly) (text bytes : List ℕ) (fault : ContainerFault) → IsText drawing a → text ≡ plan → IsAssembled text bytes → ContainerFails 0 bytes fault
      → IsErrAnd r (Refuses (λ line. line ≡ container_refusal fault)) → ResultOn sink before before (NotedEnds task drawing plan answers) Breaks r
  container_noted a text bytes fault is same assembled fails err = rw (← same)
      (is_refused (λ line. line ≡ container_refusal fault) (λ line says. (line, [], sym (append-nil line), inr (a, is, inr (bytes, assembled, inl (fault, fails, (says, refl)))))) err)

  -- the task ends so
  pub task_noted : {before after : S} (a : Assembly) (text bytes : List ℕ) (kept : ContainerView) → IsText drawing a → text ≡ plan → IsAssembled text bytes → IsRead bytes kept
      → ResultOn sink before after (Begins (TaskEnds task kept a answers)) Breaks r → ResultOn sink before after (NotedEnds task drawing plan answers) Breaks r
  task_noted a text bytes kept is same assembled read comes = rw (← same)
      (comes_among (λ output status (first, more, parts, ends). (first, more, parts, inr (a, is, inr (bytes, assembled, inr (kept, read, ends))))) (λ line breaks. breaks) comes)

-- a refusal with notes
pub noted_refused : {S : Type 0} {sink : SinkView S} {before : S} {AreEnds : Ends} {Breaks : List ℕ → Type 0} {r : Result Status Stop} {stop : Stop} (Texts : List ℕ → Type 0)
    → ((text : List ℕ) → Texts text → AreEnds text Refused) → Refuses (Noted Texts) stop → IsErrAnd r (λ e. e ≡ stop) → ResultOn sink before before (Begins AreEnds) Breaks r
noted_refused {stop = stop} Texts ends refuses err =
    is_refused (Noted Texts) (λ line (first, more, parts, is). (first, more, parts, ends first is)) (handed _ _ stop refuses err)

-- nothing is said below
pub said_alone : {S : Type 0} {sink : SinkView S} {before after : S} {AreEnds : Ends} {Breaks : List ℕ → Type 0} {r : Result Status Stop}
    → ResultOn sink before after AreEnds Breaks r → ResultOn sink before after (Begins AreEnds) Breaks r
said_alone comes = comes_among (λ output status ends. (output, [], sym (append-nil output), ends)) (λ line breaks. breaks) comes

-- the text that is run has frames that say nothing
pub traced : {S : Type 0} {sink : SinkView S} {before after : S} {drawing source framed answers : List ℕ} {Breaks : List ℕ → Type 0} {r : Result Status Stop}
    → IsFilledIn source framed → ResultOn sink before after (NotedEnds Try drawing framed answers) Breaks r → ResultOn sink before after (TracedEnds drawing source answers) Breaks r
traced {framed = framed} filled comes = comes_among (λ output status ends. (framed, filled, ends)) (λ line breaks. breaks) comes
