-- The result of a command, stage by stage: it stops at one, or goes on to the next. For crates above too.
use Rattle.std.proofs.Common.{◌≡◌, false, List, ℕ, ℤ, refl, sym, ap, ◌∙◌, subst, inl, inr}
use Rattle.std.specs.Prelude.{Result, Ok, Err, IfOk, IfErr, codes}
use Rattle.std.specs.Result.{IsErrAnd}
use Rattle.std.proofs.lemmas.Result.{err_from_is_err_and}
use Rattle.burr_io.specs.Sink.{SinkView, Puts}
use Rattle.burr_asm.specs.declared.fault.AsmFault.{AsmFault}
use Rattle.burr_asm.specs.declared.fault.AsmFault.TheVariants as asm
use Rattle.burr_asm.specs.Rules.Assembling.{IsTextFault}
use Rattle.burr_asm.specs.Rules.Faults.{IsFirstFault}
use Rattle.burr_assembly.specs.Rules.Text.{Assembly, IsText}
use Rattle.burr_container.specs.declared.fault.ContainerFault.{ContainerFault}
use Rattle.burr_container.specs.Rules.Faults.{ContainerFails}
use Rattle.burr_container.specs.Views.Containers.{ContainerView, IsContainer}
use Rattle.burr_runs.specs.declared.input.AnswersFault.{AnswersFault}
use Rattle.burr_runs.specs.declared.input.AnswersFault.TheVariants as answers
use Rattle.burr_runs.specs.Rules.Answers.{IsAnswersFault, answers_text}
use Rattle.burr_runs.specs.Rules.Refusals.{container_refusal, answers_refusal}
use Rattle.burr_runs.specs.Rules.Verdicts.{IsPassedBy, IsVerdictLine, accepted_line}
use Rattle.burr_verify.specs.Rules.Accepting.{Judged, judged, IsAccepted, MainCosts}
use Rattle.burr_container.specs.declared.container.Header.{Header}
use Rattle.burr_container.specs.Rules.Plans.{Plan}
use Rattle.burr_state.specs.Views.Benches.{Benched}
use Rattle.burr_state.specs.Views.Programs.{plan_program}
use Rattle.burr_runs.specs.declared.text_runs.Outcome.{Outcome}
use Rattle.burr_runs.specs.Rules.Headline.{PutsSafely, FailsSafely}
use Rattle.burr_runs.specs.Rules.Output.{IsSheetOf}
use Rattle.burr_runs.specs.Views.Running.{PutsSheet, FailsInSheet}
use Rattle.burr_judge.specs.Statuses.{status_of}
use Rattle.burr_judge.specs.declared.fault.Fault.{Fault}
use Rattle.burr_judge.specs.declared.plan_input.PlanInput.{PlanInput}
use Rattle.burr_judge.specs.declared.status.Status.{Status}
use Rattle.burr_judge.specs.declared.status.Status.TheVariants.{Done, Refused}
use Rattle.burr_judge.specs.declared.stop.Stop.{Stop}
use Rattle.burr_judge.specs.declared.stop.Stop.TheVariants as halts
use Rattle.burr_judge.specs.Faults.{line_of, output_failed}
use Rattle.burr_judge.specs.Inputs.{AreBytesOf, IsFor, IsRead, RefusesInput, RefusesPlanBytes}
use Rattle.burr_judge.specs.PlanEnds.{Ends, EndsOn, Ending, PutsEnd, PutsFrontOfEnd, JudgedEnds, plan_refused, plan_accepted, CheckEnds, TryEnds, AnswersEnd, SafeEnds, SheetEnds, TextEnds, InputBytesEnd, ContainerEnds, TextBreaks, InputBreaks, BytesBreak, JudgedBreaks, never}
use Rattle.burr_judge.specs.Refusals.{refusal_text}
use Rattle.burr_judge.specs.Stops.{ResultOn, IsFault, Misfits, Refuses, RefusesText, IsRefusalReported, IsReported, StopsBy, Reports, RefusesAnswers, RefusesPlanText}
use Rattle.burr_judge.proofs.Common.Stages.{AreAmong}

-- the exit of a `?`
pub comes_stopped : {S : Type 0} (sink : SinkView S) (before after : S) (AreEnds : Ends) (Breaks : List ℕ → Type 0) (r : Result Status Stop) (Is : Stop → Type 0)
    → IsErrAnd r Is → ((stop : Stop) → Is stop → StopsBy sink before after AreEnds Breaks stop) → ResultOn sink before after AreEnds Breaks r
comes_stopped sink before after AreEnds Breaks r Is err stops =
    let p = err_from_is_err_and r err in rw p.1 (record { done = tt; stops = stops p.0 p.2 })

-- memory was refused
pub wants_memory : {S : Type 0} {sink : SinkView S} {before : S} {AreEnds : Ends} {Breaks : List ℕ → Type 0} {r : Result Status Stop}
    → IsErrAnd r (IsFault (codes "no memory\n")) → ResultOn sink before before AreEnds Breaks r
wants_memory {S} {sink} {before} {AreEnds} {Breaks} {r} err = comes_stopped sink before before AreEnds Breaks r (IsFault (codes "no memory\n")) err stops
  where
    stops : (stop : Stop) → IsFault (codes "no memory\n") stop → StopsBy sink before before AreEnds Breaks stop
    stops (halts.Fault fault) is = inl (inr (is, refl))
    stops (halts.Refused refused notes) is = absurd is

-- the sink failed in what is to be put
pub fails_to_put : {S : Type 0} {sink : SinkView S} {before after : S} {AreEnds : Ends} {Breaks : List ℕ → Type 0} {r : Result Status Stop}
    → IsErrAnd r (IsFault output_failed) → PutsFrontOfEnd sink before after AreEnds → ResultOn sink before after AreEnds Breaks r
fails_to_put {S} {sink} {before} {after} {AreEnds} {Breaks} {r} err front = comes_stopped sink before after AreEnds Breaks r (IsFault output_failed) err stops
  where
    stops : (stop : Stop) → IsFault output_failed stop → StopsBy sink before after AreEnds Breaks stop
    stops (halts.Fault fault) is = inl (inl (is, front))
    stops (halts.Refused refused notes) is = absurd is

-- what is put is one of the ends, and the sink took it, or failed in it
pub put_ends : {S A E : Type 0} {sink : SinkView S} {before after : S} {AreEnds : Ends} {Breaks : List ℕ → Type 0} {output : List ℕ} {status : Status} {a : A}
    → AreEnds output status → Puts {E = E} sink before after output (Ok a) → ResultOn sink before after AreEnds Breaks (Ok status)
put_ends {output = output} ends puts = record { done = (output, ends, puts.ok); stops = tt }

pub put_fails : {S A E : Type 0} {sink : SinkView S} {before after : S} {AreEnds : Ends} {Breaks : List ℕ → Type 0} {output : List ℕ} (status : Status) {e : E} {r : Result Status Stop}
    → AreEnds output status → Puts {A = A} sink before after output (Err e) → IsErrAnd r (IsFault output_failed) → ResultOn sink before after AreEnds Breaks r
put_fails {output = output} status ends puts err = fails_to_put err (output, status, ends, puts.err)

-- something is refused by such a line, which is one of the ends
pub is_refused : {S : Type 0} {sink : SinkView S} {before : S} {AreEnds : Ends} {Breaks : List ℕ → Type 0} {r : Result Status Stop} (Says : List ℕ → Type 0)
    → ((line : List ℕ) → Says line → AreEnds line Refused) → IsErrAnd r (Refuses Says) → ResultOn sink before before AreEnds Breaks r
is_refused {S} {sink} {before} {AreEnds} {Breaks} {r} Says ends err = comes_stopped sink before before AreEnds Breaks r (Refuses Says) err stops
  where
    stops : (stop : Stop) → Refuses Says stop → StopsBy sink before before AreEnds Breaks stop
    stops (halts.Fault fault) is = inl (inr (is.says, refl))
    stops (halts.Refused refused notes) is = (ends (refusal_text refused notes) is.says, refl)

-- a `?` at a stop hands it on
pub handed : {A : Type 0} (r : Result A Stop) (Is : Stop → Type 0) (stop : Stop) → Is stop → IsErrAnd r (λ e. e ≡ stop) → IsErrAnd r Is
handed {A} r Is stop is err = let p = err_from_is_err_and r err in rw p.1 (subst Is (sym p.2) is)

-- Stages that refuse

pub text_refused : {S : Type 0} {sink : SinkView S} {before : S} {With : Assembly → Ends} {Breaks : List ℕ → Type 0} {text : List ℕ} {r : Result Status Stop} {stop : Stop}
    → Refuses (RefusesText text) stop → IsErrAnd r (λ e. e ≡ stop) → ResultOn sink before before (TextEnds text With) Breaks r
text_refused {text = text} {stop = stop} refuses err =
    is_refused (RefusesText text) (λ line (fault, first, same). inl (fault, first, (same, refl))) (handed _ _ stop refuses err)

pub given_refused : {S : Type 0} {sink : SinkView S} {before : S} {With : List ℕ → Ends} {Breaks : List ℕ → Type 0} {plan : PlanInput} {r : Result Status Stop} {stop : Stop}
    → Refuses (RefusesInput plan) stop → IsErrAnd r (λ e. e ≡ stop) → ResultOn sink before before (InputBytesEnd plan With) Breaks r
given_refused {plan = plan} {stop = stop} refuses err = is_refused (RefusesInput plan) (λ line is. inl (is, refl)) (handed _ _ stop refuses err)

pub bytes_refused : {S : Type 0} {sink : SinkView S} {before : S} {With : ContainerView → Ends} {Breaks : List ℕ → Type 0} {bytes : List ℕ} {r : Result Status Stop} {fault : ContainerFault}
    → ContainerFails 0 bytes fault → IsErrAnd r (Refuses (λ line. line ≡ container_refusal fault)) → ResultOn sink before before (ContainerEnds bytes With) Breaks r
bytes_refused {fault = fault} fails err = is_refused (λ line. line ≡ container_refusal fault) (λ line same. inl (fault, fails, (same, refl))) err

-- Stages that are passed

-- what may be printed at the one stage may be at the other
pub comes_among : {S : Type 0} {sink : SinkView S} {before after : S} {These Those : Ends} {Breaks Others : List ℕ → Type 0} {r : Result Status Stop}
    → AreAmong These Those → ((line : List ℕ) → Breaks line → Others line) → ResultOn sink before after These Breaks r → ResultOn sink before after Those Others r
comes_among {S} {sink} {before} {after} {These} {Those} {Breaks} {Others} {r} among more comes = record { done = done r comes.done; stops = stopped r comes.stops }
  where
    done : (r : Result Status Stop) → IfOk r (PutsEnd sink before after These) → IfOk r (PutsEnd sink before after Those)
    done (Ok status) (output, is, takes) = (output, among output status is, takes)
    done (Err stop) is = tt

    stopped : (r : Result Status Stop) → IfErr r (StopsBy sink before after These Breaks) → IfErr r (StopsBy sink before after Those Others)
    stopped (Ok status) is = tt
    stopped (Err (halts.Refused refused notes)) (is, same) = (among (refusal_text refused notes) Refused is, same)
    stopped (Err (halts.Fault fault)) (inl (inl (line, (output, status, is, fails)))) = inl (inl (line, (output, status, among output status is, fails)))
    stopped (Err (halts.Fault fault)) (inl (inr want)) = inl (inr want)
    stopped (Err (halts.Fault fault)) (inr breaks) = inr (more (line_of fault) breaks)

pub in_text : {S : Type 0} {sink : SinkView S} {before after : S} {With : Assembly → Ends} {text : List ℕ} {a : Assembly} {r : Result Status Stop}
    → IsText text a → ResultOn sink before after (With a) never r → ResultOn sink before after (TextEnds text With) never r
in_text {a = a} is = comes_among (λ output status ends. inr (a, is, ends)) (λ line breaks. breaks)

pub in_given : {S : Type 0} {sink : SinkView S} {before after : S} {With : List ℕ → Ends} {plan : PlanInput} {bytes items : List ℕ} {r : Result Status Stop}
    → AreBytesOf plan items → bytes ≡ items → ResultOn sink before after (With bytes) never r → ResultOn sink before after (InputBytesEnd plan With) never r
in_given {plan = plan} {bytes = bytes} are same = comes_among (λ output status ends. inr (bytes, subst (AreBytesOf plan) (sym same) are, ends)) (λ line breaks. breaks)

pub in_bytes : {S : Type 0} {sink : SinkView S} {before after : S} {With : ContainerView → Ends} {bytes : List ℕ} {kept : ContainerView} {r : Result Status Stop}
    → IsRead bytes kept → ResultOn sink before after (With kept) never r → ResultOn sink before after (ContainerEnds bytes With) never r
in_bytes {kept = kept} is = comes_among (λ output status ends. inr (kept, is, ends)) (λ line breaks. breaks)

-- the same of a command that may break off

pub on_text : {S : Type 0} {sink : SinkView S} {before after : S} {With : Assembly → Ends} {Broken : Assembly → List ℕ → Type 0} {text : List ℕ} {a : Assembly} {r : Result Status Stop}
    → IsText text a → ResultOn sink before after (With a) (Broken a) r → ResultOn sink before after (TextEnds text With) (TextBreaks text Broken) r
on_text {a = a} is = comes_among (λ output status ends. inr (a, is, ends)) (λ line breaks. (a, is, breaks))

pub on_given : {S : Type 0} {sink : SinkView S} {before after : S} {With : List ℕ → Ends} {Broken : List ℕ → List ℕ → Type 0} {plan : PlanInput} {bytes items : List ℕ} {r : Result Status Stop}
    → AreBytesOf plan items → bytes ≡ items → ResultOn sink before after (With bytes) (Broken bytes) r → ResultOn sink before after (InputBytesEnd plan With) (InputBreaks plan Broken) r
on_given {plan = plan} {bytes = bytes} are same =
    let these = subst (AreBytesOf plan) (sym same) are in comes_among (λ output status ends. inr (bytes, these, ends)) (λ line breaks. (bytes, these, breaks))

pub on_bytes : {S : Type 0} {sink : SinkView S} {before after : S} {With : ContainerView → Ends} {Broken : ContainerView → List ℕ → Type 0} {bytes : List ℕ} {kept : ContainerView} {r : Result Status Stop}
    → IsRead bytes kept → ResultOn sink before after (With kept) (Broken kept) r → ResultOn sink before after (ContainerEnds bytes With) (BytesBreak bytes Broken) r
on_bytes {kept = kept} is = comes_among (λ output status ends. inr (kept, is, ends)) (λ line breaks. (kept, is, breaks))

-- A plan text

-- a refusal by one text is one by another
pub refuses_more : (Texts Others : List ℕ → Type 0) (stop : Stop) → ((text : List ℕ) → Texts text → Others text) → Refuses Texts stop → Refuses Others stop
refuses_more Texts Others (halts.Fault fault) among is = record { says = is.says }
refuses_more Texts Others (halts.Refused refused notes) among is = record { says = among (refusal_text refused notes) is.says }

text_fault : (text : List ℕ) (fault : AsmFault) → (fault ≡ asm.Memory → ⊥) → IsTextFault text fault → IsFirstFault text fault
text_fault text fault some (inl memory) = absurd (some memory)
text_fault text fault some (inr first) = first

-- the fault of a plan text as a refusal
pub plan_text_refuses : (text : List ℕ) (fault : AsmFault) (stop : Stop) → IsTextFault text fault → RefusesPlanText fault stop → Refuses (RefusesPlanBytes text) stop
plan_text_refuses text asm.Memory (halts.Fault fault) first is = record { says = is }
plan_text_refuses text asm.Memory (halts.Refused refused notes) first is = absurd is
plan_text_refuses text (asm.P1 n) stop first is = refuses_more _ (RefusesPlanBytes text) stop (λ line same. (asm.P1 n, text_fault text (asm.P1 n) (λ memory. cc) first, same)) is
plan_text_refuses text (asm.P2 n) stop first is = refuses_more _ (RefusesPlanBytes text) stop (λ line same. (asm.P2 n, text_fault text (asm.P2 n) (λ memory. cc) first, same)) is
plan_text_refuses text (asm.P3 n) stop first is = refuses_more _ (RefusesPlanBytes text) stop (λ line same. (asm.P3 n, text_fault text (asm.P3 n) (λ memory. cc) first, same)) is
plan_text_refuses text (asm.P4 n) stop first is = refuses_more _ (RefusesPlanBytes text) stop (λ line same. (asm.P4 n, text_fault text (asm.P4 n) (λ memory. cc) first, same)) is
plan_text_refuses text (asm.P5 n) stop first is = refuses_more _ (RefusesPlanBytes text) stop (λ line same. (asm.P5 n, text_fault text (asm.P5 n) (λ memory. cc) first, same)) is

-- an error of a fact is one of what follows
pub err_weaken : {A E : Type 0} (r : Result A E) (Is Or : E → Type 0) → ((e : E) → Is e → Or e) → IsErrAnd r Is → IsErrAnd r Or
err_weaken (Ok a) Is Or more is = is
err_weaken (Err e) Is Or more is = more e is

-- A call that returns what it makes

pub refused_among : {A : Type 0} (Texts Others : List ℕ → Type 0) (r : Result A Stop) → ((text : List ℕ) → Texts text → Others text) → IsErrAnd r (Refuses Texts) → IfErr r (Refuses Others)
refused_among Texts Others r among err = let p = err_from_is_err_and r err in rw p.1 (refuses_more Texts Others p.0 among p.2)

-- What is reported

pub told_ending : {S : Type 0} {sink : SinkView S} {before mid after : S} {AreEnds : Ends} {done : Result Status Stop} {r : Result Status Fault} (Breaks : S → List ℕ → Type 0)
    → ResultOn sink before mid AreEnds (Breaks mid) done → Reports sink mid after done r → Ending sink before after AreEnds (Breaks after) r
told_ending {S} {sink} {before} {mid} {after} {AreEnds} {done} {r} Breaks result reports = told done result.done result.stops reports.told
  where
    refused : (text : List ℕ) (r : Result Status Fault) → AreEnds text Refused → IsRefusalReported sink before after text r → Ending sink before after AreEnds (Breaks after) r
    refused text (Ok status) ends (is, takes) = ((text, subst (AreEnds text) (sym is) ends, takes), tt)
    refused text (Err fault) ends (line, failed, fails) = (tt, inl (inl (line, (text, Refused, ends, fails))))

    told : (done : Result Status Stop) → IfOk done (PutsEnd sink before mid AreEnds) → IfErr done (StopsBy sink before mid AreEnds (Breaks mid)) → IsReported sink mid after done r
        → Ending sink before after AreEnds (Breaks after) r
    told (Ok status) ends none (is, same) = rw (is, same) (ends, tt)
    told (Err (halts.Fault fault)) none stops (is, same) = rw (is, same) (tt, stops)
    told (Err (halts.Refused said notes)) none (ends, kept) reports = refused (refusal_text said notes) r ends (subst (λ x. IsRefusalReported sink x after (refusal_text said notes) r) kept reports)

pub told_ends : {S : Type 0} {sink : SinkView S} {before mid after : S} {AreEnds : Ends} {done : Result Status Stop} {r : Result Status Fault}
    → ResultOn sink before mid AreEnds never done → Reports sink mid after done r → EndsOn sink before after AreEnds r
told_ends {S} {sink} {before} {mid} {after} {AreEnds} {done} {r} comes tells = unbroken r (told_ending (λ x. never) comes tells)
  where
    unbroken : (r : Result Status Fault) → Ending sink before after AreEnds never r → EndsOn sink before after AreEnds r
    unbroken (Ok status) ending = ending
    unbroken (Err fault) (none, inl fails) = (tt, fails)
    unbroken (Err fault) (none, inr breaks) = absurd breaks

-- A plan that is judged

pub check_refused : {S : Type 0} {sink : SinkView S} {before : S} {Breaks : List ℕ → Type 0} {kept : ContainerView} {a : Assembly} {r : Result Status Stop} {stop : Stop}
    → Refuses (IsVerdictLine kept a false) stop → IsErrAnd r (λ e. e ≡ stop) → ResultOn sink before before (CheckEnds kept a) Breaks r
check_refused {kept = kept} {a = a} {stop = stop} refuses err = is_refused (IsVerdictLine kept a false) (λ line is. inr (is, refl)) (handed _ _ stop refuses err)

pub judged_refused : {S : Type 0} {sink : SinkView S} {before : S} {With : Judged → Ends} {Breaks : List ℕ → Type 0} {kept : ContainerView} {a : Assembly} {r : Result Status Stop} {stop : Stop}
    → Refuses (IsVerdictLine kept a false) stop → IsErrAnd r (λ e. e ≡ stop) → ResultOn sink before before (JudgedEnds kept a With) Breaks r
judged_refused {kept = kept} {a = a} {stop = stop} refuses err = is_refused (IsVerdictLine kept a false) (λ line is. plan_refused (is, refl)) (handed _ _ stop refuses err)

pub misfit_refused : {S : Type 0} {sink : SinkView S} {before : S} {text : List ℕ} {Breaks : List ℕ → Type 0} {kept : ContainerView} {a : Assembly} {r : Result Status Stop} {stop : Stop}
    → Refuses (Misfits kept a) stop → IsErrAnd r (λ e. e ≡ stop) → ResultOn sink before before (TryEnds kept a text) Breaks r
misfit_refused {kept = kept} {a = a} {stop = stop} refuses err = is_refused (Misfits kept a) (λ line is. inl (is.0, (is.1, refl))) (handed _ _ stop refuses err)

pub in_accepted : {S : Type 0} {sink : SinkView S} {before after : S} {With : Judged → Ends} {Breaks : List ℕ → Type 0} {kept : ContainerView} {a : Assembly} {j : Judged} {r : Result Status Stop}
    → j ≡ judged kept a → IsAccepted j → ResultOn sink before after (With j) Breaks r → ResultOn sink before after (JudgedEnds kept a With) Breaks r
in_accepted {With = With} is passes comes =
    comes_among (λ output status ends. plan_accepted (subst IsAccepted is passes) (subst (λ x. With x output status) is ends)) (λ line breaks. breaks) comes

pub on_accepted : {S : Type 0} {sink : SinkView S} {before after : S} {With : Judged → Ends} {Broken : Judged → List ℕ → Type 0} {kept : ContainerView} {a : Assembly} {j : Judged} {r : Result Status Stop}
    → j ≡ judged kept a → IsAccepted j → ResultOn sink before after (With j) (Broken j) r → ResultOn sink before after (JudgedEnds kept a With) (JudgedBreaks kept a Broken) r
on_accepted {With = With} {Broken = Broken} is passes comes =
    comes_among (λ output status ends. plan_accepted (subst IsAccepted is passes) (subst (λ x. With x output status) is ends))
    (λ line breaks. record { accepted = subst IsAccepted is passes; breaks = subst (λ x. Broken x line) is breaks }) comes

pub check_is : {kept : ContainerView} {a : Assembly} {j : Judged} {cost looks : ℕ} {header : Header} → j ≡ judged kept a → IsAccepted j → IsPassedBy kept a looks → MainCosts j cost
    → header ≡ kept.header → CheckEnds kept a (accepted_line cost header.budget looks) Done
check_is {cost = cost} {looks = looks} is accepted passed costs same =
    inl ((subst IsAccepted is accepted, cost, looks, subst (λ x. MainCosts x cost) is costs, passed, ap (λ h. accepted_line cost h.budget looks) same), refl)

pub in_fitting : {S : Type 0} {sink : SinkView S} {before after : S} {Breaks : List ℕ → Type 0} {text : List ℕ} {kept : ContainerView} {a : Assembly} {r : Result Status Stop}
    → IsFor kept a → ResultOn sink before after (AnswersEnd text (SheetEnds kept a)) Breaks r → ResultOn sink before after (TryEnds kept a text) Breaks r
in_fitting for comes = comes_among (λ output status ends. inr (for, ends)) (λ line breaks. breaks) comes

-- Answers

pub answers_refused : {S : Type 0} {sink : SinkView S} {before : S} {With : List ℤ → Ends} {Breaks : List ℕ → Type 0} {text : List ℕ} {r : Result Status Stop} (fault : AnswersFault)
    → IsAnswersFault text fault → IsErrAnd r (RefusesAnswers fault) → ResultOn sink before before (AnswersEnd text With) Breaks r
answers_refused {S} {sink} {before} {With} {Breaks} {text} {r} fault is err = comes fault is err
  where
    comes : (fault : AnswersFault) → IsAnswersFault text fault → IsErrAnd r (RefusesAnswers fault) → ResultOn sink before before (AnswersEnd text With) Breaks r
    comes answers.Memory is err = wants_memory err
    comes (answers.Line n) is err = is_refused (λ line. line ≡ answers_refusal n) (λ line same. inl (answers.Line n, is, (same, refl))) err

pub in_answers : {S : Type 0} {sink : SinkView S} {before after : S} {With : List ℤ → Ends} {Breaks : List ℕ → Type 0} {text : List ℕ} (answers items : List ℤ) {r : Result Status Stop}
    → text ≡ answers_text items → answers ≡ items → ResultOn sink before after (With answers) Breaks r → ResultOn sink before after (AnswersEnd text With) Breaks r
in_answers answers items read same = comes_among (λ output status ends. inr (answers, read ∙ ap answers_text (sym same), ends)) (λ line breaks. breaks)

-- Runs

pub safe_done : {S : Type 0} {sink : SinkView S} {before after : S} {Breaks : List ℕ → Type 0} (j : Judged) (answers : List ℤ) (outcome : Outcome) {status : Status}
    → PutsSafely sink before after j answers outcome → status ≡ status_of outcome → ResultOn sink before after (SafeEnds j answers) Breaks (Ok status)
safe_done j answers outcome (p, is, output, safe, takes) same = record { done = (output, (p, is, outcome, safe, same), takes); stops = tt }

pub safe_fails : {S : Type 0} {sink : SinkView S} {before after : S} {Breaks : List ℕ → Type 0} (j : Judged) (answers : List ℤ) {r : Result Status Stop}
    → FailsSafely sink before after j answers → IsErrAnd r (IsFault output_failed) → ResultOn sink before after (SafeEnds j answers) Breaks r
safe_fails j answers (p, is, output, outcome, safe, fails) err = fails_to_put err (output, status_of outcome, (p, is, outcome, safe, refl), fails)

-- the bench has the container's plan
sheet_is : (kept : ContainerView) (a : Assembly) (b : Benched) (answers : List ℤ) (output : List ℕ) (outcome : Outcome) → b.assembly ≡ a
    → ((p : Plan) → IsContainer kept p → b.program ≡ plan_program p) → IsSheetOf b.assembly b.program answers output outcome
    → (p : Plan) → IsContainer kept p → IsSheetOf a (plan_program p) answers output outcome
sheet_is kept a b answers output outcome same programs is p of =
    subst (λ q. IsSheetOf a q answers output outcome) (programs p of) (subst (λ x. IsSheetOf x b.program answers output outcome) same is)

pub sheet_done : {S : Type 0} {sink : SinkView S} {before after : S} {Breaks : List ℕ → Type 0} {kept : ContainerView} {a : Assembly} (b : Benched) (answers : List ℤ) (outcome : Outcome) {status : Status}
    → b.assembly ≡ a → ((p : Plan) → IsContainer kept p → b.program ≡ plan_program p) → PutsSheet sink before after b.assembly b.program answers outcome → status ≡ status_of outcome
    → ResultOn sink before after (SheetEnds kept a answers) Breaks (Ok status)
sheet_done {kept = kept} {a = a} b answers outcome assembly programs (output, is, takes) same =
    record { done = (output, (outcome, sheet_is kept a b answers output outcome assembly programs is, same), takes); stops = tt }

pub sheet_fails : {S : Type 0} {sink : SinkView S} {before after : S} {Breaks : List ℕ → Type 0} {kept : ContainerView} {a : Assembly} (b : Benched) (answers : List ℤ) {r : Result Status Stop}
    → b.assembly ≡ a → ((p : Plan) → IsContainer kept p → b.program ≡ plan_program p) → FailsInSheet sink before after b.assembly b.program answers → IsErrAnd r (IsFault output_failed)
    → ResultOn sink before after (SheetEnds kept a answers) Breaks r
sheet_fails {kept = kept} {a = a} b answers assembly programs (output, outcome, is, fails) err =
    fails_to_put err (output, status_of outcome, (outcome, sheet_is kept a b answers output outcome assembly programs is, refl), fails)

-- The whole way to a plan and its assembly

pub in_container : {S : Type 0} {sink : SinkView S} {before after : S} {With : Assembly → ContainerView → Ends} {text : List ℕ} {a : Assembly} {bytes : List ℕ} {kept : ContainerView} {r : Result Status Stop}
    → IsText text a → IsRead bytes kept → ResultOn sink before after (With a kept) never r
    → ResultOn sink before after (TextEnds text (λ b. ContainerEnds bytes (With b))) never r
in_container text read comes = in_text text (in_bytes read comes)

-- the same of a command that may break off

pub on_container : {S : Type 0} {sink : SinkView S} {before after : S} {With : Assembly → ContainerView → Ends} {Broken : Assembly → ContainerView → List ℕ → Type 0} {text : List ℕ} {a : Assembly} {bytes : List ℕ} {kept : ContainerView} {r : Result Status Stop}
    → IsText text a → IsRead bytes kept → ResultOn sink before after (With a kept) (Broken a kept) r
    → ResultOn sink before after (TextEnds text (λ b. ContainerEnds bytes (With b))) (TextBreaks text (λ b. BytesBreak bytes (Broken b))) r
on_container text read comes = on_text text (on_bytes read comes)
