-- How a dialogue about an accepted plan ends, or breaks off, and how a run is opened.
use Rattle.std.proofs.Common.{◌≡◌, ◌≢◌, List, ℕ, [], ◌++◌, refl, sym, ap, subst, ◌∙◌, inl, inr}
use Rattle.std.specs.Prelude.{Option, Result, Ok}
use Rattle.std.specs.Result.{IsErrAnd}
use Rattle.std.specs.Io.KnownBytes.{Appends, append_known}
use Rattle.hex.specs.Hex.{encode_lower}
use Rattle.sha2.specs.Sha256.{sha256}
use Rattle.std.proofs.KnownBytes.{Appends-trans}
use Rattle.burr_io.specs.Sink.{SinkView, Takes}
use Rattle.burr_io.specs.Source.{SourceView}
use Rattle.burr_io.specs.LineWriter.{Lines, lines_view}
use Rattle.burr_io.proofs.Common.Lines.{nothing_held}
use Rattle.burr_assembly.specs.Rules.Text.{Assembly, IsText}
use Rattle.burr_container.specs.Views.Containers.{ContainerView}
use Rattle.burr_verify.specs.Rules.Accepting.{Judged, judged, IsAccepted}
use Rattle.burr_step.specs.Views.Driving.{Driving, IsReady}
use Rattle.burr_step.specs.Views.Stepping.{Stepping, IsFresh}
use Rattle.burr_runs.specs.declared.input.BenchFault.{BenchFault}
use Rattle.burr_runs.specs.Views.BenchText.{Streams, streams}
use Rattle.burr_judge.specs.Views.Commanding.{StepAnswers, IsAnswerLine}
use Rattle.burr_judge.specs.Views.DriveLines.{DriveAnswers, AsksNone}
use Rattle.burr_judge.specs.Views.Dialogues.{EndsDialogue, BreaksDialogue}
use Rattle.burr_judge.specs.declared.dialogue.LineEnd.TheVariants.{LineFeed}
use Rattle.burr_judge.specs.declared.status.Status.{Status}
use Rattle.burr_judge.specs.declared.status.Status.TheVariants.{Done, Refused, Waiting}
use Rattle.burr_judge.specs.declared.stop.Stop.{Stop}
use Rattle.burr_judge.specs.declared.stop.Stop.TheVariants as halts
use Rattle.burr_judge.specs.declared.plan_input.PlanInput.{PlanInput}
use Rattle.burr_judge.specs.DriveEnds.{DriveBreaks, DriveEnds, DriveTextBreaks, DriveTextEnds, LedEnds, LeavesWith, LedBreaks, FailsInReady, ready_line, ready_text}
use Rattle.burr_judge.specs.Faults.{complaint_of, output_failed}
use Rattle.burr_judge.specs.Inputs.{AreBytesOf, IsRead}
use Rattle.burr_judge.specs.OpenEnds.{Beginnings, IsOpened}
use Rattle.burr_judge.specs.PlanEnds.{Ends, JudgedBreaks}
use Rattle.burr_judge.specs.StepEnds.{Left, left_by, DialogueBreaks, DialogueEnds, ReadsIfAccepted}
use Rattle.burr_judge.specs.Stops.{ResultOn, IsFault, StopsBy}
use Rattle.burr_judge.proofs.Common.Results.{comes_among, comes_stopped}
use Rattle.burr_judge.proofs.Common.Stages.{AreAmong}

-- where nothing is held back, what the sink took is put whole
pub put_whole : {S : Type 0} (sink : SinkView S) (before after : Lines S) (text : List ℕ) → before.held ≡ [] → after.held ≡ [] → Takes sink before.sink after.sink text
    → Takes (lines_view sink) before after text
put_whole sink before after text none nothing took =
    subst (λ (x : Option (List ℕ)). Appends x (append_known (sink.taken after.sink) after.held) text) (sym (nothing_held sink before none))
    (subst (λ (x : Option (List ℕ)). Appends (sink.taken before.sink) x text) (sym (nothing_held sink after nothing)) took)

-- the command breaks off with a fault that this line tells
pub broken : {S : Type 0} {sink : SinkView S} {before after : S} {AreEnds : Ends} {Breaks : List ℕ → Type 0} {r : Result Status Stop} (line : List ℕ)
    → Breaks line → IsErrAnd r (IsFault line) → ResultOn sink before after AreEnds Breaks r
broken {S} {sink} {before} {after} {AreEnds} {Breaks} {r} line breaks err = comes_stopped sink before after AreEnds Breaks r (IsFault line) err stops
  where
    stops : (stop : Stop) → IsFault line stop → StopsBy sink before after AreEnds Breaks stop
    stops (halts.Fault fault) is = inr (subst Breaks (sym is) breaks)
    stops (halts.Refused refused notes) is = absurd is

-- Sources that are left alone

-- the source is as it was
pub unread : {S : Type 0} {sink : SinkView S} {before after : S} {AreEnds : Ends} {Breaks : List ℕ → Type 0} {r : Result Status Stop} (left : Left)
    → left.new ≡ left.old → ResultOn sink before after AreEnds Breaks r → ResultOn sink before after (ReadsIfAccepted left AreEnds) Breaks r
unread left same = comes_among (λ output status ends. (ends, λ refused. same)) (λ line breaks. breaks)

-- nothing is refused
pub read_on : {S : Type 0} {sink : SinkView S} {before after : S} {AreEnds : Ends} {Breaks : List ℕ → Type 0} {status : Status} (left : Left)
    → status ≢ Refused → ResultOn sink before after AreEnds Breaks (Ok status) → ResultOn sink before after (ReadsIfAccepted left AreEnds) Breaks (Ok status)
read_on left some result = let (output, ends, takes) = result.done in record { done = (output, (ends, λ refused. absurd (some refused)), takes); stops = tt }

-- what may be printed at the one stage may be at the other
pub reads_among : {S : Type 0} {sink : SinkView S} {before after : S} {These Those : Ends} {Breaks Others : List ℕ → Type 0} {r : Result Status Stop} (left : Left)
    → AreAmong These Those → ((line : List ℕ) → Breaks line → Others line) → ResultOn sink before after (ReadsIfAccepted left These) Breaks r → ResultOn sink before after (ReadsIfAccepted left Those) Others r
reads_among left among = comes_among (λ output status (ends, same). (among output status ends, same))

-- the plan is accepted, and the command breaks off
pub broke_off : {S : Type 0} {sink : SinkView S} {before after : S} {AreEnds : Ends} {Others : List ℕ → Type 0} {kept : ContainerView} {a : Assembly} {j : Judged} {r : Result Status Stop} (Broken : Judged → List ℕ → Type 0)
    → j ≡ judged kept a → IsAccepted j → ((line : List ℕ) → JudgedBreaks kept a Broken line → Others line) → ResultOn sink before after (λ output status. ⊥) (Broken j) r → ResultOn sink before after AreEnds Others r
broke_off Broken is passes more =
    comes_among (λ output status none. absurd none) (λ line breaks. more line (record { accepted = subst IsAccepted is passes; breaks = subst (λ x. Broken x line) is breaks }))

-- A stepper

module _ {R S : Type 0} (source : SourceView R) (first last : R) (sink : SinkView S) (before after : Lines S) where
  pub dialogue_done : {Breaks : List ℕ → Type 0} (j : Judged) (old new : Stepping) → before.held ≡ [] → after.held ≡ [] → IsFresh j old
      → EndsDialogue LineFeed StepAnswers old (streams source first last sink before.sink after.sink) new
      → ResultOn (lines_view sink) before after (DialogueEnds (left_by source first last) j) Breaks (Ok Done)
  dialogue_done j old new none nothing fresh (text, dialogue, took) =
      record { done = (text, (refl, (old, new, fresh, dialogue)), put_whole sink before after text none nothing took); stops = tt }

  pub dialogue_broken : {AreEnds : Ends} (j : Judged) (old new : Stepping) (fault : BenchFault) {r : Result Status Stop} → IsFresh j old
      → BreaksDialogue LineFeed StepAnswers IsAnswerLine old (streams source first last sink before.sink after.sink) fault new → IsErrAnd r (IsFault (complaint_of fault))
      → ResultOn (lines_view sink) before after AreEnds (DialogueBreaks (streams source first last sink before.sink after.sink) j) r
  dialogue_broken j old new fault fresh breaks = broken (complaint_of fault) (fault, refl, (old, new, fresh, breaks))

-- A drive

module _ {R S : Type 0} (source : SourceView R) (first last : R) (sink : SinkView S) (before mid after : Lines S) (ready : List ℕ) (j : Judged) where
  -- the dialogue has ended, and nothing is held back
  pub led_done : {Breaks : List ℕ → Type 0} (old new : Driving) (status : Status) → before.held ≡ [] → after.held ≡ [] → IsReady j old → Takes sink before.sink mid.sink ready
      → EndsDialogue LineFeed DriveAnswers old (streams source first last sink mid.sink after.sink) new → LeavesWith new status
      → ResultOn (lines_view sink) before after (LedEnds (left_by source first last) ready j) Breaks (Ok status)
  led_done old new status none nothing begins began (said, dialogue, took) leaves =
      let both : Appends (sink.taken before.sink) (sink.taken after.sink) (ready ++ said) =
      Appends-trans (sink.taken before.sink) (sink.taken mid.sink) (sink.taken after.sink) ready said began took in
      record {
        done = (ready ++ said, (old, new, said, begins, dialogue, refl, leaves), put_whole sink before after (ready ++ said) none nothing both);
        stops = tt;
      }

  -- the dialogue broke off
  pub led_broken : {AreEnds : Ends} (old new : Driving) (fault : BenchFault) {r : Result Status Stop} → IsReady j old → Takes sink before.sink mid.sink ready
      → BreaksDialogue LineFeed DriveAnswers AsksNone old (streams source first last sink mid.sink after.sink) fault new → IsErrAnd r (IsFault (complaint_of fault))
      → ResultOn (lines_view sink) before after AreEnds (LedBreaks (streams source first last sink before.sink after.sink) ready j) r
  led_broken old new fault begins began breaks = broken (complaint_of fault) (inr (sink.taken mid.sink, began, (fault, refl, (old, new, begins, breaks))))

-- the sink failed in the line that says that the run is ready
pub begin_stops : {R S : Type 0} (source : SourceView R) (first : R) (sink : SinkView S) (before after : Lines S) (ready : List ℕ) (j : Judged) {AreEnds : Ends} {r : Result Status Stop}
    → FailsInReady sink before after ready → IsErrAnd r (IsFault output_failed)
    → ResultOn (lines_view sink) before after AreEnds (LedBreaks (streams source first first sink before.sink after.sink) ready j) r
begin_stops source first sink before after ready j (holds, failed) = broken output_failed (inl (refl, holds, failed, refl))

-- the line with a digest is that of what it is of
pub digest_is_of : (text : List ℕ) {bytes items digest : List ℕ} → digest ≡ encode_lower (sha256 (text ++ items)) → items ≡ bytes → ready_line digest ≡ ready_text text bytes
digest_is_of text is same = ap ready_line (is ∙ ap (λ b. encode_lower (sha256 (text ++ b))) same)

-- the drive of a plan is that of its text or its container
pub reads_plan : {S : Type 0} {sink : SinkView S} {before after : S} (left : Left) (s : Streams) {text : List ℕ} {plan : PlanInput} {a : Assembly} {bytes items ready : List ℕ} {kept : ContainerView} {r : Result Status Stop}
    → IsText text a → AreBytesOf plan items → bytes ≡ items → IsRead bytes kept → ready ≡ ready_text text bytes
    → ResultOn sink before after (ReadsIfAccepted left (DriveEnds left ready kept a)) (DriveBreaks s ready kept a) r
    → ResultOn sink before after (DriveTextEnds left text plan) (DriveTextBreaks s text plan) r
reads_plan left s {plan = plan} {a = a} {bytes = bytes} {kept = kept} is are same read says =
    let given = subst (AreBytesOf plan) (sym same) are in
    reads_among left (λ output status ends. inr (a, is, inr (bytes, given, inr (kept, read, subst (λ line. DriveEnds left line kept a output status) says ends))))
    (λ line breaks. (a, is, (bytes, given, (kept, read, subst (λ ready. DriveBreaks s ready kept a line) says breaks))))

-- A run that is kept

pub opened_is : {Kept : Type 0} (Begins : Beginnings Kept) {text bytes : List ℕ} {a : Assembly} {kept : ContainerView} {j : Judged} {run : Kept}
    → IsText text a → IsRead bytes kept → j ≡ judged kept a → IsAccepted j → Begins j run → IsOpened Begins text bytes run
opened_is Begins {a = a} {kept = kept} {run = run} is read same accepted begins =
    (a, is, (kept, read, (subst IsAccepted same accepted, subst (λ x. Begins x run) same begins)))

-- a drive is left with another status than that of a refusal
pub leaves_unrefused : (d : Driving) (status : Status) → LeavesWith d status → status ≢ Refused
leaves_unrefused d status (inl (asks, same)) = λ refused. let other : Waiting ≡ Refused = sym same ∙ refused in cc
leaves_unrefused d status (inr (none, same)) = λ refused. let other : Done ≡ Refused = sym same ∙ refused in cc
