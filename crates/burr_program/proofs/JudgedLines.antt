-- Lines of a list of pairs of names, and what is told of them.
use Rattle.std.proofs.Common.{◌≡◌, ◌≢◌, ℕ, List, [], ◌∷◌, ◌++◌, length, take, Bool, true, false, Contains, Bor, Option, Some, None, Result, Ok, Err, refl, sym, subst, ◌∙◌, inl, inr, arith}
use Rattle.std.specs.Prelude.{◌≤◌, IfOk, IfErr, MatchResult, codes, decimal}
use Rattle.std.specs.Result.{result_ok}
use Rattle.burr_judge.specs.Statuses.{code_of}
use Rattle.std.specs.Io.KnownBytes.{Appends}
use Rattle.std.specs.Str.{IsUtf8}
use Rattle.std.proofs.lemmas.List.{length-take, take_all}
use Rattle.std.proofs.lemmas.Option.{none-some}
use Rattle.burr_text.specs.Words.{IsCutAt}
use Rattle.burr_text.proofs.Common.Cuts.{cut, lacks, contains_cut}
use Rattle.burr_io.specs.Sink.{SinkView, Takes}
use Rattle.burr_judge.specs.declared.commands.StepFault.{StepFault}
use Rattle.burr_judge.specs.declared.dialogue.TheConstants.{MAX_LINE}
use Rattle.burr_judge.specs.declared.status.Status.{Status}
use Rattle.burr_judge.specs.declared.stop.Stop.{Stop}
use Rattle.burr_judge.specs.declared.stop.Stop.TheVariants as halts
use Rattle.burr_judge.specs.PlanEnds.{Ends}
use Rattle.burr_judge.specs.Refusals.{refusal_text}
use Rattle.burr_judge.specs.Stops.{Reports}
use Rattle.burr_program.specs.Commands.{FileResult}
use Rattle.burr_judge.specs.Views.Dialogues.{PutsAnswer, FailsInAnswer, TellsByFront}
use Rattle.burr_program.specs.ListEnds.{ArePair, IsPair, LineEnds, PairEnds, Tally, AnswersPair, AsksNothing, tallied, judged_line}
use Rattle.burr_program.specs.Judging.{TellsJudged}

-- Pairs

-- a line is cut in one way, so where the names before and after it are no pair it has none
pub unless_pair : (separator : ℕ) (line a p : List ℕ) → IsCutAt separator line a p → ¬ ArePair separator line a p → ¬ IsPair separator line
unless_pair separator line a p first none (b, q, is) =
    let same : (b ≡ a) × (q ≡ p) = cut separator b a q p (lacks separator b is.cut.first) (lacks separator a first.first) (sym is.cut.parts ∙ first.parts) in
    none (subst (λ (x : List ℕ). ArePair separator line x p) same.0 (subst (λ (y : List ℕ). ArePair separator line b y) same.1 is))

-- where it can't be cut it is no pair
pub unless_cut : (separator : ℕ) (line : List ℕ) → ¬ Contains line separator → ¬ IsPair separator line
unless_cut separator line none (a, p, is) = none (subst (λ (l : List ℕ). Contains l separator) (sym is.cut.parts) (contains_cut separator a p))

-- bytes that are not read are no text
pub unread : {E : Type 0} (bytes : List ℕ) (r : Result (Bor (List ℕ)) E) (Q : E → Type 0) → None ≡ result_ok r
    → MatchResult r (λ s. (s.now ≡ bytes) × IsUtf8 bytes) (λ e. ¬ IsUtf8 bytes × Q e) → ¬ IsUtf8 bytes
unread bytes (Ok s) Q none h is = none-some s none
unread bytes (Err f) Q none h is = h.0 is

-- No more of a line matters than the bytes that are kept

kept_pair : (separator : ℕ) (line : List ℕ) → IsPair separator (take MAX_LINE line) → IsPair separator line
kept_pair separator line (a, p, is) =
    let within : length line ≤ MAX_LINE = omega (arith, is.short, length-take MAX_LINE line) in
    subst (IsPair separator) (take_all MAX_LINE line within) (a, p, is)

front_pair : (separator : ℕ) (line : List ℕ) → IsPair separator line → IsPair separator (take MAX_LINE line)
front_pair separator line (a, p, is) =
    let within : length line ≤ MAX_LINE = omega (arith, is.short) in
    subst (IsPair separator) (sym (take_all MAX_LINE line within)) (a, p, is)

of_front : (separator : ℕ) (line said : List ℕ) (status : Status) → LineEnds separator (take MAX_LINE line) said status → LineEnds separator line said status
of_front separator line said status (inl (none, output, is)) = inl (λ pair. none (front_pair separator line pair), output, is)
of_front separator line said status (inr (pair, comes)) = inr (kept_pair separator line pair, comes)

pub tells_by_front : (tally : Tally) → TellsByFront MAX_LINE AnswersPair AsksNothing tally
tells_by_front tally = record {
  answers = λ line text goes_on new is. record {
    said = is.said;
    status = is.status;
    ends = of_front tally.separator line is.said is.status is.ends;
    text_is = is.text_is;
    new_is = is.new_is;
    more = is.more;
  };
  wants = λ line asks. absurd asks;
}

-- What is told

some_within : (a b c : List ℕ) → b ≢ [] → a ++ (b ++ c) ≢ []
some_within [] [] c some e = some refl
some_within [] (x ∷ b) c some e = cc
some_within (y ∷ a) b c some e = cc

some_blank : codes " " ≢ []
some_blank e = cc

some_line : (number : ℕ) (status : Status) (said : List ℕ) → judged_line number status said ≢ []
some_line number status said = some_within (decimal number) (codes " ") (decimal (code_of status) ++ (codes " " ++ said)) some_blank

-- what a line comes to, by the result of the call
pub record Told {S : Type 0} (sink : SinkView S) (before after : S) (old : Tally) (line : List ℕ) (new : Tally) (r : Result Bool StepFault) : Type 0 where
  pub ok : IfOk r (λ goes_on. PutsAnswer AnswersPair sink before after old line goes_on new)
  pub err : IfErr r (λ fault. FailsInAnswer AnswersPair AsksNothing sink before after old line fault new)
  pub quit : IfOk r (λ goes_on. goes_on ≡ false → after ≡ before)

answers_so : (old : Tally) (line said : List ℕ) (status : Status) (new : Tally) (goes_on : Bool) → LineEnds old.separator line said status → new ≡ tallied old status → goes_on ≡ true
    → AnswersPair old line (judged_line new.count status said) goes_on new
answers_so old line said status new goes_on ends is more =
    record { said = said; status = status; ends = ends; text_is = refl; new_is = is; more = more }

pub told : {S : Type 0} (sink : SinkView S) (before after : S) (old : Tally) (line said : List ℕ) (status : Status) (new : Tally) (r : Result Bool StepFault) → LineEnds old.separator line said status
    → TellsJudged sink before after old status said r new → Told sink before after old line new r
told sink before after old line said status new (Ok goes_on) ends (is, more, takes) = record {
  ok = (judged_line new.count status said, answers_so old line said status new goes_on ends is more, takes, λ m. some_line new.count status said);
  err = tt;
  quit = λ no. cc;
}
told sink before after old line said status new (Err fault) ends (is, write, fails) = rw write (record {
  ok = tt;
  err = (judged_line new.count status said, true, answers_so old line said status new true ends is refl, some_line new.count status said, fails);
  quit = tt;
})

-- what a pair's judgement printed, once its refusal is reported
pub pair_told : {S : Type 0} {sink : SinkView S} {before mid after : S} {AreEnds : Ends} (done : Result Status Stop) (status : Status)
    → FileResult sink before mid AreEnds done → Reports sink mid after done (Ok status) → (output : List ℕ) × AreEnds output status × Takes sink before after output
pair_told {S} {sink} {before} {mid} {after} {AreEnds} (Ok given) status result reports =
    let (same, kept) = reports.told in
    let equal : status ≡ given = cc in
    let (output, ends, takes) = result.done in
    (output, subst (AreEnds output) (sym equal) ends, subst (λ (s : S). Takes sink before s output) (sym kept) takes)
pair_told (Err (halts.Fault fault)) status result reports = let (same, kept) = reports.told in absurd cc
pair_told {S} {sink} {before} {mid} {after} {AreEnds} (Err (halts.Refused refused notes)) status result reports =
    let (fine, takes) = reports.told in
    let (ends, kept) = result.stops in
    let text = refusal_text refused notes in
    (text, subst (AreEnds text) (sym fine) ends, subst (λ (s : S). Takes sink s after text) kept takes)
