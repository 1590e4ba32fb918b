-- What is told on standard error on the way and at the end.
use Rattle.std.proofs.Common.{◌≡◌, ◌≢◌, ◌*◌, ℕ, List, [], ◌∷◌, ◌++◌, None, Some, false, suc, refl, sym, ap, subst, ◌∙◌, inl, inr, append_assoc}
use Rattle.std.specs.Prelude.{Option, Result, Ok, Err, OnOk, IsErr, IsTrue, codes, decimal}
use Rattle.std.specs.Io.KnownBytes.{Appends}
use Rattle.std.specs.List.{join_with_byte}
use Rattle.std.proofs.KnownBytes.{Appends-nil, Appends-trans}
use Rattle.burr_io.specs.Sink.{SinkView, HoldsFront, Puts}
use Rattle.burr_io.specs.LineWriter.{Lines, lines_view}
use Rattle.burr_program.specs.Ends.{TakesText, runs_line, runs_lines, took_by}
use Rattle.burr_program.specs.HowFar.{HasTold, IsReady, Tells}
use Rattle.burr_program.proofs.HandedText.{front_more, told}

-- nothing was told
pub tells_nothing : {S : Type 0} (sink : SinkView S) (l : Lines S) → l.held ≡ [] → HasTold sink l l []
tells_nothing sink l none = record { takes = (inl (Appends-nil (sink.taken l.sink)), λ nothing. refl); ready = inl none }

-- what it holds is a front of that and a text
holds_all : (taken : Option (List ℕ)) (text : List ℕ) → HoldsFront taken taken text
holds_all None text = tt
holds_all (Some x) text = (text, refl)

-- a sink that has failed is left alone
pub left_alone : {S : Type 0} (sink : SinkView S) (l : Lines S) (text : List ℕ) → IsTrue (sink.has_failed l.sink) → Tells sink l l text
left_alone sink l text bad = record { takes = inr (holds_all (sink.taken l.sink) text, bad); ready = inr bad; kept = λ failed. refl }

-- a sink that is ready and has not failed holds back nothing
holds_none : {S : Type 0} (sink : SinkView S) (l : Lines S) → sink.has_failed l.sink ≡ false → IsReady sink l → l.held ≡ []
holds_none sink l goes (inl none) = none
holds_none sink l goes (inr bad) = cc

-- and is ready again, once it has handed on what it holds back
ready_again : {S A E : Type 0} (sink : SinkView S) (mid new : Lines S) (flushed : Result A E) → Puts sink mid.sink new.sink mid.held flushed → OnOk flushed (new.held ≡ []) → IsReady sink new
ready_again sink mid new (Ok a) puts nothing = inl nothing
ready_again sink mid new (Err e) puts nothing = inr puts.err.fails

-- a text that is put and then handed on is told
pub tells : {S A E B F : Type 0} (sink : SinkView S) (old mid new : Lines S) (text : List ℕ) (put : Result A E) (flushed : Result B F) → sink.has_failed old.sink ≡ false → IsReady sink old
    → Puts (lines_view sink) old mid text put → Puts sink mid.sink new.sink mid.held flushed → OnOk flushed (new.held ≡ []) → (IsTrue (sink.has_failed mid.sink) → IsErr flushed)
    → Tells sink old new text
tells sink old mid new text put flushed goes ready puts hands nothing good =
    record { takes = told sink old mid new text put flushed (holds_none sink old goes ready) puts hands good; ready = ready_again sink mid new flushed hands nothing; kept = λ failed. cc }

-- a front of a text after one that was taken
front_on : (old mid new : Option (List ℕ)) (text more : List ℕ) → Appends old mid text → HoldsFront mid new more → HoldsFront old new (text ++ more)
front_on None mid new text more took holds = tt
front_on (Some x) None new text more took holds = absurd took
front_on (Some x) (Some y) None text more took holds = absurd holds
front_on (Some x) (Some y) (Some z) text more took (rest, same) = (rest, sym (append_assoc x text more) ∙ ap (λ t. t ++ more) (sym took) ∙ same)

-- a text is told after another one
pub told_after : {S : Type 0} (sink : SinkView S) (old mid new : Lines S) (text more : List ℕ) → HasTold sink old mid text → Tells sink mid new more → TakesText (took_by sink old.sink new.sink) (text ++ more)
told_after {S} sink old mid new text more has tells = after has.takes.0 tells.takes
  where
    after : TakesText (took_by sink old.sink mid.sink) text → TakesText (took_by sink mid.sink new.sink) more → TakesText (took_by sink old.sink new.sink) (text ++ more)
    after (inl first) (inl second) = inl (Appends-trans (sink.taken old.sink) (sink.taken mid.sink) (sink.taken new.sink) text more first second)
    after (inl first) (inr (holds, bad)) = inr (front_on (sink.taken old.sink) (sink.taken mid.sink) (sink.taken new.sink) text more first holds, bad)
    after (inr (holds, bad)) second =
        subst (λ (l : Lines S). TakesText (took_by sink old.sink l.sink) (text ++ more)) (sym (tells.kept bad))
        (inr (front_more (sink.taken old.sink) (sink.taken mid.sink) text more (text ++ more) refl holds, bad))

-- a text that ends by a line feed is some
ends_in : (xs ys : List ℕ) → (xs ++ (ys ++ 10 ∷ [])) ≢ []
ends_in [] [] same = cc
ends_in [] (y ∷ ys) same = cc
ends_in (x ∷ xs) ys same = cc

-- a line more is told
line_more : {S : Type 0} (sink : SinkView S) (old mid new : Lines S) (hundreds : ℕ) → HasTold sink old mid (runs_lines hundreds) → Tells sink mid new (runs_line (suc hundreds * 100)) → HasTold sink old new (runs_lines (suc hundreds))
line_more sink old mid new hundreds has tells =
    let words = join_with_byte 32 (codes "frames:" ∷ decimal (suc hundreds * 100) ∷ codes "runs" ∷ []) in
    record { takes = (told_after sink old mid new (runs_lines hundreds) (runs_line (suc hundreds * 100)) has tells, λ nothing. absurd (ends_in (runs_lines hundreds) words nothing)); ready = tells.ready }

-- one hundred of runs more
pub more_runs : {S : Type 0} (sink : SinkView S) (old mid new : Lines S) (hundreds next : ℕ) → next ≡ suc hundreds → HasTold sink old mid (runs_lines hundreds) → Tells sink mid new (runs_line (next * 100)) → HasTold sink old new (runs_lines next)
more_runs sink old mid new hundreds next is has tells =
    subst (λ (n : ℕ). HasTold sink old new (runs_lines n)) (sym is) (line_more sink old mid new hundreds has (subst (λ (n : ℕ). Tells sink mid new (runs_line (n * 100))) is tells))
