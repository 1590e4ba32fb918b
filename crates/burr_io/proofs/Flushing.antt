-- What is handed on of bytes that were held back.
use Rattle.std.proofs.Common.{◌≡◌, ◌≢◌, ◌<◌, ◌≤◌, ℕ, ◌+◌, ◌-◌, false, List, [], ◌∷◌, ◌++◌, length, get_or, take, drop, Ok, Err, Result, OnOk, OnErr, arith, ap, sym, subst, ◌∙◌, inr, take-append-drop}
use Rattle.std.proofs.Math.Seq.{take-add, take-append_seam, drop-length}
use Rattle.std.proofs.lemmas.List.{get_or_default, get_or-drop, length-drop, length-take, length-take-le, drop-drop, take_more, append-nil}
use Rattle.std.proofs.KnownBytes.{Appends-trans}
use Rattle.std.specs.Io.KnownBytes.{Appends}
use Rattle.burr_io.specs.Sink.{SinkView, TakesFront, Puts}
use Rattle.burr_io.specs.LineWriter.{Flushes, FlushesFront, FlushesLess, FlushesWhole, IsCutAtLines, GoesOf}

-- the first of some bytes, of a front that has them
take-take : (n m : ℕ) (xs : List ℕ) → n ≤ length xs → n ≤ m → take n (take m xs) ≡ take n xs
take-take n m xs fits less =
    let rest = take (m - n) (drop n xs) in
    let split : m ≡ n + (m - n) = omega arith in
    let whole : take m xs ≡ take n xs ++ rest = ap (λ i. take i xs) split ∙ take-add n (m - n) xs in
    ap (take n) whole ∙ subst (λ i. take i (take n xs ++ rest) ≡ take n xs) (length-take-le n xs fits) (take-append_seam (take n xs) rest)

-- one call took some bytes more
Flushes-more : {S : Type 0} {sink : SinkView S} {old mid new : S} (done n : ℕ) (held mid_held next : List ℕ)
    → Flushes sink old mid done held mid_held → Appends (sink.taken mid) (sink.taken new) (take n mid_held)
    → sink.has_failed new ≡ false → next ≡ drop n mid_held → Flushes sink old new (done + n) held next
Flushes-more {sink = sink} {old = old} {mid = mid} {new = new} done n held mid_held next hands took goes rest = record {
  takes = subst (Appends (sink.taken old) (sink.taken new)) (sym (take-add done n held ∙ ap (λ l. take done held ++ take n l) (sym hands.keeps)))
      (Appends-trans _ _ _ (take done held) (take n mid_held) hands.takes took);
  keeps = rest ∙ ap (drop n) hands.keeps ∙ drop-drop n done held;
  goes_on = λ _. goes;
}

-- in a turn of the loop, where so much is left before it
pub Flushes-turn : {S : Type 0} {sink : SinkView S} {old mid new : S} (count left n : ℕ) (held mid_held next : List ℕ)
    → left ≤ count → Flushes sink old mid (count - left) held mid_held → n ≤ length (take left mid_held)
    → Appends (sink.taken mid) (sink.taken new) (take n (take left mid_held)) → sink.has_failed new ≡ false → next ≡ drop n mid_held
    → (left - n ≤ count) × Flushes sink old new (count - (left - n)) held next
Flushes-turn {sink = sink} {old = old} {mid = mid} {new = new} count left n held mid_held next inside hands bound took goes rest =
    let size = length-take left mid_held in
    let fits : n ≤ length mid_held = omega (arith, size) in
    let less : n ≤ left = omega (arith, size) in
    let sum : (count - left) + n ≡ count - (left - n) = omega arith in
    let took_whole = subst (Appends (sink.taken mid) (sink.taken new)) (take-take n left mid_held fits less) took in
    (omega arith, subst (λ k. Flushes sink old new k held next) sum (Flushes-more (count - left) n held mid_held next hands took_whole goes rest))

-- what went is a front
pub TakesFront-less : {S : Type 0} {sink : SinkView S} {old new : S} {count : ℕ} {held new_held : List ℕ}
    → FlushesLess sink old new count held new_held → TakesFront (sink.taken old) (sink.taken new) held
TakesFront-less {held = held} less = (take less.fewer held, drop less.fewer held, sym (take-append-drop less.fewer held), less.takes)

-- cut after the last end of a line
pub IsCutAtLines-last : (bytes : List ℕ) (n : ℕ) → n < length bytes → get_or bytes n 0 ≡ 10
    → ((k : ℕ) → n < k → k < length bytes → get_or bytes k 0 ≢ 10) → IsCutAtLines bytes (take (n + 1) bytes) (drop (n + 1) bytes)
IsCutAtLines-last bytes n inside is_end last = record {
  parts = sym (take-append-drop (n + 1) bytes);
  some = λ none. let size = length-take-le (n + 1) bytes in let count : length (take (n + 1) bytes) ≡ 0 = ap length none in absurd (omega (arith, size));
  whole = inr (take n bytes, take_more bytes n 0 inside ∙ ap (λ b. take n bytes ++ b ∷ []) is_end);
  last = λ found.
      let count = length-drop (n + 1) bytes in
      let below : n + 1 + found.0 < length bytes = let inner = found.1 in omega arith in
      last (n + 1 + found.0) (omega arith) below
      (get_or_default bytes (n + 1 + found.0) 0 10 below ∙ sym (get_or-drop (n + 1) bytes found.0 10) ∙ found.2);
}

-- what goes of a full buffer went
pub FlushesWhole-whole : {S : Type 0} {sink : SinkView S} {old new : S} (count : ℕ) (full rest : List ℕ)
    → Flushes sink old new count full rest → GoesOf full (take count full) (drop count full) → 0 < count → FlushesWhole sink old new full rest
FlushesWhole-whole count full rest hands goes some = record {
  front = take count full;
  goes = subst (GoesOf full (take count full)) (sym hands.keeps) goes;
  takes = hands.takes;
  goes_on = hands.goes_on some;
}

-- all that was held back went
pub Puts-whole : {S A E : Type 0} {sink : SinkView S} {old new : S} (count : ℕ) (held new_held : List ℕ) (a : A)
    → count ≡ length held → Flushes sink old new count held new_held → Puts {E = E} sink old new held (Ok a)
Puts-whole {sink = sink} {old = old} {new = new} count held new_held a whole hands =
    let rest : drop count held ≡ [] = ap (λ n. drop n held) whole ∙ drop-length held in
    let all : take count held ≡ held = sym (append-nil (take count held)) ∙ ap (λ l. take count held ++ l) (sym rest) ∙ take-append-drop count held in
    record { ok = subst (Appends (sink.taken old) (sink.taken new)) all hands.takes; err = tt }

-- nothing is left to be held back
pub nothing_held : {S : Type 0} {sink : SinkView S} {old new : S} (count : ℕ) (held new_held : List ℕ)
    → count ≡ length held → Flushes sink old new count held new_held → new_held ≡ []
nothing_held count held new_held whole hands = hands.keeps ∙ ap (λ n. drop n held) whole ∙ drop-length held

-- a front went, and the rest is held back
pub front_of : {S : Type 0} {sink : SinkView S} {old new : S} {count : ℕ} {held new_held : List ℕ}
    → Flushes sink old new count held new_held
    → FlushesFront sink (record { sink = old; held = held }) (record { sink = new; held = new_held })
front_of {count = count} {held = held} hands = (
  take count held,
  sym (ap (λ l. take count held ++ l) hands.keeps ∙ take-append-drop count held),
  hands.takes,
)

-- where the sink failed, too
pub front_of_less : {S : Type 0} {sink : SinkView S} {old new : S} {count : ℕ} {held new_held : List ℕ}
    → FlushesLess sink old new count held new_held
    → FlushesFront sink (record { sink = old; held = held }) (record { sink = new; held = new_held })
front_of_less {held = held} less = (
  take less.fewer held,
  sym (ap (λ l. take less.fewer held ++ l) less.keeps ∙ take-append-drop less.fewer held),
  less.takes,
)

-- the sink failed
pub Puts-less : {S A E : Type 0} {sink : SinkView S} {old new : S} (count : ℕ) (held new_held : List ℕ) (e : E)
    → FlushesLess sink old new count held new_held → Puts {A = A} sink old new held (Err e)
Puts-less count held new_held e less = record { ok = tt; err = record { takes = TakesFront-less less; fails = less.fails } }

pub OnOk-whole : {S A E : Type 0} (sink : SinkView S) (old new : S) (r : Result A E) (count : ℕ) (full rest : List ℕ)
    → GoesOf full (take count full) (drop count full) → 0 < count → OnOk r (Flushes sink old new count full rest) → OnOk r (FlushesWhole sink old new full rest)
OnOk-whole sink old new (Ok a) count full rest goes some hands = FlushesWhole-whole count full rest hands goes some
OnOk-whole sink old new (Err e) count full rest goes some hands = tt

-- an error with a fact
pub on_err : {A E : Type 0} (r : Result A E) {P : Type 0} → P → OnErr r P
on_err (Ok a) p = tt
on_err (Err e) p = p
