-- For crates above: a text put part by part.
use Rattle.std.proofs.Common.{◌≡◌, ℕ, ◌+◌, ◌<◌, List, [], ◌∷◌, ◌++◌, length, map, drop, get_or, Result, Ok, Err, refl, sym, ap, ◌∙◌, subst, add-one, drop-cons, append_assoc}
use Rattle.std.specs.Prelude.{IsErr}
use Rattle.std.proofs.KnownBytes.{Appends-nil, Appends-trans}
use Rattle.std.specs.Io.KnownBytes.{Appends}
use Rattle.std.specs.List.{join_with_byte}
use Rattle.burr_io.specs.Sink.{SinkView, FailsWithin, Puts}
use Rattle.burr_io.specs.declared.sink.WriteFault.{WriteFault}

-- a part went, and the sink fails within what follows
pub FailsWithin-more : {S : Type 0} {sink : SinkView S} {old mid new : S} (part : List ℕ) {rest : List ℕ}
    → Appends (sink.taken old) (sink.taken mid) part → FailsWithin sink mid new rest → FailsWithin sink old new (part ++ rest)
FailsWithin-more part went short =
    let (front, rest, parts, took) = short.takes in
    record { takes = (part ++ front, rest, ap (λ t. part ++ t) parts ∙ sym (append_assoc part front rest), Appends-trans _ _ _ part front went took); fails = short.fails }

-- the sink fails within a part, and nothing of what follows goes
pub FailsWithin-first : {S : Type 0} {sink : SinkView S} {old new : S} {part : List ℕ} (more : List ℕ) → FailsWithin sink old new part → FailsWithin sink old new (part ++ more)
FailsWithin-first more short =
    let (front, rest, parts, took) = short.takes in
    record { takes = (front, rest ++ more, ap (λ t. t ++ more) parts ∙ append_assoc front rest more, took); fails = short.fails }

-- no bytes, no calls
pub Puts-nothing : {S A E : Type 0} {sink : SinkView S} {old : S} {a : A} → Puts {E = E} sink old old [] (Ok a)
Puts-nothing {sink = sink} {old = old} = record { ok = Appends-nil (sink.taken old); err = tt }

-- a part went, and what follows was put
pub Puts-more : {S A B E F : Type 0} {sink : SinkView S} {old mid new : S} {part rest : List ℕ} {a : A} {r : Result B F}
    → Puts {E = E} sink old mid part (Ok a) → Puts sink mid new rest r → Puts sink old new (part ++ rest) r
Puts-more {part = part} {rest = rest} {r = Ok b} went more = record { ok = Appends-trans _ _ _ part rest went.ok more.ok; err = tt }
Puts-more {part = part} {r = Err e} went more = record { ok = tt; err = FailsWithin-more part went.ok more.err }

-- the sink fails within a part
pub Puts-fails : {S A B E F : Type 0} {sink : SinkView S} {old new : S} {part : List ℕ} (more : List ℕ) {e : E} {r : Result B F}
    → Puts {A = A} sink old new part (Err e) → IsErr r → Puts sink old new (part ++ more) r
Puts-fails more {r = Ok b} short err = cc
Puts-fails more {r = Err f} short err = record { ok = tt; err = FailsWithin-first more short.err }

-- the whole text is put once the rest is
abbrev pub Remains : {S : Type 0} → SinkView S → S → S → List ℕ → List ℕ → Type 0
Remains {S} sink old mid whole rest = (new : S) (r : Result (Unit {0}) WriteFault) → Puts sink mid new rest r → Puts sink old new whole r

-- parts with a byte between each two, where before the first stands a separator, and a last text after them
abbrev pub joined : List ℕ → ℕ → List (List ℕ) → List ℕ → List ℕ
joined separator byte [] last = last
joined separator byte (part ∷ parts) last = separator ++ (part ++ joined (byte ∷ []) byte parts last)

joined-cons : (separator : List ℕ) (byte : ℕ) (part : List ℕ) (parts : List (List ℕ)) (last : List ℕ)
    → joined separator byte (part ∷ parts) last ≡ separator ++ (join_with_byte byte (part ∷ parts) ++ last)
joined-cons separator byte part [] last = refl
joined-cons separator byte part (next ∷ parts) last =
    ap (λ t. separator ++ t) (ap (λ t. part ++ t) (joined-cons (byte ∷ []) byte next parts last) ∙ sym (append_assoc part (byte ∷ join_with_byte byte (next ∷ parts)) last))

-- before the first part of a join stands nothing
pub joined-join : (byte : ℕ) (parts : List (List ℕ)) (last : List ℕ) → join_with_byte byte parts ++ last ≡ joined [] byte parts last
joined-join byte [] last = refl
joined-join byte (part ∷ parts) last = sym (joined-cons [] byte part parts last)

-- of items that remain, the next one remains after its separator, and then the others
pub Remains-item : {X : Type 0} (f : X → List ℕ) (items : List X) (i : ℕ) (d : X) → i < length items
    → (separator : List ℕ) (byte : ℕ) (last : List ℕ) {S : Type 0} {sink : SinkView S} {old mid : S} {whole : List ℕ}
    → Remains sink old mid whole (joined separator byte (map f (drop i items)) last)
    → Remains sink old mid whole (separator ++ (f (get_or items i d) ++ joined (byte ∷ []) byte (map f (drop (i + 1) items)) last))
Remains-item f items i d inside separator byte last {sink = sink} {old = old} {mid = mid} {whole = whole} remains =
    let next : map f (drop i items) ≡ f (get_or items i d) ∷ map f (drop (i + 1) items) = rw (add-one, drop-cons items i d) in
    subst (λ rest. Remains sink old mid whole (joined separator byte rest last)) next remains
