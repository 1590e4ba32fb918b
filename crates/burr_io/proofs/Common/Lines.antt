-- For crates above: what the sink below has taken of what was put on a sink of whole lines.
use Rattle.std.proofs.Common.{◌≡◌, ℕ, List, [], ◌++◌, None, Some, refl, sym, ap, subst, ◌∙◌, append_assoc, append-nil, true}
use Rattle.std.specs.Prelude.{Option}
use Rattle.std.specs.Io.KnownBytes.{Appends, Keeps, append_known}
use Rattle.std.proofs.KnownBytes.{Appends-kept}
use Rattle.burr_io.specs.Sink.{SinkView, Takes, FailsWithin, TakesFront, HoldsFront}
use Rattle.burr_io.specs.LineWriter.{Lines, lines_view}

-- nothing is held back
pub append_known-nil : (a : Option (List ℕ)) → append_known a [] ≡ a
append_known-nil None = refl
append_known-nil (Some x) = ap Some (append-nil x)

-- all that was held back was taken
handed_all : (mid new : Option (List ℕ)) (held : List ℕ) → Appends mid new held → Keeps (append_known mid held) new
handed_all None new held took = tt
handed_all (Some x) None held took = took
handed_all (Some x) (Some y) held took = took

-- all that was put was taken
pub handed_text : (old mid new : Option (List ℕ)) (held text : List ℕ) → Appends old (append_known mid held) text → Appends mid new held → Appends old new text
handed_text old mid new held text put took = Appends-kept old (append_known mid held) new text put (handed_all mid new held took)

-- and where no more than a front of a text was put
pub front_front : (old mid : Option (List ℕ)) (held text : List ℕ) → TakesFront old (append_known mid held) text → HoldsFront old mid text
front_front None mid held text put = tt
front_front (Some x) None held text (front, rest, parts, put) = put
front_front (Some x) (Some y) held text (front, rest, parts, put) =
    (held ++ rest, ap (λ t. x ++ t) parts ∙ sym (append_assoc x front rest) ∙ ap (λ t. t ++ rest) (sym put) ∙ append_assoc y held rest)

-- the sink below failed, and had taken a front of what was held back
pub failed_front : (old mid new : Option (List ℕ)) (held text : List ℕ) → Appends old (append_known mid held) text → TakesFront mid new held → HoldsFront old new text
failed_front None mid new held text put took = tt
failed_front (Some x) None new held text put took = absurd put
failed_front (Some x) (Some y) None held text put (front, rest, parts, took) = absurd took
failed_front (Some x) (Some y) (Some z) held text put (front, rest, parts, took) =
    (rest, sym put ∙ ap (λ t. y ++ t) parts ∙ sym (append_assoc y front rest) ∙ ap (λ t. t ++ rest) (sym took))

-- where nothing was held back, the sink below had taken all that was put
pub nothing_held : {S : Type 0} (sink : SinkView S) (old : Lines S) → old.held ≡ [] → append_known (sink.taken old.sink) old.held ≡ sink.taken old.sink
nothing_held sink old none = ap (append_known (sink.taken old.sink)) none ∙ append_known-nil (sink.taken old.sink)

-- so what was put since then is put on what it had taken
pub put_since : {S : Type 0} (sink : SinkView S) (old mid : Lines S) (text : List ℕ) → old.held ≡ []
    → Takes (lines_view sink) old mid text → Appends (sink.taken old.sink) (append_known (sink.taken mid.sink) mid.held) text
put_since sink old mid text none put =
    subst (λ (t : Option (List ℕ)). Appends t (append_known (sink.taken mid.sink) mid.held) text) (nothing_held sink old none) put

-- all went
pub went : {S : Type 0} (sink : SinkView S) (old mid new : Lines S) (text : List ℕ) → old.held ≡ []
    → Takes (lines_view sink) old mid text → Takes sink mid.sink new.sink mid.held → Takes sink old.sink new.sink text
went sink old mid new text none put took =
    handed_text (sink.taken old.sink) (sink.taken mid.sink) (sink.taken new.sink) mid.held text (put_since sink old mid text none put) took

-- the sink below failed when it was handed on
pub failed_late : {S : Type 0} (sink : SinkView S) (old mid new : Lines S) (text : List ℕ) → old.held ≡ []
    → Takes (lines_view sink) old mid text → FailsWithin sink mid.sink new.sink mid.held
    → HoldsFront (sink.taken old.sink) (sink.taken new.sink) text × (sink.has_failed new.sink ≡ true)
failed_late sink old mid new text none put fails =
    (failed_front (sink.taken old.sink) (sink.taken mid.sink) (sink.taken new.sink) mid.held text (put_since sink old mid text none put) fails.takes, fails.fails)

-- the sink below failed before all was put
pub failed_early : {S : Type 0} (sink : SinkView S) (old mid : Lines S) (text : List ℕ) → old.held ≡ []
    → FailsWithin (lines_view sink) old mid text
    → HoldsFront (sink.taken old.sink) (sink.taken mid.sink) text × (sink.has_failed mid.sink ≡ true)
failed_early sink old mid text none fails =
    let (front, rest, parts, put) = fails.takes in
    (front_front (sink.taken old.sink) (sink.taken mid.sink) mid.held text (front, rest, parts, put_since sink old mid front none put), fails.fails)

-- a text was taken, and after it a front of more
pub holds_more : (a b c : Option (List ℕ)) (text more : List ℕ) → Appends a b text → HoldsFront b c more → HoldsFront a c (text ++ more)
holds_more None b c text more took holds = tt
holds_more (Some x) None c text more took holds = absurd took
holds_more (Some x) (Some y) None text more took holds = absurd holds
holds_more (Some x) (Some y) (Some z) text more took (rest, same) =
    (rest, sym (append_assoc x text more) ∙ ap (λ t. t ++ more) (sym took) ∙ same)
