use Rattle.std.proofs.Common.{◌≡◌, ap, sym, subst, List, Option, MatchOption, [], ◌∷◌, reverse}
use Rattle.burr_state.specs.Rules.Undo.{Undo}
use Rattle.circular_buffer.specs.Buffer.{Buffer, last_item}
use Rattle.burr_step.proofs.Lists.{popped}
use Rattle.burr_step.proofs.records.Records.pop.Goals as goal

pub returns : goal.returns
returns c =
    let old = c.self.inside.ring.items in
    let now = c.pop_back.new.self.items in
    rw (← c.self.view_is) (
    subst (λ (o : Option Undo). MatchOption o (reverse old ≡ []) (λ u. reverse old ≡ u ∷ reverse now)) (sym c.pop_back.ensures.value)
    (subst (λ (l : List Undo). MatchOption (last_item old) (reverse old ≡ []) (λ u. reverse old ≡ u ∷ reverse l))
    (sym (ap (λ (b : Buffer Undo). b.items) c.pop_back.ensures.items)) (popped old)))
