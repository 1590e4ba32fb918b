-- What is left of the caller, and the activation of the callee.
use Rattle.std.proofs.Common.{rules, ◌≡◌, ◌≤◌, ◌-◌, ◌+◌, ℤ, List, [], length, drop, take, reverse, sym, ap, ◌∙◌, arith}
use Rattle.std.proofs.lemmas.List.{length-reverse, length-take-le, take_rest}
use Rattle.burr_code.specs.Labels.{argument_slots}
use Rattle.burr_state.specs.Rules.Bench.{activation}
use Rattle.burr_state.specs.Views.Effects.{slots_with}
use Rattle.burr_code.proofs.Common.Turned.{drop_reverse, top_many_of}
use Rattle.burr_state.proofs.Operands.{slots_of_arguments}
use Rattle.burr_state.proofs.activation.Activation.calls.Goals as goal

pub returns-clause-calls : goal.returns-clause-calls
returns-clause-calls c =
    let items : List ℤ = c.self.inside.operands.items in
    let count = c.args.parameters in
    let some : count ≤ length items = search rules in
    let first : c.in-Some.first ≡ length items - count = search rules in
    let deref : c.deref.result.now ≡ items = search rules in
    let slots : c.slots_of-slots.result ≡ argument_slots (take count (reverse items)) =
    c.slots_of-slots.ensures ∙ ap slots_with (take_rest c.deref.result.now c.in-Some.first ∙ ap (λ xs. drop c.in-Some.first xs) deref ∙ ap (λ n. drop n items) first) ∙ slots_of_arguments count items some in
    let kept : c.truncate.new.self.items ≡ take (length items - count) items = c.truncate.ensures.items ∙ ap (λ n. take n items) first in
    let below : reverse c.truncate.new.self.items ≡ drop count (reverse items) = ap reverse kept ∙ sym (drop_reverse count items) in
    let empty : reverse c.new.result.items ≡ [] = ap reverse c.new.ensures in
    let room : length (reverse c.truncate.new.self.items) + c.args.results ≤ 8 =
    (let long = length-reverse c.truncate.new.self.items in
    let left = ap length kept ∙ length-take-le (length items - count) items (omega arith) in
    let few = c.if-first-from-gt-MOST_OPERANDS.false in
    let more = c.from-2.ensures in
    omega (arith, long, left, few, more, first)) in
    rw (← c.self.view_is) (record {
      enough = top_many_of count items some;
      room = room;
      callee =
          ap (λ xs. activation c.args.procedure 0 xs (reverse c.new.result.items)) slots ∙ ap (λ ns. activation c.args.procedure 0 (argument_slots (take count (reverse items))) ns) empty;
      caller = ap (λ (ns : List ℤ). activation c.self.inside.procedure c.self.inside.pc c.self.inside.slots ns) below;
    })
