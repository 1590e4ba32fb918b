-- The last of the operands are the topmost.
use Rattle.std.proofs.Common.{rules, ◌≡◌, ◌≤◌, ◌-◌, ◌∙◌, ℤ, List, ap, take, drop, length}
use Rattle.std.proofs.lemmas.List.{take_rest}
use Rattle.burr_state.specs.Rules.Bench.{Activation}
use Rattle.burr_state.proofs.Operands.{topmost_given}
use Rattle.burr_state.proofs.activation.Activation.top_many.Goals as goal

pub returns : goal.returns
returns c =
    let items : List ℤ = c.self.inside.operands.items in
    let count = c.args.count in
    let some : count ≤ length items = search rules in
    let few : length items ≤ 8 = search rules in
    let first : c.in_ok-first.first ≡ length items - count = search rules in
    let last = take (length c.deref.result.now - c.in_ok-first.first) (drop c.in_ok-first.first c.deref.result.now) in
    let same : last ≡ drop (length items - count) items =
    take_rest c.deref.result.now c.in_ok-first.first ∙ (λ i. drop (first i) (c.deref.ensures.0 i)) in
    topmost_given count items c.args.self.now.operands last c.try_from.result c.ok.result some few
    (ap (λ (a : Activation). a.operands) c.self.view_is) same c.ok.ensures.value c.try_from.ensures
