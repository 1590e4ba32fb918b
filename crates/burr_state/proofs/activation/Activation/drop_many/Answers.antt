use Rattle.std.proofs.Common.{rules, ◌≡◌, ◌-◌, ◌∙◌, List, ℤ, length, take, reverse, sym, ap}
use Rattle.burr_code.proofs.Common.Turned.{drop_reverse}
use Rattle.burr_state.specs.Rules.Bench.{activation}
use Rattle.burr_state.proofs.activation.Activation.drop_many.Goals as goal

pub returns : goal.returns
returns c =
    let old : List ℤ = c.self.inside.operands.items in
    let many : c.saturating_sub-kept.result ≡ length old - c.args.count = search rules in
    let kept : c.truncate.new.self.items ≡ take (length old - c.args.count) old =
    c.truncate.ensures.items ∙ ap (λ n. take n old) many in
    rw (← c.self.view_is) (ap (λ (ns : List ℤ). activation c.self.inside.procedure c.self.inside.pc c.self.inside.slots ns)
    (ap reverse kept ∙ sym (drop_reverse c.args.count old)))
