use Rattle.std.proofs.Common.{◌++◌, ℕ, List, subst, ap, ◌∙◌, arith}
use Rattle.burr_lines.specs.Parts.{IsMadeOf}
use Rattle.burr_lines.proofs.Parts.{all_put, filled_in}
use Rattle.burr_lines.proofs.unframed.Unframed.with.Goals as goal

pub returns-clause-kept : goal.returns-clause-kept
returns-clause-kept c =
    let parts = c.self.inside.parts.items in
    let rest = c.self.inside.rest.now in
    let put = all_put parts c.args.fills.now c.loop-n.made.items c.loop-n.n (omega arith) c.loop-n.invariant in
    filled_in _ _ c.args.fills.now (parts, rest, subst (λ (text : List ℕ). IsMadeOf text parts rest) c.self.view_is c.self.invariant, c.in_ok-extend_from_slice.ensures.items ∙ ap (λ (m : List ℕ). m ++ rest) put)
