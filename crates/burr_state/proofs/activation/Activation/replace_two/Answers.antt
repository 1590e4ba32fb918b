use Rattle.std.proofs.Common.{◌≡◌, ◌≤◌, ◌∷◌, [], ◌++◌, ◌-◌, ◌∙◌, List, length, take, reverse, ap, sym, subst, ℤ, rules}
use Rattle.std.specs.Int.{w32}
use Rattle.std.proofs.lemmas.Int.{to_z-of_z}
use Rattle.std.proofs.lemmas.List.{length-reverse}
use Rattle.burr_state.specs.Rules.Bench.{Activation, activation}
use Rattle.burr_state.proofs.Operands.{replaced}
use Rattle.burr_state.proofs.activation.Activation.replace_two.Goals as goal

pub returns : goal.returns
returns c =
    let old : List ℤ = c.self.inside.operands.items in
    let two = subst (λ (a : Activation). 2 ≤ length a.operands) (sym c.self.view_is) c.requires in
    let some : 2 ≤ length old = subst (λ n. 2 ≤ n) (length-reverse old) two in
    let kept : c.truncate.new.self.items ≡ take (length old - 2) old = search rules in
    let pushed : c.push.new.self.items ≡ c.truncate.new.self.items ++ c.args.number ∷ [] = c.push.ensures.items ∙ ap (λ (n : ℤ). c.truncate.new.self.items ++ n ∷ []) (to_z-of_z w32 c.args.number c.ranges.number) in
    let is : c.push.new.self.items ≡ take (length old - 2) old ++ c.args.number ∷ [] = pushed ∙ ap (λ (ns : List ℤ). ns ++ c.args.number ∷ []) kept in
    rw (← c.self.view_is) (ap (λ (ns : List ℤ). activation c.self.inside.procedure c.self.inside.pc c.self.inside.slots ns) (ap reverse is ∙ replaced c.args.number old some))
