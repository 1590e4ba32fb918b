use Rattle.std.proofs.Common.{List, ℕ, ◌∙◌, subst}
use Rattle.burr_assembly.specs.Rules.Text.{IsText}
use Rattle.burr_bench.proofs.machine.copy_of.Goals as goal

pub returns-in-Ok : goal.returns-in-Ok
returns-in-Ok c =
    c.texts_and_assemblies_give_each_other_back.ensures.reads c.args.assembly.now c.in-Ok.copy c.requires
    (subst (λ (text : List ℕ). IsText text c.in-Ok.copy) (c.deref.ensures.value ∙ c.in_ok-text.ensures) c.in-Ok.ensures.ok)
