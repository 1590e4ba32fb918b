use Rattle.std.proofs.Common.{◌∙◌, sym, arith}
use Rattle.std.specs.Prelude.{Some, None}
use Rattle.std.proofs.lemmas.Bool.Decides.{Decides-eqb}
use Rattle.std.proofs.lemmas.Slice.Eq.{strip_prefix_is}
use Rattle.burr_lines.proofs.Parts.{begins_alone, begins_on, begins_nowhere}
use Rattle.burr_lines.proofs.unframed.begins_by.Goals as goal

pub returns-then-is_empty : goal.returns-then-is_empty
returns-then-is_empty c =
    let is = strip_prefix_is Decides-eqb c.args.line.now c.args.word.now (Some c.in-Some.rest) c.in-Some.ensures.cases in
    (λ _. begins_alone _ _ _ is (sym c.is_empty.ensures ∙ c.if-is_empty.true), λ _. c.if-is_empty.true)

pub returns-else-is_empty : goal.returns-else-is_empty
returns-else-is_empty c =
    let is = strip_prefix_is Decides-eqb c.args.line.now c.args.word.now (Some c.in-Some.rest) c.in-Some.ensures.cases in
    begins_on _ _ _ is (sym c.is_empty.ensures ∙ c.if-is_empty.false)

pub returns-in-None : goal.returns-in-None
returns-in-None c =
    let never = strip_prefix_is Decides-eqb c.args.line.now c.args.word.now None c.in-None.ensures.cases in
    (λ no. absurd (grind (arith, no)), λ begins. absurd (begins_nowhere _ _ never begins))
