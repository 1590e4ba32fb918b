use Rattle.std.proofs.Common.{rules, codes, refl, inr}
use Rattle.std.proofs.lemmas.Bool.Decides.{Decides-eqb}
use Rattle.std.proofs.lemmas.Slice.Eq.{starts_is, ends_is}
use Rattle.burr_lines.proofs.unframed.Heading.due_at.Goals as goal

pub returns-then-ends_with : goal.returns-then-ends_with
returns-then-ends_with c before known =
    let line = c.args.line.now in
    let front = (starts_is Decides-eqb line (codes "plan") c.starts_with-2.result c.starts_with-2.ensures.value).0 c.if-starts_with-2.true in
    let end = (ends_is Decides-eqb line (codes " auto") c.ends_with.result c.ends_with.ensures.value).0 c.if-ends_with.true in
    ((λ _. inr ((_, front), (_, end)), λ _. refl), search rules)
