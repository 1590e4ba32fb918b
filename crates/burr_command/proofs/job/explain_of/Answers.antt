use Rattle.std.proofs.Common.{◌∙◌, arith, codes, refl}
use Rattle.burr_command.proofs.Asked.{joined_bytes}
use Rattle.burr_command.proofs.job.explain_of.Goals as goal

pub returns : goal.returns
returns c =
    let explained = c.explained_words-explained in
    rw (← explained.ensures)
    (refl, grind (arith, c.is_empty.ensures, c.if-is_empty.false), c.in_ok-line.ensures.ok ∙ joined_bytes (codes " ") explained.result.now)
