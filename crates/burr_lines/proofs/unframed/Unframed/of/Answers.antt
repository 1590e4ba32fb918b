use Rattle.std.proofs.Common.{arith, sym, subst}
use Rattle.std.proofs.lemmas.Grind.{common_steps}
use Rattle.burr_text.specs.Lines.{IsUnended}
use Rattle.burr_lines.proofs.Parts.{one_more}
use Rattle.burr_lines.proofs.unframed.Unframed.of.Goals as goal

pub loop-line-preserved : goal.loop-line-preserved
loop-line-preserved c =
    let after = c.part_of.ensures.due _ c.loop-line.invariant.due in
    let unended = subst IsUnended (sym c.part_of.ensures.own) c.in-Some.ensures.first in
    let more = one_more c.loop-line.parts.items c.push.new.self.items c.part_of.result c.part_of.new.self.due c.in_ok-push.ensures.items c.loop-line.invariant.read unended after.0 after.1 in
    record { whole = grind (arith, common_steps); read = more.0; due = more.1 }
