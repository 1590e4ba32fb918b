-- A line that is long, is not cut, or has names that are empty or no texts is no pair.
use Rattle.std.proofs.Common.{arith}
use Rattle.std.proofs.lemmas.List.{nil_from_length}
use Rattle.std.proofs.lemmas.Bool.{eqb-true}
use Rattle.std.proofs.lemmas.Bool.Decides.{nat_tests}
use Rattle.burr_program.proofs.JudgedLines.{unless_pair, unless_cut, unread}
use Rattle.burr_program.proofs.commands.judge.pair_of.Goals as goal
use Rattle.burr_program.proofs.commands.judge.pair_of.Goals.{then-is_empty-via-then-is_empty, then-is_empty-via-else-is_empty+then-is_empty-2, then-is_empty-via-else-is_empty+else-is_empty-2+then-contains}

pub returns-in_err-assembly : goal.returns-in_err-assembly
returns-in_err-assembly c = rw c.from_residual.ensures (unless_cut c.args.separator c.args.line.now c.in_err-assembly.ensures)

pub returns-then-is_empty : goal.returns-then-is_empty
returns-then-is_empty c =
    unless_pair c.args.separator c.args.line.now c.in_ok-assembly.assembly.now c.in_ok-assembly.plan.now c.in_ok-assembly.ensures (elim c.then-is_empty.branch [
      | then-is_empty-via-then-is_empty w ↦ λ is. is.assembly_named (nil_from_length c.in_ok-assembly.assembly.now (grind (arith, nat_tests)))
      | then-is_empty-via-else-is_empty+then-is_empty-2 w ↦ λ is. is.plan_named (nil_from_length c.in_ok-assembly.plan.now (grind (arith, nat_tests)))
      | then-is_empty-via-else-is_empty+else-is_empty-2+then-contains w ↦ λ is. let at = w.if-contains.ensures.cases in is.two_names (at.0, at.1, eqb-true _ c.args.separator (at.2 c.args.separator))
    ])

pub returns-in_err-ok : goal.returns-in_err-ok
returns-in_err-ok c =
    rw c.from_residual-in_err-ok.ensures (unless_pair c.args.separator c.args.line.now c.in_ok-assembly.assembly.now c.in_ok-assembly.plan.now c.in_ok-assembly.ensures
    λ is. unread c.in_ok-assembly.assembly.now c.from_utf8.result _ c.in_err-ok.ensures.value c.from_utf8.ensures.cases is.assembly_is_text)

pub returns-in_err-ok-2 : goal.returns-in_err-ok-2
returns-in_err-ok-2 c =
    rw c.from_residual-in_err-ok-2.ensures (unless_pair c.args.separator c.args.line.now c.in_ok-assembly.assembly.now c.in_ok-assembly.plan.now c.in_ok-assembly.ensures
    λ is. unread c.in_ok-assembly.plan.now c.from_utf8-2.result _ c.in_err-ok-2.ensures.value c.from_utf8-2.ensures.cases is.plan_is_text)
