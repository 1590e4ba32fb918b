use Rattle.std.proofs.Common.{◌≡◌, length, rules, inl, inr}
use Rattle.std.proofs.lemmas.Result.{err_from_is_err_and}
use Rattle.burr_assembly.proofs.LineByLine.{breaks, line_fails, line_goes, end_fails, end_reads}
use Rattle.burr_assembly.proofs.assembly.Assembly.read.Goals as goal

pub returns-in_default-clause-err : goal.returns-in_default-clause-err
returns-in_default-clause-err c = inr (breaks _ _ _ _ c.loop-rest.invariant.0 (search rules) c.in_default.ensures)

pub returns-in_err-beginning-clause-err : goal.returns-in_err-beginning-clause-err
returns-in_err-beginning-clause-err c =
    let p = err_from_is_err_and c.from_residual.result c.from_residual.ensures.1 in
    rw (p.1, p.2)
    (elim c.in_err-beginning.ensures.err [
      | inl memory ↦ inl memory
      | inr gives ↦ inr (line_fails _ _ _ _ _ _ _ c.loop-rest.invariant.0 c.in-Some.ensures.parts c.in-Some.ensures.first gives)
    ])

pub loop-rest-preserved : goal.loop-rest-preserved
loop-rest-preserved c =
    (line_goes _ _ _ _ _ _ _ c.loop-rest.invariant.0 c.in-Some.ensures.parts c.in-Some.ensures.first c.in_ok-beginning.ensures.ok, c.in_ok-beginning.ensures.home)

pub returns-in_err-name-clause-err : goal.returns-in_err-name-clause-err
returns-in_err-name-clause-err c =
    let none : length c.loop-rest.rest.now ≡ 0 = search rules in
    let p = err_from_is_err_and c.from_residual-in_err-name.result c.from_residual-in_err-name.ensures.1 in
    rw (p.1, p.2) (inr (end_fails _ _ _ _ _ c.loop-rest.invariant.0 none c.in_err-name.ensures.err))

pub invariant_of-result : goal.invariant_of-result
invariant_of-result c =
    let none : length c.loop-rest.rest.now ≡ 0 = search rules in
    ((end_reads _ _ _ _ _ c.loop-rest.invariant.0 none c.in_ok-name.ensures.ok).0, c.in_ok-name.ensures.homes c.loop-rest.invariant.1)

pub returns-clause-ok : goal.returns-clause-ok
returns-clause-ok c =
    let none : length c.loop-rest.rest.now ≡ 0 = search rules in
    end_reads _ _ _ _ _ c.loop-rest.invariant.0 none c.in_ok-name.ensures.ok
