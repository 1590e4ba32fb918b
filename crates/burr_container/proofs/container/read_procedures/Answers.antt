-- A procedure is read each turn, main first.
use Rattle.std.proofs.Common.{inl, ◌≡◌, ◌-◌, arith, ap, sym, subst, ◌∙◌, ◌++◌, ◌∷◌, [], length, length-append, rules}
use Rattle.std.specs.Prelude.{List, false}
use Rattle.std.proofs.lemmas.Result.{err_from_is_err_and}
use Rattle.burr_container.specs.declared.procedure_ref.StoredProcedure.{StoredProcedure}
use Rattle.burr_container.specs.Rules.Faults.{procedure}
use Rattle.burr_container.specs.Views.InPlace.{AreFor, IsProcedure}
use Rattle.burr_container.proofs.EachWalk.{each_fails}
use Rattle.burr_container.proofs.KeptWalk.{kept_goes_on, kept_ends}
use Rattle.burr_container.proofs.ProceduresRead.{main_fails_first, others_fail_then, procedures_at, counted_within, one_less}
use Rattle.burr_container.proofs.container.read_procedures.Goals as goal

pub returns-in_err-count : goal.returns-in_err-count
returns-in_err-count c =
    let p = err_from_is_err_and c.from_residual.result c.from_residual.ensures.1 in
    rw (p.1, p.2) (inl c.in_err-count.ensures)

pub returns-in_err-main : goal.returns-in_err-main
returns-in_err-main c =
    let p = err_from_is_err_and c.from_residual-in_err-main.result c.from_residual-in_err-main.ensures.1 in
    rw (p.1, p.2)
    (main_fails_first c.args.layout.version c.args.layout.pieces c.in_ok-count.count c.args.cursor.now c.count_within.new.cursor c.in_ok-count.ensures _ c.in_err-main.ensures)

pub overflow_sub-end : goal.overflow_sub-end
overflow_sub-end c = (counted_within c.args.cursor.now c.count_within.new.cursor c.in_ok-count.count c.in_ok-count.ensures).0

pub returns-in_err-procedure : goal.returns-in_err-procedure
returns-in_err-procedure c =
    let main = c.in_ok-main.ensures in
    let others = c.in_ok-count.count - 1 in
    let some = (counted_within c.args.cursor.now c.count_within.new.cursor c.in_ok-count.count c.in_ok-count.ensures).0 in
    let p = err_from_is_err_and c.from_residual-in_err-procedure.result c.from_residual-in_err-procedure.ensures.1 in
    let fails =
    each_fails (procedure c.args.layout.version c.args.layout.pieces false) others c.main_procedure.new.cursor c.loop.counter c.loop.cursor _ (omega arith)
    c.loop.invariant.walk c.in_err-procedure.ensures in
    rw (p.1, p.2)
    (others_fail_then c.args.layout.version c.args.layout.pieces c.in_ok-count.count c.args.cursor.now c.count_within.new.cursor c.in_ok-count.ensures main.0 c.main_procedure.new.cursor
    main.2 others _ (one_less c.in_ok-count.count some) fails)

pub push-requires-in-loop : goal.push-requires-in-loop
push-requires-in-loop c =
    let within = counted_within c.args.cursor.now c.count_within.new.cursor c.in_ok-count.count c.in_ok-count.ensures in
    let walk = c.loop.invariant in
    let first : c.push.new.self.items ≡ c.in_ok-main.main ∷ [] = search rules in
    let one = ap (length {A = StoredProcedure}) first in
    let all = ap (length {A = StoredProcedure}) walk.all in
    let sum = length-append c.push.new.self.items walk.new in (
      search rules,
      omega (arith, all, sum, one, walk.size, within.0, within.1, c.loop-test.true),
    )

pub loop-preserved : goal.loop-preserved
loop-preserved c =
    let here = c.in_ok-procedure.ensures in
    rw c.push-in-loop.ensures.items
    (kept_goes_on (procedure c.args.layout.version c.args.layout.pieces false) (IsProcedure c.args.layout.pieces) (c.in_ok-count.count - 1) c.main_procedure.new.cursor c.push.new.self.items
    c.loop.counter c.loop.procedures.items c.loop.cursor c.other_procedure.new.cursor here.0 c.in_ok-procedure.procedure (omega arith) c.loop.invariant here.1 here.2)

pub returns : goal.returns
returns c =
    let main = c.in_ok-main.ensures in
    let others = c.in_ok-count.count - 1 in
    let some = (counted_within c.args.cursor.now c.count_within.new.cursor c.in_ok-count.count c.in_ok-count.ensures).0 in
    let walk = c.loop.invariant in
    let end =
    kept_ends (procedure c.args.layout.version c.args.layout.pieces false) (IsProcedure c.args.layout.pieces) others c.main_procedure.new.cursor c.push.new.self.items c.loop.counter
    c.loop.procedures.items c.loop.cursor (omega arith) walk in
    let first : c.push.new.self.items ≡ c.in_ok-main.main ∷ [] = search rules in
    let all : c.loop.procedures.items ≡ c.in_ok-main.main ∷ walk.new =
    walk.all ∙ ap (λ (k : List StoredProcedure). k ++ walk.new) first in (
      main.0 ∷ end.0,
      subst (λ (k : List StoredProcedure). AreFor (IsProcedure c.args.layout.pieces) k (main.0 ∷ end.0)) (sym all) (main.1, end.2),
      procedures_at c.args.layout.version c.args.layout.pieces c.in_ok-count.count c.args.cursor.now c.count_within.new.cursor c.in_ok-count.ensures main.0 c.main_procedure.new.cursor
          main.2 others end.0 c.loop.cursor (one_less c.in_ok-count.count some) end.1 walk.walk.after,
    )
