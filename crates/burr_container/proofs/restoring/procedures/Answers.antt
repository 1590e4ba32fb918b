-- One more procedure is read.
use Rattle.std.proofs.Common.{◌<◌, length, sym, subst, arith}
use Rattle.std.specs.Prelude.{slice_get, Some, ◌≡◌, ℕ}
use Rattle.burr_container.specs.Views.Containers.{ContainerView, IsContainer}
use Rattle.burr_container.proofs.Common.ListsRead.{some_at, pushed}
use Rattle.burr_container.proofs.restoring.procedures.Goals as goal

pub loop-i-preserved : goal.loop-i-preserved
loop-i-preserved c p of =
    let n = c.loop-i.i in
    let many = c.proc_count-i-end.ensures.plan p of in
    let less : n < length p.procedures = omega (arith, many, c.loop-i-test.true) in
    let q = some_at p.procedures n less in
    let lent = c.procedure.ensures in
    let its = subst (λ (k : ContainerView). IsContainer k p) (sym lent.container) of in
    let at = subst (λ (k : ℕ). slice_get p.procedures k ≡ Some q.0) (sym lent.number) q.1 in
    pushed p.procedures n c.loop-i.procedures.items c.push.new.self.items q.0 c.in_ok-of.field-0 q.1
    (c.in_ok-of.ensures p q.0 its at) c.in_ok-push.ensures.items (c.loop-i.invariant p of)
