-- The mask stands in front of the ranges of the slots.
use Rattle.std.proofs.lemmas.Result.{err_from_is_err_and}
use Rattle.std.proofs.Common.{rules, true, refl, arith}
use Rattle.burr_container.specs.declared.fault.ContainerFault.TheVariants.{C4}
use Rattle.burr_container.specs.Rules.Faults.{number, RangesFail, bits}
use Rattle.burr_container.proofs.Chains.{byte_at, then_fails}
use Rattle.burr_container.proofs.SlotWalk.{walk_live, walk_dead, walk_fails, walk_ends, slots_at}
use Rattle.burr_container.proofs.reading.parts.slots.Goals.{then-bits-eq1+in_ok-range, else-bits-eq1}
use Rattle.burr_container.proofs.reading.parts.slots.Goals as goal

pub returns-in_err-range : goal.returns-in_err-range
returns-in_err-range c =
    let first = c.byte.new.self in
    let head =
    byte_at C4 (λ _. true) c.args.cursor.now first c.in_ok-mask.mask (search rules) refl c.in_ok-mask.ensures in
    let fails =
    walk_fails first c.loop-v.cursor c.in_ok-mask.mask c.loop-v.v c.loop-v.bits c.loop-v.slots (omega arith)
    c.loop-v.invariant _ (omega (arith, c.if-bits-eq1.true)) c.in_err-range.ensures in
    let all = then_fails (number 1 C4 (λ _. true)) c.args.cursor.now first c.in_ok-mask.mask (λ mask. RangesFail (bits 8 mask)) _ head fails in
    let p = err_from_is_err_and c.from_residual-in_err-range.result c.from_residual-in_err-range.ensures.1 in
    rw (p.1, p.2) all

pub loop-v-preserved : goal.loop-v-preserved
loop-v-preserved c =
    elim c.if-bits-eq1.branch [
      | then-bits-eq1+in_ok-range w ↦
          rw (w.slots-is, w.cursor-is)
          (walk_live c.byte.new.self c.loop-v.cursor c.in_ok-mask.mask c.loop-v.v c.loop-v.bits c.loop-v.slots (omega arith)
          c.loop-v.invariant _ _ (omega (arith, w.if-bits-eq1)) w.in_ok-range.ensures)
      | else-bits-eq1 w ↦
          rw (w.slots-is, w.cursor-is)
          (walk_dead c.byte.new.self c.loop-v.cursor c.in_ok-mask.mask c.loop-v.v c.loop-v.bits c.loop-v.slots (omega arith)
          c.loop-v.invariant (search rules))
    ]

pub returns : goal.returns
returns c =
    let first = c.byte.new.self in
    let head =
    byte_at C4 (λ _. true) c.args.cursor.now first c.in_ok-mask.mask (search rules) refl c.in_ok-mask.ensures in
    slots_at c.args.cursor.now first c.loop-v.cursor c.in_ok-mask.mask c.loop-v.slots head
    (walk_ends first c.loop-v.cursor c.in_ok-mask.mask c.loop-v.v c.loop-v.bits c.loop-v.slots (omega arith) c.loop-v.invariant)
    c.loop-v.invariant.after
