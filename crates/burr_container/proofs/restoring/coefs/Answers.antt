-- A slot passed, and a slot that gets its coefficient.
use Rattle.std.proofs.Common.{rules, ◌≡◌, ◌<◌, ◌∙◌, ap, length, get_or, Some, arith}
use Rattle.std.specs.Prelude.{true, false, FitsSigned}
use Rattle.std.specs.Int.{w16}
use Rattle.std.proofs.lemmas.Int.{to_z-of_z}
use Rattle.std.proofs.lemmas.Option.{slice_get-get_or}
use Rattle.burr_container.proofs.Restored.{passed, given}
use Rattle.burr_container.proofs.restoring.coefs.Goals as goal

pub loop-slot-preserved-then-not-live-slot : goal.loop-slot-preserved-then-not-live-slot
loop-slot-preserved-then-not-live-slot c =
    let live = c.args.live.now in
    let slot = c.loop-slot.slot in
    let less : slot < length live = omega (arith, c.loop-slot-test.true, c.told-live) in
    let dead : get_or live slot false ≡ false = search rules in
    passed live c.args.bytes.now slot c.loop-slot.coefs c.loop-slot.rest.now c.loop-slot-test.true
    (slice_get-get_or live slot false less ∙ ap Some dead) c.loop-slot.invariant

pub loop-slot-preserved : goal.loop-slot-preserved
loop-slot-preserved c =
    let live = c.args.live.now in
    let slot = c.loop-slot.slot in
    let less : slot < length live = omega (arith, c.loop-slot-test.true, c.told-live) in
    let is_live : get_or live slot false ≡ true = search rules in
    let number = c.read_i16.result in
    let narrow : FitsSigned w16 number = search rules in
    rw (to_z-of_z w16 number narrow)
    (given live c.args.bytes.now slot c.loop-slot.coefs c.loop-slot.rest.now c.after-rest.result.now number c.loop-slot-test.true
    (slice_get-get_or live slot false less ∙ ap Some is_live) c.read_i16.ensures c.after-rest.ensures c.loop-slot.invariant)
