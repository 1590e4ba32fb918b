use Rattle.std.proofs.Common.{rules, ◌≡◌, ◌∙◌, false}
use Rattle.std.specs.Prelude.{nat_le, slice_index_or, ◌&&◌}
use Rattle.burr_asm.proofs.FormTerms.{found_live_slot, no_live_slot}
use Rattle.burr_asm.proofs.text.form.live_slot.Goals as goal

pub returns-in_err-slot-clause-value : goal.returns-in_err-slot-clause-value
returns-in_err-slot-clause-value c =
    rw c.from_residual.ensures (no_live_slot c.args.live.now c.args.least c.args.number.bytes.now c.told-live c.in_err-slot.ensures.value)

pub returns-clause-value : goal.returns-clause-value
returns-clause-value c =
    let slot = c.in_ok-slot.ensures.value in
    let test : c.if-least-slot.then_some ≡ (nat_le c.args.least c.from-slot.result && slice_index_or c.args.live.now c.from-slot.result false) = search rules in
    rw c.then_some.ensures (found_live_slot c.args.live.now c.args.least c.from-slot.result c.args.number.bytes.now c.if-least-slot.then_some slot.0 (c.from-slot.ensures ∙ slot.1) test)
