-- An argument more in its slot.
use Rattle.std.proofs.Common.{◌-◌, sym, subst, length, map, Some, None, List, [], ◌∷◌, arith}
use Rattle.std.specs.Prelude.{replicate, All}
use Rattle.std.proofs.lemmas.List.{length-map}
use Rattle.std.proofs.lemmas.List.Elements.{All-nil, All-cons, All-head, All-tail, All-append, All-replicate}
use Rattle.burr_forms.specs.Rules.Forms.{Form, IsSmallForm, AllSmallForms}
use Rattle.burr_frames.specs.Views.StateViews.{IsSmallSlot}
use Rattle.burr_frames.proofs.CallArguments.{one_put, all_put, as_slot, slots_filled}
use Rattle.burr_frames.proofs.state.calls.argument_slots.Goals as goal

pub loop-v-preserved : goal.loop-v-preserved
loop-v-preserved c =
    let arguments = c.args.arguments.now in
    let many = length-map arguments Some in
    let here = c.index-arguments-v.result in
    one_put None (Some here) c.loop-v.v (map Some arguments) c.loop-v.slots (omega (arith, many, c.loop-v-test.true)) (omega (arith, many, c.requires.few))
    (as_slot here c.loop-v.v arguments c.loop-v-test.true c.index-arguments-v.is) c.loop-v.invariant

pub returns-clause-slots : goal.returns-clause-slots
returns-clause-slots c =
    let arguments = c.args.arguments.now in
    let many = length-map arguments Some in
    slots_filled arguments c.loop-v.slots
    (all_put None c.loop-v.v (map Some arguments) c.loop-v.slots (omega (arith, many, c.loop-v-test.false)) (omega (arith, many, c.loop-v.auto.v-end)) c.loop-v.invariant)

known_small : (forms : List Form) → AllSmallForms forms → All IsSmallSlot (map Some forms)
known_small [] small = All-nil IsSmallSlot
known_small (f ∷ forms) small =
    All-cons IsSmallSlot (Some f) (map Some forms) (All-head IsSmallForm f forms small)
    (known_small forms (All-tail IsSmallForm f forms small))

pub returns-clause-small : goal.returns-clause-small
returns-clause-small c =
    let arguments = c.args.arguments.now in
    let many = length-map arguments Some in
    subst (All IsSmallSlot)
    (sym
    (all_put None c.loop-v.v (map Some arguments) c.loop-v.slots (omega (arith, many, c.loop-v-test.false)) (omega (arith, many, c.loop-v.auto.v-end)) c.loop-v.invariant))
    (All-append IsSmallSlot (map Some arguments) (replicate (8 - length (map Some arguments)) None) (known_small arguments c.requires.small)
    (All-replicate IsSmallSlot (8 - length (map Some arguments)) None tt))
