-- One slot more that is not live; at the end the operands decide.
use Rattle.std.proofs.Common.{rules, ◌≡◌, ◌≤◌, length, sym, arith}
use Rattle.burr_text.proofs.Common.Tests.{one_more_number}
use Rattle.burr_container.specs.Views.Refs.{frame_of}
use Rattle.burr_verify.specs.Views.Forming.{IsLive}
use Rattle.burr_verify.proofs.Formed.{entry_formed, is_not_live, none_live}
use Rattle.burr_verify.proofs.forming.is_formed_entry.Goals as goal

pub loop-v-preserved : goal.loop-v-preserved
loop-v-preserved c =
    let slots = (frame_of c.args.frame.now).slots in
    one_more_number (λ v. c.args.parameters ≤ v → ¬ IsLive slots v) c.loop-v.v c.loop-v.invariant
    (λ above. is_not_live slots c.loop-v.v c.slot.result c.slot.ensures.slot (sym c.if-is_some.ensures))

pub returns : goal.returns
returns c =
    let slots = (frame_of c.args.frame.now).slots in
    let eight : length c.args.frame.now.slots ≡ 8 = search rules in
    entry_formed c.args.parameters (frame_of c.args.frame.now) c.stack_count.result c.stack_count.ensures.count
    (none_live slots c.args.parameters eight (λ v below. c.loop-v.invariant v (omega (arith, below, c.loop-v-test.false))))
