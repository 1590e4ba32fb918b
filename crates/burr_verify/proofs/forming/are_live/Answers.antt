-- One more slot is live.
use Rattle.burr_text.proofs.Common.Tests.{one_more_number}
use Rattle.burr_container.specs.Views.Refs.{frame_of}
use Rattle.burr_verify.specs.Views.Forming.{IsLive}
use Rattle.burr_verify.proofs.Formed.{is_live}
use Rattle.burr_verify.proofs.forming.are_live.Goals as goal

pub loop-v-preserved : goal.loop-v-preserved
loop-v-preserved c =
    one_more_number (λ v. IsLive (frame_of c.args.frame.now).slots v) c.loop-v.v c.loop-v.invariant
    (is_live (frame_of c.args.frame.now).slots c.loop-v.v c.slot.result c.slot.ensures.slot c.if-is_none.ensures)
