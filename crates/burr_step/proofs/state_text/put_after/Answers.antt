-- The words of how far the run is.
use Rattle.burr_text.proofs.Common.Tests.{yes_of, no_of}
use Rattle.burr_step.proofs.ShownWords.{not_ended}
use Rattle.burr_step.proofs.state_text.put_after.Goals as goal

pub returns-then-ended : goal.returns-then-ended
returns-then-ended g c =
    let put = rw (c.as_bytes-steps.ensures.value, c.as_bytes-proc.ensures.value, c.as_bytes-pc.ensures.value, c.format.ensures.text, c.format-2.ensures.text, c.format-3.ensures.text) at c.put_words.ensures in
    rw (yes_of c.if-ended.ensures, ← c.steps.ensures, ← c.proc.ensures, ← c.pc.ensures) put

pub returns-else-ended : goal.returns-else-ended
returns-else-ended g c =
    let put = rw (c.as_bytes-steps.ensures.value, c.as_bytes-proc.ensures.value, c.as_bytes-pc.ensures.value, c.format.ensures.text, c.format-2.ensures.text, c.format-3.ensures.text) at c.put_words-else-ended.ensures in
    rw (not_ended c.args.machine.now.state.mode (no_of c.if-ended.ensures), ← c.steps.ensures, ← c.proc.ensures, ← c.pc.ensures) put
