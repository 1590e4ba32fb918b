-- The slots that remain are still to be put.
use Rattle.std.proofs.Common.{drop, map}
use Rattle.burr_io.proofs.Common.Puts.{Remains}
use Rattle.burr_step.specs.Rules.StepTexts.{slot_word}
use Rattle.burr_step.specs.Views.ShownParts.{spaced_words}
use Rattle.burr_step.proofs.state_text.put_slot_words.Given as goal

abbrev pub invariant-loop-slot : goal.invariant-loop-slot
invariant-loop-slot g l =
    Remains g.W.Sink l.fn.sink l.sink (spaced_words (map slot_word l.machine.state.running.slots))
    (spaced_words (map slot_word (drop l.slot l.machine.state.running.slots)))
