-- What is written, and what is still to be written, are all of it.
use Rattle.std.proofs.Common.{◌≡◌, ◌++◌, drop}
use Rattle.burr_container.specs.Views.Refs.{frame_of}
use Rattle.burr_plantext.specs.Views.Parts.{slots_text}
use Rattle.burr_plantext.proofs.frames.add_slots.Given as goal

abbrev pub invariant-loop-slot : goal.invariant-loop-slot
invariant-loop-slot l =
    l.text.items ++ slots_text l.slot (drop l.slot (frame_of l.frame).slots)
    ≡ l.initial.text.items ++ slots_text 0 (frame_of l.frame).slots
