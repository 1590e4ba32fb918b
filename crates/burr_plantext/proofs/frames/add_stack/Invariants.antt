-- What is written, and what is still to be written, are all of it.
use Rattle.std.proofs.Common.{◌≡◌, ◌++◌, drop}
use Rattle.burr_container.specs.Views.Refs.{frame_of}
use Rattle.burr_plantext.specs.Views.Parts.{stack_text}
use Rattle.burr_plantext.proofs.frames.add_stack.Given as goal

abbrev pub invariant-loop-n : goal.invariant-loop-n
invariant-loop-n l =
    l.text.items ++ stack_text (drop l.n (frame_of l.frame).stack)
    ≡ l.initial.text.items ++ stack_text (frame_of l.frame).stack
