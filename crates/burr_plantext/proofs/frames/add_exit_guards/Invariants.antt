-- What is written, and what is still to be written, are all of it.
use Rattle.std.proofs.Common.{◌≡◌, ◌++◌, drop}
use Rattle.burr_container.specs.Views.Refs.{exit_frame_of}
use Rattle.burr_plantext.specs.Views.Parts.{guards_text}
use Rattle.burr_plantext.proofs.frames.add_exit_guards.Given as goal

abbrev pub invariant-loop-n : goal.invariant-loop-n
invariant-loop-n l =
    l.text.items ++ guards_text (drop l.n (exit_frame_of l.exit).guards)
    ≡ l.initial.text.items ++ guards_text (exit_frame_of l.exit).guards
