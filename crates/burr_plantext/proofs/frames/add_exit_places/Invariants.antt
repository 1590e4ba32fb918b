-- What is written, and what is still to be written, are all of it.
use Rattle.std.proofs.Common.{◌≡◌, ◌++◌, drop}
use Rattle.burr_container.specs.Views.Refs.{exit_frame_of}
use Rattle.burr_plantext.specs.Views.Parts.{places_text}
use Rattle.burr_plantext.proofs.frames.add_exit_places.Given as goal

abbrev pub invariant-loop-piece : goal.invariant-loop-piece
invariant-loop-piece l =
    l.text.items ++ places_text l.piece (drop l.piece (exit_frame_of l.exit).places)
    ≡ l.initial.text.items ++ places_text 0 (exit_frame_of l.exit).places
