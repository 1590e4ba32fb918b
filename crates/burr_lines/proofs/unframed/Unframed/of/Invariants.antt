use Rattle.std.proofs.Common.{◌≡◌, ◌↔◌, ◌++◌, length, map, reverse, IsSome}
use Rattle.std.specs.List.{flat_map}
use Rattle.burr_lines.specs.Parts.{AreRead, FrameIsDue, line_of, own_line}
use Rattle.burr_lines.proofs.unframed.Unframed.of.Given as goal

-- the parts so far and the rest are the text, and what is due is due after them
abbrev pub invariant-loop-line : goal.invariant-loop-line
invariant-loop-line l = record {
  whole : l.text ≡ flat_map own_line l.parts.items ++ l.rest;
  read : AreRead (reverse l.parts.items);
  due : IsSome l.heading.due ↔ FrameIsDue (map line_of (reverse l.parts.items));
}

abbrev pub decreases-loop-line : goal.decreases-loop-line
decreases-loop-line l = length l.rest
