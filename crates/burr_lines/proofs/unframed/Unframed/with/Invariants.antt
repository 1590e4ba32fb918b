use Rattle.std.proofs.Common.{◌≡◌, ◌++◌, drop}
use Rattle.burr_lines.specs.Parts.{in_places}
use Rattle.burr_lines.proofs.unframed.Unframed.with.Given as goal

-- what is made and what comes of the parts that are left
abbrev pub invariant-loop-n : goal.invariant-loop-n
invariant-loop-n l =
    l.made.items ++ in_places (drop l.n l.self-inside.parts.items) (drop l.n l.fills) ≡ in_places l.self-inside.parts.items l.fills
