use Rattle.std.proofs.Common.{◌≡◌, ◌++◌, drop}
use Rattle.std.specs.List.{flat_map}
use Rattle.burr_assembly.specs.Rules.Text.{shape_text}
use Rattle.burr_assembly.proofs.text.add_shapes.Given as goal

-- the shapes so far, and those to come, are all
abbrev pub invariant-loop-shape : goal.invariant-loop-shape
invariant-loop-shape l =
    l.text.items ++ flat_map shape_text (drop l.shape-index l.shapes) ≡ l.initial.text.items ++ flat_map shape_text l.shapes
