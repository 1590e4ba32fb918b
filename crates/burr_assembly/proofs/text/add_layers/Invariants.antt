use Rattle.std.proofs.Common.{◌≡◌, ◌++◌, drop}
use Rattle.std.specs.List.{flat_map}
use Rattle.burr_assembly.specs.Rules.Text.{layer_text}
use Rattle.burr_assembly.proofs.text.add_layers.Given as goal

-- the layers so far, and those to come, are all
abbrev pub invariant-loop-layer : goal.invariant-loop-layer
invariant-loop-layer l =
    l.text.items ++ flat_map layer_text (drop l.layer-index l.layers) ≡ l.initial.text.items ++ flat_map layer_text l.layers
