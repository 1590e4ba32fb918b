use Rattle.std.proofs.Common.{◌≡◌, ◌++◌, ◌∷◌, [], drop}
use Rattle.std.specs.List.{flat_map}
use Rattle.burr_assembly.proofs.text.add_layer.Given as goal

-- the rows so far, and those to come, are the layer's
abbrev pub invariant-loop-row : goal.invariant-loop-row
invariant-loop-row l =
    l.text.items ++ flat_map (λ row. row ++ 10 ∷ []) (drop l.row-index l.row-items) ≡ l.initial.text.items ++ flat_map (λ row. row ++ 10 ∷ []) l.row-items
