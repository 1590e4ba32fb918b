use Rattle.std.proofs.Common.{◌≡◌, replicate}
use Rattle.burr_code.specs.declared.placement.Placement.TheVariants.{On}
use Rattle.burr_voxels.specs.Grid.{origin}
use Rattle.burr_state.proofs.state.BenchState.start.Given as goal

-- the places so far are those of the pieces before `_piece`, all at home
abbrev pub invariant-loop-piece : goal.invariant-loop-piece
invariant-loop-piece l = l.places.items ≡ replicate l._piece (On 0 origin)
