use Rattle.std.proofs.Common.{length}
use Rattle.burr_asm.proofs.PartLines.{IsFound}
use Rattle.burr_asm.proofs.source_maps.source_map.Given as goal

-- what was found so far goes with what is left of the text
abbrev pub invariant-loop-bytes : goal.invariant-loop-bytes
invariant-loop-bytes l = IsFound l.fn.text l.rest l.line l.cursor l.found.items

abbrev pub decreases-loop-bytes : goal.decreases-loop-bytes
decreases-loop-bytes l = length l.rest
