use Rattle.std.proofs.Common.{◌≡◌, length, rules}
use Rattle.std.specs.HashMap.{get}
use Rattle.burr_assembly.specs.Views.HomedPieces.{same_cell}
use Rattle.burr_assembly.proofs.Owners.{owners_more}
use Rattle.burr_assembly.proofs.occupancy.Occupancy.with.Goals as goal

pub invariant_of-result : goal.invariant_of-result
invariant_of-result c =
    let count : c.len.result ≡ length c.self.inside.pieces.items = search rules in (
      search rules,
      rw c.in_ok-push.ensures.items
          (owners_more c.self.inside.pieces.items c.args.piece (get same_cell c.self.inside.owners) (get same_cell c.own.new.owners) c.self.invariant.1 (rw c.self.view_is c.requires.free)
          (simp (c.cells.ensures.cells, count) at c.in_ok-own.ensures)),
    )
