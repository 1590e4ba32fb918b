-- The images of the axes are those of a rotation, so each sum stays as near to the origin as the cell.
use Rattle.std.proofs.Common.{rules, FitsSigned, to_z-of_z, w32, lit<}
use Rattle.burr_voxels.proofs.Near.{IsWithin_fits}
use Rattle.burr_voxels.proofs.Common.Turning.{turned_within}
use Rattle.burr_voxels.proofs.direction.Orientation.turn.Goals as goal

pub add-requires : goal.add-requires
add-requires c =
    let o = c.args.self.now in
    let x : FitsSigned w32 c.args.cell.x = search rules in
    let y : FitsSigned w32 c.args.cell.y = search rules in
    let near = turned_within o.x o.y o.z o.rotation 1000000 c.args.cell c.requires in
    rw (c.along.ensures, c.along-2.ensures) (simp to_z-of_z (IsWithin_fits 1000000 _ near.0 (lit< tt)))

pub add-requires-2 : goal.add-requires-2
add-requires-2 c =
    let o = c.args.self.now in
    let x : FitsSigned w32 c.args.cell.x = search rules in
    let y : FitsSigned w32 c.args.cell.y = search rules in
    let z : FitsSigned w32 c.args.cell.z = search rules in
    let near = turned_within o.x o.y o.z o.rotation 1000000 c.args.cell c.requires in
    rw (c.add.ensures, c.along.ensures, c.along-2.ensures, c.along-3.ensures) (simp to_z-of_z (IsWithin_fits 1000000 _ near.1 (lit< tt)))

pub returns-clause-value : goal.returns-clause-value
returns-clause-value c =
    let x : FitsSigned w32 c.args.cell.x = search rules in
    let y : FitsSigned w32 c.args.cell.y = search rules in
    let z : FitsSigned w32 c.args.cell.z = search rules in
    rw (c.add-2.ensures, c.add.ensures, c.along.ensures, c.along-2.ensures, c.along-3.ensures) (simp to_z-of_z)

pub returns-clause-near : goal.returns-clause-near
returns-clause-near c n h =
    let o = c.args.self.now in
    let near = turned_within o.x o.y o.z o.rotation n c.args.cell h in
    rw (returns-clause-value c) near.1
