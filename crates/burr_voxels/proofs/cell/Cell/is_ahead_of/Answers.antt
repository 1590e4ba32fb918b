-- In each direction, the other two coordinates agree and the one along it is compared.
use Rattle.std.proofs.Common.{rules, FitsSigned, to_z-of_z, w32}
use Rattle.burr_voxels.proofs.Common.Ahead.{ahead_plus_x, ahead_minus_x, ahead_plus_y, ahead_minus_y, ahead_plus_z, ahead_minus_z}
use Rattle.burr_voxels.proofs.cell.Cell.is_ahead_of.Goals as goal

pub returns-then-in_row : goal.returns-then-in_row
returns-then-in_row c =
    let to : FitsSigned w32 c.args.self.x = search rules in
    let from : FitsSigned w32 c.args.from.x = search rules in
    rw c.in-PlusX.is (simp to_z-of_z (ahead_plus_x c.args.from c.args.self (search rules) (search rules)))

pub returns-then-in_row-2 : goal.returns-then-in_row-2
returns-then-in_row-2 c =
    let to : FitsSigned w32 c.args.self.x = search rules in
    let from : FitsSigned w32 c.args.from.x = search rules in
    rw c.in-MinusX.is (simp to_z-of_z (ahead_minus_x c.args.from c.args.self (search rules) (search rules)))

pub returns-then-in_file : goal.returns-then-in_file
returns-then-in_file c =
    let to : FitsSigned w32 c.args.self.y = search rules in
    let from : FitsSigned w32 c.args.from.y = search rules in
    rw c.in-PlusY.is (simp to_z-of_z (ahead_plus_y c.args.from c.args.self (search rules) (search rules)))

pub returns-then-in_file-2 : goal.returns-then-in_file-2
returns-then-in_file-2 c =
    let to : FitsSigned w32 c.args.self.y = search rules in
    let from : FitsSigned w32 c.args.from.y = search rules in
    rw c.in-MinusY.is (simp to_z-of_z (ahead_minus_y c.args.from c.args.self (search rules) (search rules)))

pub returns-then-in_column : goal.returns-then-in_column
returns-then-in_column c =
    let to : FitsSigned w32 c.args.self.z = search rules in
    let from : FitsSigned w32 c.args.from.z = search rules in
    rw c.in-PlusZ.is (simp to_z-of_z (ahead_plus_z c.args.from c.args.self (search rules) (search rules)))

pub returns-then-in_column-2 : goal.returns-then-in_column-2
returns-then-in_column-2 c =
    let to : FitsSigned w32 c.args.self.z = search rules in
    let from : FitsSigned w32 c.args.from.z = search rules in
    rw c.in-MinusZ.is (simp to_z-of_z (ahead_minus_z c.args.from c.args.self (search rules) (search rules)))
