-- How `cells` ends: what it prints of an assembly.
use Rattle.std.specs.Prelude.{◌≡◌, ◌++◌, ◌∷◌, [], ℕ, List}
use Rattle.std.specs.List.{flat_map}
use Rattle.std.specs.Fmt.{signed_decimal}
use Rattle.burr_voxels.specs.declared.cell.Cell.{Cell}
use Rattle.burr_assembly.specs.Rules.Text.{Assembly}
use Rattle.burr_assembly.specs.Rules.Homes.{homes_of, names_of}
use Rattle.burr_judge.specs.declared.status.Status.TheVariants.{Done}
use Rattle.burr_judge.specs.PlanEnds.{Ends}

-- the line of a cell of the piece with this name, as `A 0 -1 2`
abbrev pub cell_line : List ℕ → Cell → List ℕ
cell_line name c =
    name
    ++ (32 ∷ signed_decimal c.x ++ (32 ∷ signed_decimal c.y ++ (32 ∷ signed_decimal c.z ++ 10 ∷ [])))

-- the lines of pieces with these names, which have these cells at home
abbrev pub cell_lines : List (List ℕ) → List (List Cell) → List ℕ
cell_lines [] homes = []
cell_lines (name ∷ names) [] = []
cell_lines (name ∷ names) (cells ∷ homes) =
    flat_map (cell_line name) cells ++ cell_lines names homes

-- a line is printed for each home cell of each piece
abbrev pub CellEnds : Assembly → Ends
CellEnds a output status = (output ≡ cell_lines (names_of a) (homes_of a)) × (status ≡ Done)
