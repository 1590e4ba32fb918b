-- The way of the grip past the rest of its tray, pair by pair.
use Rattle.std.specs.Prelude.{ℕ, pos, List}
use Rattle.burr_voxels.specs.declared.cell.Cell.{Cell}
use Rattle.burr_voxels.specs.Grid.{plus, minus, along}
use Rattle.burr_code.specs.PieceSets.{IsInSet}
use Rattle.burr_code.specs.declared.placement.Placement.{Placement}
use Rattle.burr_code.specs.Places.{LiesAt}
use Rattle.burr_assembly.specs.Rules.Homes.{home_at}
use Rattle.burr_blocking.specs.declared.blocking.Query.{Query}
use Rattle.burr_blocking.specs.declared.blocking.Query.TheVariants as queries
use Rattle.burr_blocking.specs.Rules.Pairs.{Clears}
use Rattle.burr_bench.specs.declared.checked.Way.{Way}
use Rattle.burr_bench.specs.declared.checked.Way.TheVariants as ways

-- the query that tells whether a gripped piece goes this way past another one of the tray
abbrev pub query_of : Way → Query
query_of (ways.Unit direction) = queries.Overlap
query_of (ways.Out direction) = queries.Exit direction

-- the offset for which the query of a piece is made: after its one unit, or where it sets out
abbrev pub setting_out : Way → Cell → Cell
setting_out (ways.Unit direction) offset = plus offset (along direction (pos 1))
setting_out (ways.Out direction) offset = offset

-- piece p at this offset keeps clear of piece q, if that lies in the tray
abbrev pub PassesPiece : Query → List (List Cell) → List (Placement Cell) → ℕ → ℕ → Cell → ℕ
    → Type 0
PassesPiece query homes places tray p from q =
    (there : Cell) → LiesAt places q tray there
    → Clears query (home_at homes p) (home_at homes q) (minus from there)

-- piece p, if it lies in the tray, passes each piece that is not in the group
abbrev pub PassesRest : Way → List (List Cell) → List (Placement Cell) → ℕ → ℕ → ℕ → Type 0
PassesRest way homes places tray group p =
    (offset : Cell) → LiesAt places p tray offset
    → (q : ℕ) → (¬ IsInSet group q)
    → PassesPiece (query_of way) homes places tray p (setting_out way offset) q

-- each piece of the group does
abbrev pub GroupPasses : Way → List (List Cell) → List (Placement Cell) → ℕ → ℕ → Type 0
GroupPasses way homes places tray group =
    (p : ℕ) → IsInSet group p → PassesRest way homes places tray group p
