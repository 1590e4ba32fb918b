-- What the reader's values stand for, and what its steps answer.
use Rattle.std.specs.Prelude.{◌≡◌, ℕ, ◌⊎◌, List}
use Rattle.burr_assembly.specs.declared.fault.AssemblyFault.{AssemblyFault}
use Rattle.burr_assembly.specs.declared.fault.AssemblyFault.TheVariants as faults
use Rattle.burr_assembly.specs.declared.text.beginning.Beginning.{Beginning as BeginningOf}
use Rattle.burr_assembly.specs.declared.text.beginning.Beginning.TheVariants as beginnings
use Rattle.burr_assembly.specs.Rules.Text.{Assembly, Drawing}
use Rattle.burr_assembly.specs.Views.Drawings.{Sketched, AreDistinct}
use Rattle.burr_assembly.specs.Views.HomedPieces.{HomedPiece, pieces_of, AreAtHome}
use Rattle.burr_assembly.specs.Rules.Lines.{LineForm}
use Rattle.burr_assembly.specs.Rules.Faults.{Beginning, Blank, Shapes, Drawn, Pieces, LineResult, FormGives}

-- the beginning with this shape that has not ended
abbrev pub sketched : List ℕ → List Drawing → Sketched → Beginning
sketched name shapes s = Drawn name shapes s.drawing s.begun

-- memory was refused, or the fault is the one that is due
abbrev pub IsDue : AssemblyFault → Type 0 → Type 0
IsDue fault Due = (fault ≡ faults.Memory) ⊎ Due

-- a line after a shape that has not ended gives this, whatever stands before the shape
abbrev pub SketchGives : ℕ → Sketched → LineForm → (List ℕ → List Drawing → LineResult) → Type 0
SketchGives n s form answer = (name : List ℕ) (shapes : List Drawing)
    → FormGives n (sketched name shapes s) form (answer name shapes)

abbrev pub beginning_of : BeginningOf → Beginning
beginning_of beginnings.Blank = Blank
beginning_of (beginnings.Shapes header) = Shapes header.name header.shapes.items
beginning_of (beginnings.Drawing header sketch) = sketched header.name header.shapes.items sketch
beginning_of (beginnings.Pieces header occupancy) =
    Pieces header.name header.shapes.items (pieces_of occupancy)

-- the pieces have their cells at home
abbrev pub IsHome : BeginningOf → Type 0
IsHome beginnings.Blank = Unit {0}
IsHome (beginnings.Shapes header) = Unit {0}
IsHome (beginnings.Drawing header sketch) = Unit {0}
IsHome (beginnings.Pieces header occupancy) = AreAtHome header.shapes.items occupancy

-- a piece may come: no two shapes have one name, and the pieces have their cells at home
abbrev pub IsReady : BeginningOf → Type 0
IsReady beginnings.Blank = Unit {0}
IsReady (beginnings.Shapes header) = AreDistinct header.shapes.items
IsReady (beginnings.Drawing header sketch) = Unit {0}
IsReady (beginnings.Pieces header occupancy) =
    AreDistinct header.shapes.items × AreAtHome header.shapes.items occupancy

abbrev pub assembly_of : List ℕ → List Drawing → List HomedPiece → Assembly
assembly_of name shapes placed = record { name = name; shapes = shapes; pieces = pieces_of placed }
