-- The pairs of the classes of an assembly's pieces: for each class, what is kept of the
-- representative of each one before it against its own.
use Rattle.std.specs.Prelude.{◌≡◌, ◌≢◌, ◌⊎◌, ℕ, ℤ, ◌<◌, ◌≤◌, Bool, true, false, List, Vec, length, slice_index_or}
use Rattle.std.specs.declared.alloc.Global.{Global}
use Rattle.burr_voxels.specs.declared.cell.Cell.{Cell}
use Rattle.burr_voxels.specs.declared.direction.Direction.{Direction}
use Rattle.burr_voxels.specs.Grid.{along, plus, minus, origin}
use Rattle.burr_assembly.specs.Rules.Text.{Assembly}
use Rattle.burr_assembly.specs.Rules.Homes.{homes_of}
use Rattle.burr_blocking.specs.declared.triangle.translate.Pair.{Pair}
use Rattle.burr_blocking.specs.declared.triangle.Held.{Held}
use Rattle.burr_blocking.specs.declared.triangle.Held.TheVariants.{Lent, Owned}
use Rattle.burr_blocking.specs.declared.triangle.translate.Translate.{Translate}
use Rattle.burr_blocking.specs.declared.triangle.Classes.{Classes}
use Rattle.burr_blocking.specs.Views.Classes.{AreClasses, IsPairCount}
use Rattle.burr_blocking.specs.Views.Overlaps.{AreOverlapsOf}
use Rattle.burr_blocking.specs.Views.Translates.{representative_at}

module _ {P : Type 0} (Overlaps : P → Cell → Type 0) where
  -- the pair of two classes: its overlaps are those of their representatives' home cells
  abbrev pub IsPairOf : List (List Cell) → List ℕ → ℕ → ℕ → P → Type 0
  IsPairOf homes representatives a b pair = AreOverlapsOf (Overlaps pair)
      (representative_at homes representatives a) (representative_at homes representatives b)

  -- the first pairs of a class: those of the first classes, in their order, with it
  abbrev pub ArePairsOf : List (List Cell) → List ℕ → ℕ → List P → Type 0
  ArePairsOf homes representatives b pairs = (a : ℕ) (d : P) → a < length pairs
      → IsPairOf homes representatives a b (slice_index_or pairs a d)

  -- the pairs of a class
  pub record AreClassPairs (homes : List (List Cell)) (classes : Classes) (b : ℕ)
      (kept : Vec P Global) : Type 0 where
    pub count : IsPairCount classes b (length kept.items)
    pub pairs : ArePairsOf homes classes.representatives.items b kept.items

  -- the pairs of the first classes
  abbrev pub AreFirstPairs : List (List Cell) → Classes → List (Vec P Global) → Type 0
  AreFirstPairs homes classes kept = (b : ℕ) (d : Vec P Global) → b < length kept
      → AreClassPairs homes classes b (slice_index_or kept b d)

  -- the pairs of all classes
  pub record IsTriangle (homes : List (List Cell)) (classes : Classes) (kept : List (Vec P Global))
      : Type 0 where
    pub pieces : AreClasses homes classes
    pub count : length kept ≡ length classes.representatives.items
    pub each : AreFirstPairs homes classes kept

-- the assembly that is lent or owned
abbrev pub held : Held → Assembly
held (Lent assembly) = assembly.now
held (Owned assembly) = assembly

-- A pair of pieces, by that of their classes

-- two different pieces, each as a translate of the representative of its class
pub record AreOfClasses (homes : List (List Cell)) (classes : Classes) (p q : ℕ) (s t : Translate)
    : Type 0 where
  pub two : p ≢ q
  pub first : p < length homes
  pub second : q < length homes
  pub from : s ≡ slice_index_or classes.translates.items p s
  pub to : t ≡ slice_index_or classes.translates.items q t

-- the classes of two pieces as they come, or turned round where the second one's is the earlier
pub record IsPairOfClasses (pair : Pair) (s t : Translate) : Type 0 where
  pub order : pair.earlier ≤ pair.later
  pub shift : pair.shift ≡ minus s.displacement t.displacement
  pub classes :
      ((pair.is_turned ≡ false) × (pair.earlier ≡ s.class) × (pair.later ≡ t.class))
      ⊎ ((pair.is_turned ≡ true) × (pair.earlier ≡ t.class) × (pair.later ≡ s.class))

-- the pair is that of the classes of pieces p and q
abbrev pub IsPairOfTwo : Classes → ℕ → ℕ → Pair → Type 0
IsPairOfTwo c p q pair = (s t : Translate) × (s ≡ slice_index_or c.translates.items p s)
    × (t ≡ slice_index_or c.translates.items q t) × IsPairOfClasses pair s t

-- the pairs of piece p's class and those of all pieces
pub record IsRowOf (c : Classes) (p : ℕ) (row : List Pair) : Type 0 where
  pub count : length row ≡ length c.translates.items
  pub each : (q : ℕ) (d : Pair) → q < length row → IsPairOfTwo c p q (slice_index_or row q d)

-- such a row for each piece
pub record AreRows (c : Classes) (rows : List (Vec Pair Global)) : Type 0 where
  pub count : length rows ≡ length c.translates.items
  pub each : (p : ℕ) (d : Vec Pair Global) → p < length rows
      → IsRowOf c p (slice_index_or rows p d).items

-- the pair is that of the classes of two different pieces
abbrev pub IsPairOfPieces : List (List Cell) → Classes → Pair → ℕ → ℕ → Type 0
IsPairOfPieces homes classes pair p q =
    (s t : Translate) × AreOfClasses homes classes p q s t × IsPairOfClasses pair s t

-- an assembly with the classes of its pieces
pub record ClassedAssembly : Type 0 where
  pub assembly : Assembly
  pub classes : Classes

-- the pair is that of the classes of pieces p and q of the assembly
abbrev pub IsPairIn : ClassedAssembly → ℕ → ℕ → Pair → Type 0
IsPairIn t p q pair = IsPairOfPieces (homes_of t.assembly) t.classes pair p q

-- a displacement as it is, or turned round
abbrev pub turned_by : Bool → Cell → Cell
turned_by false d = d
turned_by true d = minus origin d

-- the displacement of the earlier class's representative where the first piece has this one
abbrev pub way_of : Pair → Cell → Cell
way_of pair d = turned_by pair.is_turned (plus pair.shift d)

-- a direction as it is, or turned round
abbrev pub IsTurnedBy : Bool → Direction → Direction → Type 0
IsTurnedBy false direction turned = turned ≡ direction
IsTurnedBy true direction turned = (k : ℤ) → along turned k ≡ minus origin (along direction k)
