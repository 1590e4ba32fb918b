-- Pieces in classes: those of one class are translates of one of them, its representative.
use Rattle.std.specs.Prelude.{◌≡◌, ◌≢◌, ℕ, ◌+◌, ◌≤◌, ◌<◌, List, length, slice_index_or}
use Rattle.std.specs.List.{All}
use Rattle.burr_voxels.specs.declared.cell.Cell.{Cell}
use Rattle.burr_assembly.specs.Rules.Homes.{home_at}
use Rattle.burr_blocking.specs.declared.triangle.translate.Translate.{Translate}
use Rattle.burr_blocking.specs.declared.triangle.Classes.{Classes}
use Rattle.burr_blocking.specs.Views.Translates.{IsTranslate, representative_at}

-- cells are a translate of those of the representative of a class
pub record IsOfClass (homes : List (List Cell)) (representatives : List ℕ) (cells : List Cell)
    (t : Translate) : Type 0 where
  pub class : t.class < length representatives
  pub translate :
      IsTranslate (representative_at homes representatives t.class) t.displacement cells

-- the first n pieces, each in its class
pub record AreFirstClasses (homes : List (List Cell)) (n : ℕ) (c : Classes) : Type 0 where
  pub count : length c.translates.items ≡ n
  pub representatives : All (λ p. p < length homes) c.representatives.items
  pub each : (p : ℕ) (d : Translate) → p < length c.translates.items → IsOfClass homes
      c.representatives.items (home_at homes p) (slice_index_or c.translates.items p d)

-- all pieces, each in its class
abbrev pub AreClasses : List (List Cell) → Classes → Type 0
AreClasses homes classes = AreFirstClasses homes (length homes) classes

-- piece p is of the class
abbrev pub IsIn : List Translate → ℕ → ℕ → Type 0
IsIn translates class p = (p < length translates)
    × ((d : Translate) → (slice_index_or translates p d).class ≡ class)

-- piece p is of the class, and another than its representative
abbrev pub IsAnother : Classes → ℕ → ℕ → Type 0
IsAnother c class p =
    (p ≢ slice_index_or c.representatives.items class 0) × IsIn c.translates.items class p

-- the class has another piece than its representative
abbrev pub HasSeveral : Classes → ℕ → Type 0
HasSeveral c class = (p : ℕ) × IsAnother c class p

-- how many pairs are kept of a class: one with each class before it, and one with itself where it
-- has several pieces
pub record IsPairCount (c : Classes) (class n : ℕ) : Type 0 where
  pub before : class ≤ n
  pub several : HasSeveral c class → n ≡ class + 1
  pub alone : (¬ HasSeveral c class) → n ≡ class
