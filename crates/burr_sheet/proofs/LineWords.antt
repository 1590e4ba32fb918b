-- What the words of a sheet's lines come to.
use Rattle.std.proofs.Common.{◌≡◌, ℕ, zero, suc, ◌+◌, ◌<◌, if◌then◌else◌, IfSome, List, [], ◌∷◌, ◌++◌, length, get_or, slice_get, drop, map, codes, decimal, sym, arith, add-one, drop-cons, append_assoc}
use Rattle.std.proofs.lemmas.List.{length-map}
use Rattle.burr_code.specs.PieceSets.{IsInSet, is_left_out}
use Rattle.burr_code.proofs.Common.PieceSets.{not_left_out, left_out}
use Rattle.burr_assembly.specs.Rules.Text.{Piece}
use Rattle.burr_voxels.specs.Grid.{name_of}
use Rattle.burr_sheet.specs.Rules.SheetText.{MoveLine, levels_word, names_from, out_word, move_line}
use Rattle.burr_sheet.specs.Views.SheetUnderWay.{spaced_names}
use Rattle.burr_text.specs.Words.{text_line}
use Rattle.burr_io.proofs.Common.Puts.{joined, joined-join}

-- at least one level, with a dot between each two
pub levels_word-some : (levels : List ℕ) (last : List ℕ) → 0 < length levels → levels_word levels ++ last ≡ joined [] 46 (map decimal levels) last
levels_word-some [] last some = absurd (omega arith)
levels_word-some (level ∷ levels) last some = joined-join 46 (map decimal (level ∷ levels)) last

-- the name of the p-th piece
pub name-at : (pieces : List Piece) (p : ℕ) (name : List ℕ) → p < length pieces → IfSome (slice_get pieces p) (λ (piece : Piece). name ≡ piece.name)
    → get_or (map (λ (piece : Piece). piece.name) pieces) p [] ≡ name
name-at [] p name inside is = absurd (omega arith)
name-at (piece ∷ pieces) zero name inside is = sym is
name-at (piece ∷ pieces) (suc p) name inside is = name-at pieces p name (omega arith) is

pub names_from-at : (names : List (List ℕ)) (p group : ℕ) → p < length names
    → names_from p group (drop p names)
    ≡ (if is_left_out group p then names_from (p + 1) group (drop (p + 1) names) else (get_or names p [] ∷ names_from (p + 1) group (drop (p + 1) names)))
names_from-at names p group inside = rw (add-one, drop-cons names p [])

module _ (pieces : List Piece) (p group : ℕ) (inside : p < length pieces) where
  here : p < length (map (λ (piece : Piece). piece.name) pieces)
  here = rw length-map inside

  -- a piece of the group is the next whose name is to come
  pub names_from-in : (name : List ℕ) → IsInSet group p → IfSome (slice_get pieces p) (λ (piece : Piece). name ≡ piece.name)
      → names_from p group (drop p (map (λ (piece : Piece). piece.name) pieces)) ≡ name ∷ names_from (p + 1) group (drop (p + 1) (map (λ (piece : Piece). piece.name) pieces))
  names_from-in name is has = rw (names_from-at _ p group here, not_left_out group p is, name-at pieces p name inside has)

  -- a piece of another group is passed over
  pub names_from-out : (¬ IsInSet group p)
      → names_from p group (drop p (map (λ (piece : Piece). piece.name) pieces)) ≡ names_from (p + 1) group (drop (p + 1) (map (λ (piece : Piece). piece.name) pieces))
  names_from-out none = rw (names_from-at _ p group here, left_out group p none)

-- the words of a line, one after another
spaced : (number tray names word : List ℕ) (words : List (List ℕ))
    → text_line (number ∷ (codes "t" ++ tray) ∷ names ∷ word ∷ words) ≡ number ++ (codes " t" ++ (tray ++ ((32 ∷ (names ++ 32 ∷ [])) ++ text_line (word ∷ words))))
spaced number tray names word words = simp append_assoc

-- a line as it is put
pub move_line-parts : (names : List (List ℕ)) (n : ℕ) (l : MoveLine)
    → move_line names n l
    ≡ decimal n
    ++ (codes " t" ++ (decimal l.tray ++ (spaced_names names l.group ++ text_line (name_of l.direction ∷ decimal l.units ∷ out_word l.out))))
move_line-parts names n l = spaced (decimal n) (decimal l.tray) _ (name_of l.direction) (decimal l.units ∷ out_word l.out)
