-- The first pieces that have cells, cell by cell, and whose they are after one piece more.
use Rattle.std.proofs.Common.{◌≡◌, ◌<◌, ◌+◌, ◌⊎◌, ℕ, Bool, true, false, cond, ◌||◌, ◌&&◌, min, List, [], ◌∷◌, ◌++◌, length, get_or, take, Option, Some, None, Contains, arith, refl, sym, ap, subst, ◌∙◌, inl, inr}
use Rattle.std.specs.List.{list_any}
use Rattle.std.proofs.lemmas.Bool.{cases_lt}
use Rattle.std.specs.Bool.{Decides}
use Rattle.std.specs.Ordering.{int_eq}
use Rattle.std.proofs.lemmas.Bool.Decides.{Decides-and, Decides-like, Decides-by_or, Decides-int_eq}
use Rattle.std.proofs.lemmas.List.Folds.{list_any-append}
use Rattle.std.proofs.lemmas.List.{get_or_append_left, get_or_at, length-append, take_more}
use Rattle.std.proofs.lemmas.List.Elements.{Contains-append_cases, Contains-append_left, Contains-append_right, Contains-push, Contains-push_cases, Decides-contains}
use Rattle.burr_voxels.specs.declared.cell.Cell.{Cell}
use Rattle.burr_voxels.specs.CellSets.{Overlap}
use Rattle.burr_assembly.specs.Views.HomedPieces.{cells_of, Owns, HomedPiece, AreOwners, IsFirstMeeting, lesser, same_cell}

-- what overlaps with cells overlaps with more
overlap_left : (ps qs rs : List Cell) → Overlap ps qs → Overlap ps (qs ++ rs)
overlap_left ps qs rs (c, in_p, in_q) = (c, in_p, Contains-append_left qs rs c in_q)

overlap_right : (ps qs rs : List Cell) → Overlap ps rs → Overlap ps (qs ++ rs)
overlap_right ps qs rs (c, in_p, in_r) = (c, in_p, Contains-append_right qs rs c in_r)

-- and what overlaps with both together overlaps with one of them
overlap_cases : (ps qs rs : List Cell) → Overlap ps (qs ++ rs) → Overlap ps qs ⊎ Overlap ps rs
overlap_cases ps qs rs (c, in_p, has) = elim (Contains-append_cases qs rs c has) [ inl in_q ↦ inl (c, in_p, in_q) | inr in_r ↦ inr (c, in_p, in_r) ]

-- no piece has one of no cells
pub first_of_none : (placed : List HomedPiece) → IsFirstMeeting placed [] None
first_of_none placed q d inside (c, in_p, (k, less, at)) = absurd (omega arith)

-- the lesser of the first pieces is the first that has a cell of either
pub first_of_both : (placed : List HomedPiece) (cells more : List Cell) (a b : Option ℕ) → IsFirstMeeting placed cells a → IsFirstMeeting placed more b → IsFirstMeeting placed (cells ++ more) (lesser a b)
first_of_both placed cells more None None h k = λ q d inside both. elim (overlap_cases (cells_of placed q d) cells more both) [ inl left ↦ h q d inside left | inr right ↦ k q d inside right ]
first_of_both placed cells more None (Some n) h (inside, meets, first) = (
  inside,
  λ d. overlap_right (cells_of placed n d) cells more (meets d),
  λ r d before both. elim (overlap_cases (cells_of placed r d) cells more both) [ inl left ↦ h r d (omega arith) left | inr right ↦ first r d before right ],
)
first_of_both placed cells more (Some m) None (inside, meets, first) k = (
  inside,
  λ d. overlap_left (cells_of placed m d) cells more (meets d),
  λ r d before both. elim (overlap_cases (cells_of placed r d) cells more both) [ inl left ↦ first r d before left | inr right ↦ k r d (omega arith) right ],
)
first_of_both placed cells more (Some m) (Some n) (in_m, meets_m, first_m) (in_n, meets_n, first_n) = (
  omega arith,
  λ d. elim (cases_lt m n) [
    | inl less ↦ let e : min m n ≡ m = omega arith in subst (λ (q : ℕ). Overlap (cells_of placed q d) (cells ++ more)) (sym e) (overlap_left (cells_of placed m d) cells more (meets_m d))
    | inr not_less ↦ let e : min m n ≡ n = omega arith in subst (λ (q : ℕ). Overlap (cells_of placed q d) (cells ++ more)) (sym e) (overlap_right (cells_of placed n d) cells more (meets_n d))
  ],
  λ r d before both. elim (overlap_cases (cells_of placed r d) cells more both) [ inl left ↦ first_m r d (omega arith) left | inr right ↦ first_n r d (omega arith) right ],
)

-- one cell more
pub first_of_more : (placed : List HomedPiece) (owner : Cell → Option ℕ) (cells : List Cell) (i : ℕ) (c : Cell) (first : Option ℕ) → AreOwners placed owner → i < length cells → c ≡ get_or cells i c
    → IsFirstMeeting placed (take i cells) first → IsFirstMeeting placed (take (i + 1) cells) (lesser first (owner c))
first_of_more placed owner cells i c first owners inside is so_far =
    let cut : take (i + 1) cells ≡ take i cells ++ c ∷ [] = take_more cells i c inside ∙ ap (λ (b : Cell). take i cells ++ b ∷ []) (sym is) in
    subst (λ (l : List Cell). IsFirstMeeting placed l (lesser first (owner c))) (sym cut) (first_of_both placed (take i cells) (c ∷ []) first (owner c) so_far (owners c))

-- A piece more

-- the piece owns one cell more
pub owned_more : (owner next last : Cell → Option ℕ) (cells : List Cell) (i : ℕ) (cell : Cell) (piece : ℕ) → i < length cells → cell ≡ get_or cells i cell
    → Owns piece (take i cells) owner next → ((c : Cell) → last c ≡ cond (same_cell cell c) (Some piece) (next c)) → Owns piece (take (i + 1) cells) owner last
owned_more owner next last cells i cell piece inside is so_far step c =
    let cut : take (i + 1) cells ≡ take i cells ++ cell ∷ [] = take_more cells i cell inside ∙ ap (λ (b : Cell). take i cells ++ b ∷ []) (sym is) in
    let test : Bool = list_any (λ x. same_cell x c) (take i cells) in
    step c ∙ ap (λ (o : Option ℕ). cond (same_cell cell c) (Some piece) o) (so_far c) ∙ either (same_cell cell c) test (owner c)
    ∙ ap (λ (t : Bool). cond t (Some piece) (owner c)) (sym (ap (list_any (λ x. same_cell x c)) cut ∙ list_any-append (λ x. same_cell x c) (take i cells) (cell ∷ [])))
  where
    either : (s t : Bool) (o : Option ℕ) → cond s (Some piece) (cond t (Some piece) o) ≡ cond (t || (s || false)) (Some piece) o
    either true true o = refl
    either true false o = refl
    either false true o = refl
    either false false o = refl

-- the test of two cells
cell_told : (a b : Cell) → Decides (same_cell a b) (a ≡ b)
cell_told a b =
    Decides-like (same_cell a b) (λ t i. record { x = t.0 i; y = t.1.0 i; z = t.1.1 i }) (λ e. (ap (λ (c : Cell). c.x) e, (ap (λ (c : Cell). c.y) e, ap (λ (c : Cell). c.z) e)))
    (Decides-and (int_eq a.x b.x) (int_eq a.y b.y && int_eq a.z b.z) (Decides-int_eq a.x b.x) (Decides-and (int_eq a.y b.y) (int_eq a.z b.z) (Decides-int_eq a.y b.y) (Decides-int_eq a.z b.z)))

-- whether a cell is among cells
among_told : (c : Cell) (cells : List Cell) → Decides (list_any (λ x. same_cell x c) cells) (Contains cells c)
among_told c cells = Decides-contains cells c (list_any (λ x. same_cell x c) cells) (Decides-by_or (λ x. same_cell x c) (λ x. x ≡ c) (list_any (λ x. same_cell x c)) (λ x. cell_told x c) refl (λ _ _. refl) cells)

-- what overlaps with one cell has it
has_one : (ps : List Cell) (c : Cell) → Overlap ps (c ∷ []) → Contains ps c
has_one ps c (b, in_p, is) = subst (Contains ps) (sym (one is)) in_p
  where
    one : Contains (c ∷ []) b → c ≡ b
    one is = elim (Contains-push_cases [] c b is) [ inl none ↦ absurd (omega (arith, none.1)) | inr e ↦ e ]

-- and what has it overlaps
overlaps_one : (ps : List Cell) (c : Cell) → Contains ps c → Overlap ps (c ∷ [])
overlaps_one ps c has = (c, has, Contains-push [] c)

-- pieces before the last keep their cells
kept_cells : (placed : List HomedPiece) (p : HomedPiece) (q : ℕ) (d : HomedPiece) → q < length placed → cells_of (placed ++ p ∷ []) q d ≡ cells_of placed q d
kept_cells placed p q d inside = ap (λ (x : HomedPiece). x.cells) (get_or_append_left placed (p ∷ []) d q inside)

last_cells : (placed : List HomedPiece) (p : HomedPiece) (q : ℕ) (d : HomedPiece) → length placed ≡ q → cells_of (placed ++ p ∷ []) q d ≡ p.cells
last_cells placed p q d e = ap (λ (x : HomedPiece). x.cells) (get_or_at placed p [] d q e)

-- a cell of the last piece, which no other has
own_last : (placed : List HomedPiece) (p : HomedPiece) (c : Cell) → IsFirstMeeting placed p.cells None → Contains p.cells c → IsFirstMeeting (placed ++ p ∷ []) (c ∷ []) (Some (length placed))
own_last placed p c free has = (
  omega (arith, length-append placed (p ∷ [])),
  λ d. subst (λ (l : List Cell). Overlap l (c ∷ [])) (sym (last_cells placed p (length placed) d refl)) (overlaps_one p.cells c has),
  λ r d before both. free r d before (c, has_one (cells_of placed r d) c (subst (λ (l : List Cell). Overlap l (c ∷ [])) (kept_cells placed p r d before) both), has),
)

-- a cell that the last piece has not
own_other : (placed : List HomedPiece) (p : HomedPiece) (c : Cell) (o : Option ℕ) → (¬ Contains p.cells c) → IsFirstMeeting placed (c ∷ []) o → IsFirstMeeting (placed ++ p ∷ []) (c ∷ []) o
own_other placed p c None other first = λ q d inside both. elim (cases_lt q (length placed)) [
  | inl before ↦ first q d before (subst (λ (l : List Cell). Overlap l (c ∷ [])) (kept_cells placed p q d before) both)
  | inr past ↦ other (has_one p.cells c (subst (λ (l : List Cell). Overlap l (c ∷ [])) (last_cells placed p q d (omega (arith, length-append placed (p ∷ [])))) both))
]
own_other placed p c (Some n) other (inside, meets, first) = (
  omega (arith, length-append placed (p ∷ [])),
  λ d. subst (λ (l : List Cell). Overlap l (c ∷ [])) (sym (kept_cells placed p n d inside)) (meets d),
  λ r d before both. first r d before (subst (λ (l : List Cell). Overlap l (c ∷ [])) (kept_cells placed p r d (omega arith)) both),
)

-- so the owners are those of the pieces and of one more
pub owners_more : (placed : List HomedPiece) (p : HomedPiece) (owner next : Cell → Option ℕ) → AreOwners placed owner → IsFirstMeeting placed p.cells None
    → Owns (length placed) p.cells owner next → AreOwners (placed ++ p ∷ []) next
owners_more placed p owner next owners free is c = subst (IsFirstMeeting (placed ++ p ∷ []) (c ∷ [])) (sym (is c)) (either (list_any (λ x. same_cell x c) p.cells) refl)
  where
    either : (t : Bool) → list_any (λ x. same_cell x c) p.cells ≡ t → IsFirstMeeting (placed ++ p ∷ []) (c ∷ []) (cond t (Some (length placed)) (owner c))
    either true t = own_last placed p c free ((among_told c p.cells).0 t)
    either false t = own_other placed p c (owner c) (λ has. let yes = (among_told c p.cells).1 has in cc) (owners c)
