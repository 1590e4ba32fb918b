-- The pieces of a tray one by one.
use Rattle.std.proofs.Common.{◌≡◌, ◌∙◌, ℕ, ◌+◌, ◌<◌, ◌≤◌, List, [], ◌∷◌, ◌++◌, length, take, drop, Bool, true, false, sym, ap, arith, append_assoc, slice_index_or, add-one, refl}
use Rattle.std.specs.Prelude.{if◌then◌else◌}
use Rattle.std.proofs.lemmas.List.{drop_more, take_more, length-take, length-append}
use Rattle.burr_code.specs.PieceSets.{IsInSet}
use Rattle.burr_code.specs.declared.placement.Placement.{Placement}
use Rattle.burr_code.specs.Places.{is_in, count_in}
use Rattle.burr_code.proofs.Common.PieceSets.{not_left_out, left_out}
use Rattle.burr_frames.specs.declared.clearing.TrayPiece.{TrayPiece}
use Rattle.burr_container.specs.Rules.Plans.{FormCell}
use Rattle.burr_frames.specs.Rules.Looks.{pieces_in, gripped_in, left_in}
use Rattle.burr_frames.specs.Views.Clearing.{piece_in, number_in}

count-le : (tray : ℕ) (places : List (Placement FormCell)) → count_in tray places ≤ length places
count-le tray [] = omega arith
count-le tray (place ∷ places) = grind (arith, count-le tray places)

count-append : (tray : ℕ) (xs ys : List (Placement FormCell)) → count_in tray (xs ++ ys) ≡ count_in tray xs + count_in tray ys
count-append tray [] ys = omega arith
count-append tray (x ∷ xs) ys = grind (arith, count-append tray xs ys)

module _ (tray : ℕ) (places : List (Placement FormCell)) (k : ℕ) where
  pub number-le : length places ≤ 32 → number_in tray places k ≤ 32
  number-le few =
      let all = count-le tray (take k places) in
      let taken = length-take k places in
      omega (arith, few, all, taken)

  module _ (place : Placement FormCell) (l : k < length places) (is : place ≡ slice_index_or places k place) where
    abbrev PiecesBy : Bool → List ℕ
    PiecesBy here =
        if here then k ∷ pieces_in tray (k + 1) (drop (k + 1) places) else pieces_in tray (k + 1) (drop (k + 1) places)

    pieces_more : pieces_in tray k (drop k places) ≡ PiecesBy (is_in tray place)
    pieces_more =
        ap (pieces_in tray k) (drop_more places k place l ∙ ap (λ (x : Placement FormCell). x ∷ drop (k + 1) places) (sym is))
        ∙ ap (λ (n : ℕ). if is_in tray place then k ∷ pieces_in tray n (drop (k + 1) places)
        else pieces_in tray n (drop (k + 1) places)) (sym (add-one k))

    -- the pieces from number k on, and how many there are before the next
    pub here_first : is_in tray place ≡ true
        → pieces_in tray k (drop k places) ≡ k ∷ pieces_in tray (k + 1) (drop (k + 1) places)
    here_first e = pieces_more ∙ ap PiecesBy e

    pub past_first : is_in tray place ≡ false
        → pieces_in tray k (drop k places) ≡ pieces_in tray (k + 1) (drop (k + 1) places)
    past_first e = pieces_more ∙ ap PiecesBy e

    number_more : (here : Bool) → is_in tray place ≡ here
        → number_in tray places (k + 1) ≡ number_in tray places k + ((if here then 1 else 0) + 0)
    number_more here e =
        ap (count_in tray) (take_more places k place l ∙ ap (λ (x : Placement FormCell). take k places ++ x ∷ []) (sym is))
        ∙ count-append tray (take k places) (place ∷ [])
        ∙ ap (λ (b : Bool). number_in tray places k + ((if b then 1 else 0) + 0)) e

    pub one_counted : is_in tray place ≡ true → number_in tray places (k + 1) ≡ number_in tray places k + 1
    one_counted e = number_more true e

    pub none_counted : is_in tray place ≡ false → number_in tray places (k + 1) ≡ number_in tray places k
    none_counted e = let more = number_more false e in omega (arith, more)

-- A loop over the pieces of a tray that puts something of each into a list: F is what all of some give

module _ {S : Type 0} (F : List ℕ → List S) (tray k : ℕ) (places : List (Placement FormCell)) (place : Placement FormCell)
    (l : k < length places) (is : place ≡ slice_index_or places k place) (items whole : List S)
    (so_far : items ++ F (pieces_in tray k (drop k places)) ≡ whole) where
  abbrev later : List ℕ
  later = pieces_in tray (k + 1) (drop (k + 1) places)

  -- a piece that is not in the tray
  pub step_past : false ≡ is_in tray place → (new : List S) → new ≡ items → new ++ F later ≡ whole
  step_past past new same =
      ap (λ (xs : List S). xs ++ F later) same
      ∙ ap (λ (ps : List ℕ). items ++ F ps) (sym (past_first tray places k place l is (sym past))) ∙ so_far

  -- one that is, and that gives this row
  module _ (here : true ≡ is_in tray place) (row : List S) (first : F (k ∷ later) ≡ row ++ F later) where
    both : items ++ (row ++ F later) ≡ whole
    both =
        ap (λ (rest : List S). items ++ rest)
        (sym (ap F (here_first tray places k place l is (sym here)) ∙ first)) ∙ so_far

    pub step_here : (new : List S) → new ≡ items ++ row → new ++ F later ≡ whole
    step_here new pushed =
        ap (λ (xs : List S). xs ++ F later) pushed ∙ append_assoc items row (F later) ∙ both

    pub step_room : length whole ≤ 32 → length items + length row ≤ 32
    step_room few =
        let all = ap (length {A = S}) both in
        let front = length-append items (row ++ F later) in
        let rest = length-append row (F later) in
        omega (arith, few, all, front, rest)

-- Of the gripped pieces, and of those that are left, one first

pub left_first : (grip k : ℕ) (pieces : List ℕ) → (¬ IsInSet grip k) → left_in grip (k ∷ pieces) ≡ k ∷ left_in grip pieces
left_first grip k pieces out = rw (left_out grip k out) refl

pub left_past : (grip k : ℕ) (pieces : List ℕ) → IsInSet grip k → left_in grip (k ∷ pieces) ≡ left_in grip pieces
left_past grip k pieces bit = rw (not_left_out grip k bit) refl

pub gripped_first : (grip k : ℕ) (pieces : List ℕ) → IsInSet grip k → gripped_in grip (k ∷ pieces) ≡ k ∷ gripped_in grip pieces
gripped_first grip k pieces bit = rw (not_left_out grip k bit) refl

pub gripped_past : (grip k : ℕ) (pieces : List ℕ) → (¬ IsInSet grip k) → gripped_in grip (k ∷ pieces) ≡ gripped_in grip pieces
gripped_past grip k pieces out = rw (left_out grip k out) refl

-- a piece that is made so
pub piece_is : (tray : ℕ) (places : List (Placement FormCell)) (p : ℕ) (piece : TrayPiece) → piece.piece ≡ p
    → piece.number ≡ number_in tray places p → piece ≡ piece_in tray places p
piece_is tray places p piece e f i = record { piece = e i; number = f i }
