-- The pairs of a grip: what is so of each of them, and the first that is not so.
use Rattle.std.proofs.Common.{◌≡◌, ◌⊎◌, ℕ, zero, suc, ◌+◌, ◌<◌, ◌≤◌, List, [], ◌∷◌, ◌++◌, ◌∙◌, take, Bool, true, Option, Some, None, refl, sym, ap, subst, arith, inl, inr}
use Rattle.std.specs.Prelude.{map, filter, not}
use Rattle.std.proofs.lemmas.Bool.{not-true}
use Rattle.std.proofs.lemmas.Option.{none-some, same_Some, some_pair_parts}
use Rattle.burr_text.specs.Checks.{needs}
use Rattle.burr_code.specs.PieceSets.{IsInSet, is_left_out}
use Rattle.burr_code.specs.declared.placement.Placement.{Placement}
use Rattle.burr_code.specs.declared.placement.Placement.TheVariants.{On}
use Rattle.burr_code.specs.Places.{LiesAt}
use Rattle.burr_code.proofs.Common.PieceSets.{not_left_out, left_out, in_set, not_in_set}
use Rattle.burr_container.specs.Rules.Plans.{FormCell}
use Rattle.burr_frames.specs.Rules.Looks.{pieces_in, gripped_in, left_in, pairs_of, grip_pairs}
use Rattle.burr_frames.specs.declared.clearing.TrayPiece.{TrayPiece}
use Rattle.burr_frames.specs.Views.Clearing.{TrayPair, piece_in, gripped_pieces, left_pieces}
use Rattle.burr_frames.proofs.BenchOffsets.{in_tray, is_here}
use Rattle.burr_frames.proofs.Common.Until.{EachIs}
use Rattle.burr_frames.proofs.Each.{each_true, each_weaker, each_unmap, each_filter, of_filter, each_pair, each_of_pairs}

-- Each piece of a tray

-- of the first n places, the first is that of piece k
each_from : (Q : ℕ → Type 0) (tray n k : ℕ) (places : List (Placement FormCell))
    → ((p : ℕ) (c : FormCell) → p < n → LiesAt places p tray c → Q (k + p)) → EachIs Q (pieces_in tray k (take n places))
each_from Q tray zero k places h = tt
each_from Q tray (suc n) k [] h = tt
each_from Q tray (suc n) k (place ∷ places) h =
    let on : (p : ℕ) → k + suc p ≡ suc k + p = λ p. omega arith in
    let none : k + 0 ≡ k = omega arith in
    let rest = each_from Q tray n (suc k) places (λ p c below lies. subst Q (on p) (h (suc p) c (omega (arith, below)) lies)) in
    elim (in_tray tray place) [
      | inl (c, e) ↦ rw (is_here tray place c e) (subst Q none (h 0 c (omega arith) (ap (λ (x : Placement FormCell). Some x) e)), rest)
      | inr e ↦ rw e rest
    ]

of_from : (Q : ℕ → Type 0) (tray n k : ℕ) (places : List (Placement FormCell))
    → EachIs Q (pieces_in tray k (take n places)) → (p : ℕ) (c : FormCell) → p < n → LiesAt places p tray c → Q (k + p)
of_from Q tray zero k places all p c below lies = absurd (omega (arith, below))
of_from Q tray (suc n) k [] all p c below lies = absurd (none-some (On tray c) lies)
of_from Q tray (suc n) k (place ∷ places) all zero c below lies =
    let none : k ≡ k + 0 = omega arith in
    let here = rw (is_here tray place c (same_Some place (On tray c) lies)) at all in
    subst Q none here.0
of_from Q tray (suc n) k (place ∷ places) all (suc p) c below lies =
    let on : suc k + p ≡ k + suc p = omega arith in
    let rest : EachIs Q (pieces_in tray (suc k) (take n places)) = grind (arith, all) in
    subst Q on (of_from Q tray n (suc k) places rest p c (omega (arith, below)) lies)

module _ (Q : ℕ → Type 0) (tray n : ℕ) (places : List (Placement FormCell)) where
  zero_first : (p : ℕ) → 0 + p ≡ p
  zero_first p = omega arith

  pub each_piece : ((p : ℕ) (c : FormCell) → p < n → LiesAt places p tray c → Q p) → EachIs Q (pieces_in tray 0 (take n places))
  each_piece h = each_from Q tray n 0 places (λ p c below lies. subst Q (sym (zero_first p)) (h p c below lies))

  of_piece : EachIs Q (pieces_in tray 0 (take n places)) → (p : ℕ) (c : FormCell) → p < n → LiesAt places p tray c → Q p
  of_piece all p c below lies = subst Q (zero_first p) (of_from Q tray n 0 places all p c below lies)

-- Each pair of a grip

module _ (Q : ℕ → ℕ → Type 0) (tray grip n : ℕ) (places : List (Placement FormCell)) where
  -- what is so of each gripped piece of the first n, and each that is left
  abbrev pub OfEach : Type 0
  OfEach =
      (p q : ℕ) (c d : FormCell) → p < n → q < n → LiesAt places p tray c → LiesAt places q tray d
      → IsInSet grip p → (¬ IsInSet grip q) → Q p q

  abbrev pub EachPair : Type 0
  EachPair = EachIs (λ pair. Q pair.0 pair.1) (grip_pairs tray grip (take n places))

  abbrev pieces : List ℕ
  pieces = pieces_in tray 0 (take n places)

  pub each_row : OfEach → EachIs (λ p. EachIs (λ q. Q p q) (left_in grip pieces)) (gripped_in grip pieces)
  each_row h =
      each_filter (λ p. not (is_left_out grip p)) (λ p. EachIs (λ q. Q p q) (left_in grip pieces)) pieces
      (each_piece (λ p. not (is_left_out grip p) ≡ true → EachIs (λ q. Q p q) (left_in grip pieces)) tray n places
      (λ p c below lies gripped.
      each_filter (is_left_out grip) (λ q. Q p q) pieces
      (each_piece (λ q. is_left_out grip q ≡ true → Q p q) tray n places
      (λ q d below_q lies_q out.
      h p q c d below below_q lies lies_q (in_set grip p (not-true _ gripped)) (not_in_set grip q out)))))

  pub each_grip_pair : OfEach → EachPair
  each_grip_pair h = each_pair Q (gripped_in grip pieces) (left_in grip pieces) (each_row h)

  -- from the rows of the gripped pieces
  pub of_rows : EachIs (λ p. EachIs (λ q. Q p q) (left_in grip pieces)) (gripped_in grip pieces) → OfEach
  of_rows rows p q c d below below_q lies lies_q gripped out =
      let row = of_piece (λ k. not (is_left_out grip k) ≡ true → EachIs (λ j. Q k j) (left_in grip pieces)) tray n places
      (of_filter (λ k. not (is_left_out grip k)) (λ k. EachIs (λ j. Q k j) (left_in grip pieces)) pieces rows)
      p c below lies (ap not (not_left_out grip p gripped)) in
      of_piece (λ j. is_left_out grip j ≡ true → Q p j) tray n places
      (of_filter (is_left_out grip) (λ j. Q p j) pieces row) q d below_q lies_q (left_out grip q out)

  pub of_grip_pair : EachPair → OfEach
  of_grip_pair all = of_rows (each_of_pairs Q (gripped_in grip pieces) (left_in grip pieces) all)

-- Rising numbers

-- each number is larger than those before it, and the first is at least k
abbrev pub Rising : ℕ → List ℕ → Type 0
Rising k [] = Unit {0}
Rising k (x ∷ xs) = (k ≤ x) × Rising (suc x) xs

rising_from : (k m : ℕ) (xs : List ℕ) → k ≤ m → Rising m xs → Rising k xs
rising_from k m [] l h = tt
rising_from k m (x ∷ xs) l h = grind (arith, h)

pub rising_pieces : (tray k : ℕ) (places : List (Placement FormCell)) → Rising k (pieces_in tray k places)
rising_pieces tray k [] = tt
rising_pieces tray k (place ∷ places) =
    grind (arith, rising_pieces tray (suc k) places, rising_from k (suc k) (pieces_in tray (suc k) places))

pub rising_filter : (test : ℕ → Bool) (k : ℕ) (xs : List ℕ) → Rising k xs → Rising k (filter test xs)
rising_filter test k [] h = tt
rising_filter test k (x ∷ xs) h =
    grind (arith, rising_filter test (suc x) xs h.1, rising_from k (suc x) (filter test xs), h)

each_above : (k : ℕ) (xs : List ℕ) → Rising k xs → EachIs (λ x. k ≤ x) xs
each_above k [] h = tt
each_above k (x ∷ xs) h =
    (h.0, each_weaker (λ y. suc x ≤ y) (λ y. k ≤ y) xs (λ y l. grind (arith, l, h.0)) (each_above (suc x) xs h.1))

-- The first pair that is not so

abbrev pub FirstOf : (ℕ → ℕ → Type 0) → List (ℕ × ℕ) → Option (ℕ × ℕ) → Type 0
FirstOf P [] found = found ≡ None
FirstOf P (pair ∷ pairs) found = needs (P pair.0 pair.1) (Some pair) (FirstOf P pairs) found

abbrev pub Earlier : ℕ → ℕ → ℕ → ℕ → Type 0
Earlier r t p q = (r < p) ⊎ ((r ≡ p) × (t < q))

module _ (P : ℕ → ℕ → Type 0) where
  -- it is one of the first list, or all of that list are so
  in_either : (xs ys : List (ℕ × ℕ)) (p q : ℕ) → FirstOf P (xs ++ ys) (Some (p, q))
      → FirstOf P xs (Some (p, q)) ⊎ (EachIs (λ pair. P pair.0 pair.1) xs × FirstOf P ys (Some (p, q)))
  in_either [] ys p q h = inr (tt, h)
  in_either (x ∷ xs) ys p q (inl h) = inl (inl h)
  in_either (x ∷ xs) ys p q (inr h) = grind (arith, in_either xs ys p q h.1, h)

  -- the first of the pairs of one piece
  abbrev FirstInRow : ℕ → List ℕ → ℕ → ℕ → Type 0
  FirstInRow x qs p q = (p ≡ x) × (¬ P x q) × EachIs (λ t. t < q → P x t) qs

  first_in_row : (x k : ℕ) (qs : List ℕ) (p q : ℕ) → Rising k qs → FirstOf P (map (λ t. (x, t)) qs) (Some (p, q))
      → FirstInRow x qs p q
  first_in_row x k [] p q rising h = cc
  first_in_row x k (y ∷ ys) p q rising (inl (fails, e)) =
      let same = some_pair_parts p x q y e in (
        same.0,
        grind (arith, fails, same),
        (
          grind (arith, same),
          each_weaker (λ t. suc y ≤ t) (λ t. t < q → P x t) ys (λ t above l. grind (arith, above, same)) (each_above (suc y) ys rising.1),
        ),
      )
  first_in_row x k (y ∷ ys) p q rising (inr (is, rest)) =
      let row = first_in_row x (suc y) ys p q rising.1 rest in
      (row.0, row.1, ((λ l. is), row.2))

  -- it is not so, and each that comes earlier is
  abbrev pub FirstInRows : List ℕ → List ℕ → ℕ → ℕ → Type 0
  FirstInRows ps qs p q = (¬ P p q) × EachIs (λ r. EachIs (λ t. Earlier r t p q → P r t) qs) ps

  pub first_in_rows : (j k : ℕ) (ps qs : List ℕ) (p q : ℕ) → Rising j ps → Rising k qs
      → FirstOf P (pairs_of ps qs) (Some (p, q)) → FirstInRows ps qs p q
  first_in_rows j k [] qs p q rows row h = cc
  first_in_rows j k (x ∷ ps) qs p q rows row h = elim (in_either (map (λ t. (x, t)) qs) (pairs_of ps qs) p q h) [
    | inl first ↦
        let own = first_in_row x k qs p q row first in (
          subst (λ (r : ℕ). ¬ P r q) (sym own.0) own.1,
          (
            each_weaker (λ t. t < q → P x t) (λ t. Earlier x t p q → P x t) qs (λ t before earlier. grind (arith, before, earlier, own.0)) own.2,
            each_weaker (λ r. suc x ≤ r) (λ r. EachIs (λ t. Earlier r t p q → P r t) qs) ps
                (λ r above. each_true (λ t. Earlier r t p q → P r t) qs (λ t earlier. absurd (grind (arith, above, earlier, own.0))))
                (each_above (suc x) ps rows.1),
          ),
        )
    | inr (all, rest) ↦
        let after = first_in_rows (suc x) k ps qs p q rows.1 row rest in (
          after.0,
          (
            each_weaker (λ t. P x t) (λ t. Earlier x t p q → P x t) qs (λ t is earlier. is)
                (each_unmap (λ (t : ℕ). (x, t)) (λ (pair : ℕ × ℕ). P pair.0 pair.1) qs all),
            after.1,
          ),
        )
  ]

-- The pairs as a search is handed them

abbrev row_with : {A : Type 0} → A → List A → List (A × A)
row_with p qs = map (λ q. (p, q)) qs

abbrev both : {A B : Type 0} → (A → B) → A × A → B × B
both f pair = (f pair.0, f pair.1)

pairs-map : {A B : Type 0} (f : A → B) (ps qs : List A) → pairs_of (map f ps) (map f qs) ≡ map (both f) (pairs_of ps qs)
pairs-map f [] qs = refl
pairs-map {A} {B} f (p ∷ ps) qs =
    ap (λ (rest : List (B × B)). row_with (f p) (map f qs) ++ rest) (pairs-map f ps qs) ∙ row qs
  where
    row : (xs : List A) → row_with (f p) (map f xs) ++ map (both f) (pairs_of ps qs)
        ≡ map (both f) (row_with p xs ++ pairs_of ps qs)
    row [] = refl
    row (x ∷ xs) = ap (λ (rest : List (B × B)). both f (p, x) ∷ rest) (row xs)

abbrev pub pair_in : ℕ → List (Placement FormCell) → ℕ → ℕ → TrayPair
pair_in tray places p q = (piece_in tray places p, piece_in tray places q)

abbrev pub tray_pairs : ℕ → ℕ → List (Placement FormCell) → List TrayPair
tray_pairs tray grip places = map (λ (pair : ℕ × ℕ). pair_in tray places pair.0 pair.1) (grip_pairs tray grip places)

pub pairs_are : (tray grip : ℕ) (places : List (Placement FormCell)) (gripped left : List TrayPiece)
    → gripped ≡ gripped_pieces tray grip places → left ≡ left_pieces tray grip places
    → pairs_of gripped left ≡ tray_pairs tray grip places
pairs_are tray grip places gripped left e f =
    (λ i. pairs_of (e i) (f i))
    ∙ pairs-map (piece_in tray places) (gripped_in grip (pieces_in tray 0 places)) (left_in grip (pieces_in tray 0 places))
