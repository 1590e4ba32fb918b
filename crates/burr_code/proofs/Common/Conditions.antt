-- For crates above: whether the conditions on places hold.
use Rattle.std.proofs.Common.{◌≡◌, ℕ, ◌<◌, ◌≤◌, ◌^◌, List, length, Option, Some, None, inl, inr, refl, sym, subst, ap, ◌∙◌, arith}
use Rattle.std.specs.Prelude.{slice_get}
use Rattle.std.proofs.lemmas.Option.{none-some, same_Some, slice_get_within}
use Rattle.burr_text.proofs.Common.Decisions.{Decided, decided_like, decided_and, decided_not, decide_same, decide_below, decide_some_below}
use Rattle.burr_code.specs.PieceSets.{IsInSet}
use Rattle.burr_code.specs.declared.placement.Placement.{Placement}
use Rattle.burr_code.specs.declared.placement.Placement.TheVariants.{Apart, On}
use Rattle.burr_code.specs.Places.{LiesAt, LiesIn, AllLieIn, AllApart, IsPartOfTray, IsEmptyTray}
use Rattle.burr_code.proofs.Common.PieceSets.{decide_bit, no_bit_above, no_bit_from_set}

-- Conditions on all numbers and all values

-- whether one follows from the other
pub decided_implies : {P Q : Type 0} → Decided P → Decided Q → Decided (P → Q)
decided_implies (inr h) d = inl (λ p. absurd (h p))
decided_implies (inl p) (inl q) = inl (λ same. q)
decided_implies (inl p) (inr h) = inr (λ f. h (f p))

-- whether all numbers are so, where those from a bound on are
pub decide_all_numbers : (P : ℕ → Type 0) → ((k : ℕ) → Decided (P k)) → (bound : ℕ) → ((k : ℕ) → bound ≤ k → P k)
    → Decided ((k : ℕ) → P k)
decide_all_numbers P each bound beyond = by_exception (decide_some_below (λ k. ¬ P k) (λ k. decided_not (each k)) bound)
  where
    by_exception : Decided ((k : ℕ) × (k < bound) × (¬ P k)) → Decided ((k : ℕ) → P k)
    by_exception (inl exception) = inr (λ all. exception.2 (all exception.0))
    by_exception (inr none) = inl (λ k. at k (decide_below k bound) (each k))
      where
        at : (k : ℕ) → Decided (k < bound) → Decided (P k) → P k
        at k below (inl p) = p
        at k (inl below) (inr h) = absurd (none (k, below, h))
        at k (inr above) (inr h) = beyond k (omega arith)

-- whether each value that fulfils `Holds` fulfils `P` too, where at most one value fulfils `Holds`
pub decide_of_the_one : {A : Type 0} (Holds P : A → Type 0) → ((x y : A) → Holds x → Holds y → x ≡ y)
    → Decided ((x : A) × Holds x) → ((x : A) → Decided (P x)) → Decided ((x : A) → Holds x → P x)
decide_of_the_one Holds P one (inr none) each = inl (λ x h. absurd (none (x, h)))
decide_of_the_one {A} Holds P one (inl the) each = at (each the.0)
  where
    at : Decided (P the.0) → Decided ((x : A) → Holds x → P x)
    at (inl p) = inl (λ x h. subst P (one the.0 x the.1 h) p)
    at (inr h) = inr (λ all. h (all the.0 the.1))

-- whether there is a value
pub decide_found : {A : Type 0} (found : Option A) → Decided ((x : A) × (found ≡ Some x))
decide_found None = inr (λ x. none-some _ x.1)
decide_found (Some x) = inl (x, refl)

-- what stands in a list at a place is one
pub one_in_list : {A : Type 0} (xs : List A) (p : ℕ) (x y : A) → slice_get xs p ≡ Some x → slice_get xs p ≡ Some y
    → x ≡ y
one_in_list xs p x y e f = same_Some _ _ (sym e ∙ f)

-- Pieces in a tray

pub same_tray : {Position : Type 0} (t u : ℕ) (x y : Position) → On t x ≡ On u y → t ≡ u
same_tray t u x y e = cc

pub same_position : {Position : Type 0} (t u : ℕ) (x y : Position) → On t x ≡ On u y → x ≡ y
same_position t u x y e = cc

pub apart-on : {Position : Type 0} (t : ℕ) (x : Position) → ¬ (Apart ≡ On t x)
apart-on t x e = cc

-- a piece lies at one position
pub one_position : {Position : Type 0} (places : List (Placement Position)) (p tray : ℕ) (x y : Position)
    → LiesAt places p tray x → LiesAt places p tray y → x ≡ y
one_position places p tray x y here there =
    same_position tray tray x y (one_in_list places p (On tray x) (On tray y) here there)

pub decide_lies : {Position : Type 0} (places : List (Placement Position)) (p tray : ℕ) → Decided (LiesIn places p tray)
decide_lies {Position} places p tray = by_place (slice_get places p)
  where
    by_place : (place : Option (Placement Position))
        → Decided ((position : Position) × (place ≡ Some (On tray position)))
    by_place None = inr (λ lies. none-some _ lies.1)
    by_place (Some Apart) = inr (λ lies. apart-on _ _ (same_Some _ _ lies.1))
    by_place (Some (On t x)) =
        decided_like (λ e. (x, ap (λ u. Some (On u x)) e)) (λ lies. same_tray t tray x lies.0 (same_Some _ _ lies.1))
        (decide_same t tray)

-- a piece that lies somewhere is one of the pieces
pub lies_within : {Position : Type 0} (places : List (Placement Position)) (p tray : ℕ) → LiesIn places p tray
    → p < length places
lies_within places p tray lies = slice_get_within places p (On tray lies.0) lies.1

-- Conditions of the rules

pub decide_all_lie : {Position : Type 0} (places : List (Placement Position)) (tray set : ℕ)
    → Decided (AllLieIn places tray set)
decide_all_lie places tray set =
    decide_all_numbers (λ p. IsInSet set p → LiesIn places p tray)
    (λ p. decided_implies (decide_bit set p) (decide_lies places p tray)) set
    (λ p far bit. absurd (no_bit_from_set set p far bit))

pub decide_all_apart : {Position : Type 0} (places : List (Placement Position)) → Decided (AllApart places)
decide_all_apart {Position} places =
    decide_all_numbers (λ p. (place : Placement Position) → slice_get places p ≡ Some place → place ≡ Apart) each
    (length places) beyond
  where
    is_apart : (place : Placement Position) → Decided (place ≡ Apart)
    is_apart Apart = inl refl
    is_apart (On tray position) = inr (λ e. apart-on tray position (sym e))

    each : (p : ℕ) → Decided ((place : Placement Position) → slice_get places p ≡ Some place → place ≡ Apart)
    each p =
        decide_of_the_one (λ place. slice_get places p ≡ Some place) (λ place. place ≡ Apart) (one_in_list places p)
        (decide_found (slice_get places p)) is_apart

    beyond : (p : ℕ) → length places ≤ p → (place : Placement Position) → slice_get places p ≡ Some place
        → place ≡ Apart
    beyond p far place e = let near = slice_get_within places p place e in absurd (omega arith)

pub decide_part_of_tray : {Position : Type 0} (group : ℕ) (places : List (Placement Position)) (tray : ℕ)
    → Decided (IsPartOfTray group places tray)
decide_part_of_tray group places tray =
    decided_like (λ both. (both.0, both.1.0, both.1.2.0, both.1.2.1))
    (λ part. (part.0, (part.1, lies_within places part.1 tray part.2, (part.2, part.3))))
    (decided_and (decided_not (decide_same group 0))
    (decide_some_below (λ p. LiesIn places p tray × (¬ IsInSet group p))
    (λ p. decided_and (decide_lies places p tray) (decided_not (decide_bit group p))) (length places)))

pub decide_empty_tray : {Position : Type 0} (places : List (Placement Position)) (tray : ℕ)
    → Decided (IsEmptyTray places tray)
decide_empty_tray places tray =
    decide_all_numbers (λ p. ¬ LiesIn places p tray) (λ p. decided_not (decide_lies places p tray)) (length places)
    (λ p far lies. let near = lies_within places p tray lies in absurd (omega arith))

-- Sets

-- a set of 32 bits has no other
bit_below : (set p : ℕ) → set < 2 ^ 32 → IsInSet set p → p < 32
bit_below set p small bit = elim (decide_below p 32) [
  | inl below ↦ below
  | inr above ↦ absurd (no_bit_above set 32 p small (omega (arith, above)) bit)
]

-- the set lies here where each of its first 32 pieces does
pub all_lie_of : {Position : Type 0} (places : List (Placement Position)) (tray set : ℕ) → set < 2 ^ 32
    → ((p : ℕ) → p < 32 → IsInSet set p → LiesIn places p tray) → AllLieIn places tray set
all_lie_of places tray set small each p bit = each p (bit_below set p small bit) bit
