-- The pieces of a set, one after the other.
use Rattle.std.proofs.Common.{◌≡◌, ℕ, suc, ◌-◌, ◌/◌, ◌%◌, ◌<◌, ◌==◌, Bool, true, false, List, [], ◌∷◌, ◌++◌, map, refl, sym, ap, ◌∙◌, arith, append-nil, append_assoc, eq-eqb, eqb-true, ◌≢◌, if◌then◌else◌}
use Rattle.std.specs.List.{join_with_byte}
use Rattle.std.specs.Fmt.{decimal}
use Rattle.burr_plantext.specs.Rules.Listing.{members, joined_numbers}
use Rattle.burr_plantext.proofs.Steps.{one_more}

-- what is left to be written of a set, after this separator
abbrev pub set_left : List ℕ → List (List ℕ) → List ℕ
set_left [] words = joined_numbers words
set_left (b ∷ separator) [] = []
set_left (b ∷ separator) (word ∷ words) =
    (b ∷ separator) ++ join_with_byte 44 (word ∷ words)

pub one_word : (separator word : List ℕ) (words : List (List ℕ))
    → set_left separator (word ∷ words) ≡ (separator ++ word) ++ set_left (44 ∷ []) words
one_word [] word [] = sym (append-nil word)
one_word [] word (next ∷ words) = refl
one_word (b ∷ separator) word [] = sym (append-nil ((b ∷ separator) ++ word))
one_word (b ∷ separator) word (next ∷ words) =
    sym (append_assoc (b ∷ separator) word (44 ∷ join_with_byte 44 (next ∷ words)))

-- the pieces from one on that are left, where there are 32
abbrev pub left_from : ℕ → ℕ → List (List ℕ)
left_from piece set = map decimal (members piece (32 - piece) set)

-- the first of them is in the set, or is not
left_step : (piece next set : ℕ) (odd : Bool) → piece < 32 → next ≡ suc piece → (set % 2 == 1) ≡ odd
    → left_from piece set ≡ map decimal ((if odd then piece ∷ [] else []) ++ members next (32 - next) (set / 2))
left_step piece next set odd few e is =
    let k : 32 - piece ≡ suc (32 - next) = omega (arith, few, e) in
    ap (λ (n : ℕ). map decimal (members piece n set)) k
    ∙ (λ i. map decimal ((if is i then piece ∷ [] else []) ++ members (sym e i) (32 - next) (set / 2)))

pub not_equal : (a b : ℕ) (t : Bool) → (a == b) ≡ t → a ≢ b → t ≡ false
not_equal a b true e h = absurd (h (eqb-true a b e))
not_equal a b false e h = refl

pub odd_turn : (written separator whole : List ℕ) (piece next set : ℕ) → piece < 32
    → next ≡ suc piece → set % 2 ≡ 1
    → written ++ set_left separator (left_from piece set) ≡ whole
    → (written ++ (separator ++ decimal piece)) ++ set_left (44 ∷ []) (left_from next (set / 2)) ≡ whole
odd_turn written separator whole piece next set few e odd so =
    one_more written (separator ++ decimal piece) (set_left (44 ∷ []) (left_from next (set / 2))) _ whole so
    (ap (λ (words : List (List ℕ)). set_left separator words)
    (left_step piece next set true few e (eq-eqb (set % 2) 1 odd))
    ∙ one_word separator (decimal piece) (left_from next (set / 2)))

pub even_turn : (written separator whole : List ℕ) (piece next set : ℕ) → piece < 32
    → next ≡ suc piece → set % 2 ≢ 1
    → written ++ set_left separator (left_from piece set) ≡ whole
    → written ++ set_left separator (left_from next (set / 2)) ≡ whole
even_turn written separator whole piece next set few e even so =
    ap (λ (words : List (List ℕ)). written ++ set_left separator words)
    (sym (left_step piece next set false few e (not_equal (set % 2) 1 (set % 2 == 1) refl even))) ∙ so
