-- The labels of an offer, one after the other.
use Rattle.std.proofs.Common.{◌≡◌, ℕ, suc, ◌≤◌, Bool, true, false, ◌&&◌, Some, List, [], ◌∷◌, ◌++◌, map, drop, refl, sym, ap, ◌∙◌, append_assoc, append-nil, slice_get, codes, nat_lt, ltb-true, arith}
use Rattle.std.specs.List.{join_with_byte, flat_map, list_all}
use Rattle.burr_plantext.specs.Rules.Listing.{label_name}
use Rattle.burr_plantext.proofs.Steps.{left_at}

-- labels, each after a blank
abbrev pub offered : List ℕ → List ℕ
offered labels = flat_map (λ label. 32 ∷ label_name label) labels

joined : (word : List ℕ) (labels : List ℕ)
    → word ++ offered labels ≡ join_with_byte 32 (word ∷ map label_name labels)
joined word [] = append-nil word
joined word (label ∷ labels) =
    ap (λ (t : List ℕ). word ++ (32 ∷ t)) (joined (label_name label) labels)

pub pick_begun : (old labels : List ℕ)
    → (old ++ codes "pick") ++ offered labels
    ≡ old ++ join_with_byte 32 (codes "pick" ∷ map label_name labels)
pick_begun old labels =
    append_assoc old (codes "pick") (offered labels)
    ∙ ap (λ (t : List ℕ). old ++ t) (joined (codes "pick") labels)

pub next_offered : (labels : List ℕ) (n next label : ℕ) → next ≡ suc n
    → slice_get labels n ≡ Some label
    → offered (drop n labels) ≡ (32 ∷ label_name label) ++ offered (drop next labels)
next_offered labels n next label e here = ap offered (left_at labels n next label e here)

-- all labels so far are below a number, and so are all where those still to come are

pub all_left : (labels : List ℕ) (many n next label : ℕ) → next ≡ suc n
    → slice_get labels n ≡ Some label
    → list_all (λ label. nat_lt label many) (drop n labels)
    ≡ (nat_lt label many && list_all (λ label. nat_lt label many) (drop next labels))
all_left labels many n next label e here =
    ap (λ (ls : List ℕ). list_all (λ label. nat_lt label many) ls) (left_at labels n next label e here)

not_below : (a b : ℕ) (t : Bool) → nat_lt a b ≡ t → b ≤ a → t ≡ false
not_below a b true e h = absurd (omega (arith, ltb-true a b e, h))
not_below a b false e h = refl

pub all_fails : (labels : List ℕ) (many n label : ℕ) → slice_get labels n ≡ Some label
    → many ≤ label
    → list_all (λ label. nat_lt label many) labels
    ≡ list_all (λ label. nat_lt label many) (drop n labels)
    → false ≡ list_all (λ label. nat_lt label many) labels
all_fails labels many n label here past so =
    sym (so ∙ all_left labels many n (suc n) label refl here
    ∙ ap (λ (t : Bool). t && list_all (λ label. nat_lt label many) (drop (suc n) labels))
    (not_below label many (nat_lt label many) refl past))
