-- What a loop writes: what is written and what is still to be written are all of it.
use Rattle.std.proofs.Common.{◌≡◌, ℕ, zero, suc, ◌+◌, ◌<◌, ℤ, pos, Some, List, [], ◌∷◌, ◌++◌, drop, get_or, length, refl, sym, ap, ◌∙◌, arith, append_assoc, slice_get}
use Rattle.std.proofs.lemmas.Option.{same_Some, none-some}
use Rattle.burr_plantext.specs.Rules.Listing.{term_word}
use Rattle.burr_plantext.specs.Views.Symbols.{symbol_terms}

pub one_more : (written part others left whole : List ℕ) → written ++ left ≡ whole
    → left ≡ part ++ others → (written ++ part) ++ others ≡ whole
one_more written part others left whole so next =
    append_assoc written part others ∙ ap (λ (l : List ℕ). written ++ l) (sym next) ∙ so

pub next_term : (v : ℕ) (symbols : List ℕ) (coefs : List ℤ) → v < length symbols
    → v < length coefs
    → symbol_terms (drop v symbols) (drop v coefs)
    ≡ term_word (get_or symbols v 0) (get_or coefs v (pos 0))
    ++ symbol_terms (drop (v + 1) symbols) (drop (v + 1) coefs)
next_term v [] coefs h k = absurd (omega (arith, h))
next_term v (s ∷ symbols) [] h k = absurd (omega (arith, k))
next_term zero (s ∷ symbols) (c ∷ coefs) h k = refl
next_term (suc v) (s ∷ symbols) (c ∷ coefs) h k =
    let moved : suc v + 1 ≡ suc (v + 1) = omega arith in
    next_term v symbols coefs (omega (arith, h)) (omega (arith, k))
    ∙ ap (λ (n : ℕ). term_word (get_or symbols v 0) (get_or coefs v (pos 0))
    ++ symbol_terms (drop n (s ∷ symbols)) (drop n (c ∷ coefs))) (sym moved)

-- what is left of a list begins with its next element
pub left_at : {A : Type 0} (xs : List A) (n next : ℕ) (x : A) → next ≡ suc n
    → slice_get xs n ≡ Some x → drop n xs ≡ x ∷ drop next xs
left_at [] n next x e h = absurd (none-some x h)
left_at (y ∷ xs) zero next x e h =
    let here = same_Some y x h in λ i. here i ∷ drop (sym e i) (y ∷ xs)
left_at (y ∷ xs) (suc n) next x e h =
    left_at xs n (suc n) x refl h ∙ ap (λ (k : ℕ). x ∷ drop k (y ∷ xs)) (sym e)

pub got_at : {A : Type 0} (xs : List A) (n : ℕ) → n < length xs → (x : A) × (slice_get xs n ≡ Some x)
got_at [] n h = absurd (omega (arith, h))
got_at (x ∷ xs) zero h = (x, refl)
got_at (x ∷ xs) (suc n) h = got_at xs n (omega (arith, h))

-- the first of what is left of a list
pub got_dropped : {A : Type 0} (xs : List A) (n : ℕ) (x : A) (rest : List A)
    → drop n xs ≡ x ∷ rest → slice_get xs n ≡ Some x
got_dropped xs zero x rest e = ap (λ l. slice_get l 0) e
got_dropped [] (suc n) x rest e = ap (λ l. slice_get l 0) e
got_dropped (y ∷ xs) (suc n) x rest e = got_dropped xs n x rest e
