-- Forms and their bytes.
use Rattle.std.proofs.Common.{◌≡◌, ℕ, zero, suc, ◌+◌, ◌*◌, ◌-◌, ◌<◌, List, [], ◌∷◌, ◌++◌, length, drop, get_or, refl, sym, ap, ◌∙◌, arith}
use Rattle.std.specs.Prelude.{Bool, true, false, count_by, cond, ℤ, pos, replicate, Option, None, map, is_some}
use Rattle.std.proofs.lemmas.List.Recursion.{is_count_by}
use Rattle.std.proofs.lemmas.Grind.{common_steps}
use Rattle.std.proofs.Math.ListN.{set}
use Rattle.burr_forms.specs.Rules.Forms.{Form}
use Rattle.burr_container.specs.Rules.Plans.{Range, of_live, padded, over_symbols}
use Rattle.burr_container.specs.Rules.Spelling.{form_size}
use Rattle.burr_container.specs.Views.Decoding.{signed_in, words_in, live_count, coefs_in, form_in}

abbrev pub form_with : ℤ → List ℤ → Form
form_with constant coefs = record { constant = constant; coefs = coefs }

counted : (l : Bool) (live : List Bool) → live_count (l ∷ live) ≡ cond l (1 + live_count live) (live_count live)
counted true live = omega arith
counted false live = refl

pub count_live : (live : List Bool) → live_count live ≡ count_by (λ l. l) live
count_live live = is_count_by live_count (λ l. l) refl counted live

pub size_by_count : (live : List Bool) → form_size live ≡ 4 + 2 * live_count live
size_by_count [] = refl
size_by_count (true ∷ live) = omega (arith, size_by_count live)
size_by_count (false ∷ live) = omega (arith, size_by_count live)

-- the coefficients of the live slots are the numbers that stand there
pub live_coefs : (live : List Bool) (bytes : List ℕ) → of_live live (coefs_in live bytes) ≡ words_in (live_count live) bytes
live_coefs [] bytes = refl
live_coefs (true ∷ live) bytes = ap (λ (zs : List ℤ). signed_in bytes ∷ zs) (live_coefs live (drop 2 bytes))
live_coefs (false ∷ live) bytes = live_coefs live bytes

pub length_words : (n : ℕ) (bytes : List ℕ) → length (words_in n bytes) ≡ n
length_words zero bytes = refl
length_words (suc n) bytes = omega (arith, length_words n (drop 2 bytes))

-- eight elements
pub eight : (xs : List (Option Range)) → length xs ≡ 8
    → map is_some xs ≡ is_some (get_or xs 0 None) ∷ is_some (get_or xs 1 None) ∷ is_some (get_or xs 2 None) ∷ is_some (get_or xs 3 None) ∷ is_some (get_or xs 4 None) ∷ is_some (get_or xs 5 None) ∷ is_some (get_or xs 6 None) ∷ is_some (get_or xs 7 None) ∷ []
eight (a ∷ b ∷ c ∷ d ∷ e ∷ f ∷ g ∷ h ∷ []) long = refl
eight xs long = absurd (omega arith)

after_two : (k : ℕ) (bytes : List ℕ) → drop (k + 2) bytes ≡ drop k (drop 2 bytes)
after_two k bytes = grind (arith, common_steps)

-- the next number is put in place of a zero
pub put_word : (n m : ℕ) (bytes : List ℕ) (z : ℤ) → z ≡ signed_in (drop (2 * n) bytes)
    → set (words_in n bytes ++ replicate (suc m) (pos 0)) n z ≡ words_in (suc n) bytes ++ replicate m (pos 0)
put_word zero m bytes z is = ap (λ (x : ℤ). x ∷ replicate m (pos 0)) is
put_word (suc n) m bytes z is =
    let same : 2 * suc n ≡ 2 * n + 2 = omega arith in
    let here : z ≡ signed_in (drop (2 * n) (drop 2 bytes)) = is ∙ ap (λ (k : ℕ). signed_in (drop k bytes)) same ∙ ap signed_in (after_two (2 * n) bytes) in
    ap (λ (zs : List ℤ). signed_in bytes ∷ zs) (put_word n m (drop 2 bytes) z here)

after_four : (k : ℕ) (bytes : List ℕ) → drop (4 + k) bytes ≡ drop k (drop 4 bytes)
after_four k bytes = grind (arith, common_steps)

pub put_next : (n : ℕ) (coefs : List ℤ) (all : List ℕ) (z : ℤ) → n < 8
    → coefs ≡ words_in n (drop 4 all) ++ replicate (8 - n) (pos 0) → z ≡ signed_in (drop (4 + 2 * n) all)
    → set coefs n z ≡ words_in (n + 1) (drop 4 all) ++ replicate (8 - (n + 1)) (pos 0)
put_next n coefs all z small before there =
    let bytes = drop 4 all in
    let is : z ≡ signed_in (drop (2 * n) bytes) = there ∙ ap signed_in (after_four (2 * n) all) in
    let left : 8 - n ≡ suc (8 - (n + 1)) = omega arith in
    let next : suc n ≡ n + 1 = omega arith in
    ap (λ (cs : List ℤ). set cs n z) (before ∙ ap (λ (k : ℕ). words_in n bytes ++ replicate k (pos 0)) left)
    ∙ put_word n (8 - (n + 1)) bytes z is ∙ ap (λ (k : ℕ). words_in k bytes ++ replicate (8 - (n + 1)) (pos 0)) next

-- a constant and the numbers of all live slots are the form over symbols
pub form_read : (live : List Bool) (bytes : List ℕ) (constant : ℤ) (n : ℕ) (coefs : List ℤ)
    → constant ≡ (form_in live bytes).constant → n ≡ live_count live
    → coefs ≡ words_in n (drop 4 bytes) ++ replicate (8 - n) (pos 0)
    → form_with constant coefs ≡ over_symbols live (form_in live bytes)
form_read live bytes constant n coefs first all after =
    let numbers : words_in n (drop 4 bytes) ≡ of_live live (coefs_in live (drop 4 bytes)) = ap (λ (k : ℕ). words_in k (drop 4 bytes)) all ∙ sym (live_coefs live (drop 4 bytes)) in
    let long : n ≡ length (of_live live (coefs_in live (drop 4 bytes))) = sym (length_words n (drop 4 bytes)) ∙ ap length numbers in
    let same : coefs ≡ padded (of_live live (coefs_in live (drop 4 bytes))) =
    after ∙ ap (λ (k : ℕ). words_in n (drop 4 bytes) ++ replicate (8 - k) (pos 0)) long
    ∙ ap (λ (zs : List ℤ). zs ++ replicate (8 - length (of_live live (coefs_in live (drop 4 bytes)))) (pos 0)) numbers in
    ap (λ (c : ℤ). form_with c coefs) first ∙ ap (λ (cs : List ℤ). form_with ((form_in live bytes).constant) cs) same
