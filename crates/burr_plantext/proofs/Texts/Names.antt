-- Names with a number: each is found at its number, and no other is it.
use Rattle.std.proofs.Common.{◌≡◌, ◌≢◌, ℕ, zero, suc, ◌+◌, ◌^◌, ◌<◌, ◌≤◌, List, [], ◌∷◌, ◌++◌, Bool, true, false, IsTrue, Decides, refl, ap, ◌∙◌, arith, ◌||◌, if◌then◌else◌}
use Rattle.std.specs.Str.{bytes_eq}
use Rattle.std.specs.Fmt.{decimal}
use Rattle.burr_plantext.specs.Rules.Meaning.{number_of}
use Rattle.burr_plantext.specs.Rules.Checks.{is_known}
use Rattle.std.proofs.lemmas.Slice.Eq.{bytes_eq-Decides}
use Rattle.std.proofs.lemmas.Fmt.{decimal_injective}
use Rattle.burr_text.proofs.Common.Cuts.{same_tail}
use Rattle.burr_plantext.proofs.Common.Pieces.{not_both}

eq_other_by : (t : Bool) (s r : List ℕ) → Decides t (s ≡ r) → s ≢ r → t ≡ false
eq_other_by true s r d h = absurd (h (d.0 refl))
eq_other_by false s r d h = refl

pub eq_other : (s r : List ℕ) → s ≢ r → bytes_eq s r ≡ false
eq_other s r h = eq_other_by (bytes_eq s r) s r (bytes_eq-Decides s r) h

-- a letter and a number
abbrev pub named : ℕ → ℕ → List ℕ
named letter n = letter ∷ decimal n

-- the names from one number on, this many
abbrev pub names_from : ℕ → ℕ → ℕ → List (List ℕ)
names_from letter k zero = []
names_from letter k (suc m) = named letter k ∷ names_from letter (suc k) m

module _ (letter : ℕ) where
  named_other : (m n : ℕ) → m < 2 ^ 64 → n < 2 ^ 64 → m ≢ n → bytes_eq (named letter m) (named letter n) ≡ false
  named_other m n small few h = eq_other (named letter m) (named letter n) (λ e. h (decimal_injective m n small few (same_tail letter letter (decimal m) (decimal n) e)))

  pub number_back : (m k j : ℕ) → k + m < 2 ^ 64 → k ≤ j → j < k + m → k + number_of (names_from letter k m) (named letter j) ≡ j
  number_back zero k j small low high = absurd (omega arith)
  number_back (suc m) k j small low high = by (bytes_eq (named letter k) (named letter j)) (bytes_eq-Decides (named letter k) (named letter j)) (λ other. number_back m (suc k) j (omega arith) (omega arith) (omega arith))
    where
      same_number : named letter k ≡ named letter j → k ≡ j
      same_number e = decimal_injective k j (omega arith) (omega arith) (same_tail letter letter (decimal k) (decimal j) e)

      by : (t : Bool) → Decides t (named letter k ≡ named letter j) → (k ≢ j → suc k + number_of (names_from letter (suc k) m) (named letter j) ≡ j)
          → k + (if t then 0 else suc (number_of (names_from letter (suc k) m) (named letter j))) ≡ j
      by true d more = let e = same_number (d.0 refl) in omega (arith, e)
      by false d more = let e = more (λ e. not_both false (d.1 (ap (named letter) e)) refl) in omega (arith, e)

  pub known_back : (m k j : ℕ) → k ≤ j → j < k + m → IsTrue (is_known (names_from letter k m) (named letter j))
  known_back zero k j low high = absurd (omega arith)
  known_back (suc m) k j low high = by (bytes_eq (named letter k) (named letter j)) (bytes_eq-Decides (named letter k) (named letter j)) (λ other. known_back m (suc k) j (omega arith) (omega arith))
    where
      by : (t : Bool) → Decides t (named letter k ≡ named letter j) → (k ≢ j → IsTrue (is_known (names_from letter (suc k) m) (named letter j)))
          → IsTrue (t || is_known (names_from letter (suc k) m) (named letter j))
      by true d more = refl
      by false d more = more (λ e. not_both false (d.1 (ap (named letter) e)) refl)

  pub unknown_after : (m k j : ℕ) → j < 2 ^ 64 → k + m ≤ j → is_known (names_from letter k m) (named letter j) ≡ false
  unknown_after zero k j small low = refl
  unknown_after (suc m) k j small low = (λ i. named_other k j (omega arith) small (λ e. omega arith) i || is_known (names_from letter (suc k) m) (named letter j)) ∙ unknown_after m (suc k) j small (omega arith)

  pub names_last : (m k : ℕ) → names_from letter k m ++ named letter (k + m) ∷ [] ≡ names_from letter k (suc m)
  names_last zero k = ap (λ (n : ℕ). named letter n ∷ []) (omega arith)
  names_last (suc m) k =
      let e : k + suc m ≡ suc k + m = omega arith in
      ap (λ (n : ℕ). named letter k ∷ (names_from letter (suc k) m ++ named letter n ∷ [])) e ∙ ap (λ (s : List (List ℕ)). named letter k ∷ s) (names_last m (suc k))
