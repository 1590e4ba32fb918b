-- Forms that the code cuts into the words of their constant and of their terms.
use Rattle.std.specs.Prelude.{◌≡◌, ◌<◌, ◌≤◌, ℕ, List, [], ◌∷◌, length, take, drop, slice_index, slice_index_or, Option, MatchOption, Bool, true, false, not, ◌&&◌, ◌||◌, ◌==◌, nat_le, IsTrue}
use Rattle.std.specs.Str.Parse.{starts_with_minus}
use Rattle.burr_plantext.specs.Rules.Written.{is_sign, signed_parts, constant_word, term_words, coefficient_word, slot_word, is_term, natural_in, number_in}

-- nothing, or a sign before all else
abbrev pub begins_term : List ℕ → Bool
begins_term [] = true
begins_term (b ∷ bytes) = is_sign b

-- the words of the terms that the bytes are
abbrev pub terms_of : List ℕ → List (List ℕ)
terms_of bytes = drop 1 (signed_parts bytes)

-- the bytes are the constant of a form, and its terms
pub record IsConstantCut (bytes word terms : List ℕ) : Type 0 where
  pub constant : word ≡ constant_word bytes
  pub others : terms_of terms ≡ term_words bytes
  pub begins : IsTrue (begins_term terms)

-- the constant of a form ends after the first `end` bytes
abbrev pub IsConstantEnd : List ℕ → ℕ → Type 0
IsConstantEnd bytes end =
    (end ≤ length bytes) × IsConstantCut bytes (take end bytes) (drop end bytes)

-- a sign, and what can stand after it: a digit that isn't `0`, or anything after a `-`
abbrev pub begins_signed : List ℕ → Bool
begins_signed [] = false
begins_signed (b ∷ bytes) =
    (b == 45) || ((b == 43) && nat_le 49 (slice_index bytes 0) && nat_le (slice_index bytes 0) 57)

-- the bytes are a term with this coefficient and this slot, and the terms after it
pub record IsTermCut (bytes coefficient slot terms : List ℕ) : Type 0 where
  pub term : List ℕ
  pub parts : terms_of bytes ≡ term ∷ terms_of terms
  pub is : IsTrue (is_term term)
  pub coefs : number_in coefficient ≡ number_in (coefficient_word term)
  pub slots : slot ≡ slot_word term
  pub begins : IsTrue (begins_term terms)
  pub shorter : length terms < length bytes

-- the word writes a number that is at least this, and that of a live slot
abbrev pub is_live_slot : List Bool → ℕ → List ℕ → Bool
is_live_slot live least word =
    not (starts_with_minus word) && nat_le least (natural_in word)
    && slice_index_or live (natural_in word) false

-- the slot whose number the word writes, where it is such a number
abbrev pub IsLiveSlot : List Bool → ℕ → List ℕ → Option ℕ → Type 0
IsLiveSlot live least word found =
    MatchOption found (is_live_slot live least word ≡ false) (λ n.
    (is_live_slot live least word ≡ true) × (n ≡ natural_in word))
