-- The last line of an input, and what stands before it.
use Rattle.std.proofs.Common.{◌≡◌, ◌≢◌, ℕ, ◌+◌, ◌<◌, List, [], ◌∷◌, ◌++◌, length, get_or, take, drop, Contains, sym, ap, subst, ◌∙◌, inr, arith, take-append-drop}
use Rattle.std.proofs.lemmas.List.{get_or_default, get_or-drop, length-drop, take_more}
use Rattle.burr_text.specs.Lines.{IsLines}

-- a list of bytes is cut after its last end of a line
pub record IsCutLast (bytes front line : List ℕ) : Type 0 where
  pub parts : bytes ≡ front ++ line
  pub lines : IsLines front
  pub unended : ¬ Contains line 10

-- cut after the place of the last end of a line
pub IsCutLast-after : (bytes front line : List ℕ) (n : ℕ) → n < length bytes → get_or bytes n 0 ≡ 10
    → ((k : ℕ) → n < k → k < length bytes → get_or bytes k 0 ≢ 10) → front ≡ take (n + 1) bytes → line ≡ drop (n + 1) bytes → IsCutLast bytes front line
IsCutLast-after bytes front line n inside is_end last front_is line_is = record {
  parts = rw (front_is, line_is) (sym (take-append-drop (n + 1) bytes));
  lines = inr (take n bytes, front_is ∙ take_more bytes n 0 inside ∙ ap (λ b. take n bytes ++ b ∷ []) is_end);
  unended = λ found.
      let count = length-drop (n + 1) bytes in
      let short : found.0 < length (drop (n + 1) bytes) = subst (λ (bs : List ℕ). found.0 < length bs) line_is found.1 in
      let below : n + 1 + found.0 < length bytes = omega arith in
      let here : get_or (drop (n + 1) bytes) found.0 10 ≡ 10 = subst (λ (bs : List ℕ). get_or bs found.0 10 ≡ 10) line_is found.2 in
      last (n + 1 + found.0) (omega arith) below
      (get_or_default bytes (n + 1 + found.0) 0 10 below ∙ sym (get_or-drop (n + 1) bytes found.0 10) ∙ here);
}

-- a cut of what stands before the input's last byte, which is an end of a line
pub IsCutLast-with_end : (input bytes front line : List ℕ) (b : ℕ) → input ≡ bytes ++ b ∷ [] → b ≡ 10 → IsCutLast bytes front line
    → (input ≡ front ++ line ++ 10 ∷ []) × IsLines front × (¬ Contains line 10)
IsCutLast-with_end input bytes front line b split is_end cut = (
  split ∙ ap (λ n. bytes ++ n ∷ []) is_end ∙ ap (λ (bs : List ℕ). bs ++ 10 ∷ []) cut.parts,
  cut.lines,
  cut.unended,
)
