-- For the code: where a form is cut into its constant and its terms.
use Rattle.std.proofs.Common.{◌≡◌, ℕ, List, [], ◌∷◌, ◌++◌, drop, Bool, true, refl, sym, ap, ◌∙◌}
use Rattle.burr_plantext.specs.Rules.Written.{is_sign, signed, signed_parts, form_parts, in_first}
use Rattle.burr_plantext.proofs.Common.Forms.{HasNoSign, signed_front, first_front}

-- nothing, or a term begins
abbrev pub BeginsTerm : List ℕ → Type 0
BeginsTerm [] = Unit {0}
BeginsTerm (b ∷ bytes) = is_sign b ≡ true

term_first : (rest : List ℕ) → BeginsTerm rest → signed_parts rest ≡ [] ∷ drop 1 (signed_parts rest)
term_first [] h = refl
term_first (b ∷ bytes) h =
    let e : signed_parts (b ∷ bytes) ≡ [] ∷ in_first b (signed_parts bytes) = ap (λ (t : Bool). signed t b (signed_parts bytes)) h in
    e ∙ ap (λ (ps : List (List ℕ)). [] ∷ drop 1 ps) (sym e)

-- the term with which bytes begin, up to the next sign
pub term_cut : (sign : ℕ) (body rest : List ℕ) → is_sign sign ≡ true → HasNoSign body → BeginsTerm rest
    → drop 1 (signed_parts (sign ∷ (body ++ rest))) ≡ (sign ∷ body) ∷ drop 1 (signed_parts rest)
term_cut sign body rest is unsigned h = ap (λ (ps : List (List ℕ)). drop 1 ps) (signed_front sign body rest (drop 1 (signed_parts rest)) is unsigned (term_first rest h))

-- the constant of a form, whose first byte may be a sign, up to the next sign
pub constant_cut : (b : ℕ) (body rest : List ℕ) → HasNoSign body → BeginsTerm rest → form_parts (b ∷ (body ++ rest)) ≡ (b ∷ body) ∷ drop 1 (signed_parts rest)
constant_cut b body rest unsigned h = first_front b body rest (drop 1 (signed_parts rest)) unsigned (term_first rest h)
