-- The first lines of a text.
use Rattle.std.proofs.Common.{◌≡◌, ◌≤◌, ℕ, zero, suc, List, [], ◌∷◌, ◌++◌, length, refl, ap, subst, sym, ◌∙◌, arith}
use Rattle.std.proofs.lemmas.List.{append-nil}
use Rattle.burr_from_sheet.specs.SheetPlans.{first_lines}

-- no lines
pub no_lines : (text : List ℕ) → first_lines 0 text ≡ []
no_lines [] = refl
no_lines (b ∷ bytes) = refl

-- what was passed is all where no line is left
pub none_left : (front rest : List ℕ) (left : ℕ) (all : List ℕ) → left ≡ 0
    → front ++ first_lines left rest ≡ all → front ≡ all
none_left front rest left all none so =
    let ended : first_lines left rest ≡ [] = subst (λ n. first_lines n rest ≡ []) (sym none) (no_lines rest) in
    sym (append-nil front) ∙ ap (λ r. front ++ r) (sym ended) ∙ so

-- as many lines as there are bytes are the whole text
pub all_lines : (text : List ℕ) (count : ℕ) → length text ≤ count → first_lines count text ≡ text
all_lines [] count enough = refl
all_lines (b ∷ bytes) zero enough = absurd (omega arith)
all_lines (b ∷ bytes) (suc n) enough =
    let one = all_lines bytes n (omega arith) in
    let same = all_lines bytes (suc n) (omega arith) in
    grind (arith, one, same)
