-- A closing line stands in a sheet only at its end.
use Rattle.std.proofs.Common.{◌≡◌, ◌≢◌, ℕ, List, [], ◌∷◌, ◌++◌, refl, sym, ap, subst, ◌∙◌, inl, inr, append_assoc}
use Rattle.burr_text.proofs.Common.Cuts.{Lacks, cut}
use Rattle.burr_sheet.specs.Rules.SheetText.{closing_line}
use Rattle.burr_text.specs.Lines.{IsLines}
use Rattle.burr_sheet.specs.Laws.SheetLaws.{ClosesOnce}
use Rattle.burr_text.proofs.Common.LastLines.{empty_after}
use Rattle.burr_sheet.proofs.ClosingLines.{IsPlain, ArePlain, in_lines, closing_is_line, closing_is_not_plain, sheet_front, sheet_in_lines}
use native.Mathlib.Decide.{ℕ_discrete}

-- the bytes begin with a line, and go on with lines
record BeginsWithLine (text : List ℕ) : Type 0 where
  first : List ℕ
  lacks : Lacks 10 first
  after : List ℕ
  lines : IsLines after
  is : (more : List ℕ) → text ++ more ≡ first ++ 10 ∷ (after ++ more)

first_line : (f : List ℕ) → BeginsWithLine (f ++ 10 ∷ [])
first_line [] = record { first = []; lacks = tt; after = []; lines = inl refl; is = λ more. refl }
first_line (b ∷ f) = elim (ℕ_discrete b 10) [
  | yes e ↦ record { first = []; lacks = tt; after = f ++ 10 ∷ []; lines = inr (f, refl); is = λ more. ap (λ (c : ℕ). c ∷ ((f ++ 10 ∷ []) ++ more)) e }
  | no n ↦
      let rest = first_line f in
      record { first = b ∷ rest.first; lacks = (n, rest.lacks); after = rest.after; lines = rest.lines; is = λ more. ap (λ (bytes : List ℕ). b ∷ bytes) (rest.is more) }
]

-- a list with an end of a line in it is not empty
pub not_empty : (a b rest : List ℕ) → [] ≢ a ++ (b ++ 10 ∷ rest)
not_empty a b rest e = some (empty_after b (10 ∷ rest) (sym (empty_after a (b ++ 10 ∷ rest) e)))
  where
    some : 10 ∷ rest ≢ []
    some e = cc

-- one line more before the others
one_line_more : (line : List ℕ) (lines : List (List ℕ)) (more : List ℕ) → in_lines (line ∷ lines) ++ more ≡ line ++ 10 ∷ (in_lines lines ++ more)
one_line_more line lines more = append_assoc (line ++ 10 ∷ []) (in_lines lines) more ∙ append_assoc line (10 ∷ []) (in_lines lines ++ more)

-- a line that is not plain stands after plain lines only as the last
only_last : (lines : List (List ℕ)) (last body front rest : List ℕ) → ArePlain lines → Lacks 10 last → Lacks 10 body → (¬ IsPlain body) → IsLines front → in_lines lines ++ (last ++ 10 ∷ []) ≡ front ++ (body ++ 10 ∷ rest)
    → (rest ≡ []) × (body ≡ last)
only_last [] last body front rest plain lacks also other (inl none) e =
    let same = cut 10 last body [] rest lacks also (e ∙ ap (λ (f : List ℕ). f ++ (body ++ 10 ∷ rest)) none) in
    (sym same.1, sym same.0)
only_last [] last body front rest plain lacks also other (inr f) e =
    let begins = first_line f.0 in
    let parts = e ∙ ap (λ (f : List ℕ). f ++ (body ++ 10 ∷ rest)) f.1 ∙ begins.is (body ++ 10 ∷ rest) in
    absurd (not_empty begins.after body rest (cut 10 last begins.first [] (begins.after ++ (body ++ 10 ∷ rest)) lacks begins.lacks parts).1)
only_last (line ∷ lines) last body front rest plain lacks also other (inl none) e =
    let parts = sym (one_line_more line lines (last ++ 10 ∷ [])) ∙ e ∙ ap (λ (f : List ℕ). f ++ (body ++ 10 ∷ rest)) none in
    absurd (other (subst IsPlain (cut 10 line body (in_lines lines ++ (last ++ 10 ∷ [])) rest plain.0 also parts).0 plain.1))
only_last (line ∷ lines) last body front rest plain lacks also other (inr f) e =
    let begins = first_line f.0 in
    let parts = sym (one_line_more line lines (last ++ 10 ∷ [])) ∙ e ∙ ap (λ (f : List ℕ). f ++ (body ++ 10 ∷ rest)) f.1 ∙ begins.is (body ++ 10 ∷ rest) in
    only_last lines last body begins.after rest plain.2 lacks also other begins.lines
    (cut 10 line begins.first (in_lines lines ++ (last ++ 10 ∷ [])) (begins.after ++ (body ++ 10 ∷ rest)) plain.0 begins.lacks parts).1

pub closes_once : ClosesOnce
closes_once names motions steps count closing other front rest unended lines e =
    let before = sheet_in_lines names motions unended in
    let last = closing_is_line closing steps in
    let there = closing_is_line other count in
    let left : sheet_front names motions ++ closing_line closing steps ≡ in_lines before.lines ++ (last.body ++ 10 ∷ []) = (λ i. before.is i ++ last.is i) in
    let right : front ++ closing_line other count ++ rest ≡ front ++ (there.body ++ 10 ∷ rest) =
    ap (λ (line : List ℕ). front ++ line ++ rest) there.is ∙ append_assoc front (there.body ++ 10 ∷ []) rest ∙ ap (λ (bytes : List ℕ). front ++ bytes) (append_assoc there.body (10 ∷ []) rest) in
    let same = only_last before.lines last.body there.body front rest before.plain last.lacks there.lacks (closing_is_not_plain other count) lines (sym left ∙ e ∙ right) in
    (same.0, there.is ∙ ap (λ (body : List ℕ). body ++ 10 ∷ []) same.1 ∙ sym last.is)
