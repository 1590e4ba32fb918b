-- What a sheet begins with.
use Rattle.std.proofs.Common.{◌≡◌, ◌++◌, ℕ, List, true, refl, length, drop, nat_eq, ap, sym, ◌∙◌}
use Rattle.std.specs.Prelude.{codes}
use Rattle.std.specs.List.{starts_with}
use Rattle.std.proofs.lemmas.Slice.Eq.{starts_is}
use Rattle.std.proofs.lemmas.Bool.Decides.{Decides-eqb}
use Rattle.burr_from_sheet.specs.Drafts.{IsSheetWith}

-- a text that begins with the lines, and what follows with the levels
pub sheet_with : (lines sheet : List ℕ) → starts_with nat_eq sheet lines ≡ true
    → starts_with nat_eq (drop (length lines) sheet) (codes "levels ") ≡ true → IsSheetWith lines sheet
sheet_with lines sheet front levels =
    let rest = drop (length lines) sheet in
    let first : sheet ≡ lines ++ rest = (starts_is Decides-eqb sheet lines true (sym front)).0 refl in
    let second : rest ≡ codes "levels " ++ drop 7 rest = (starts_is Decides-eqb rest (codes "levels ") true (sym levels)).0 refl in
    (drop 7 rest, first ∙ ap (λ r. lines ++ r) second)
