-- What is to come of a sheet at its end, and of one at its start.
use Rattle.std.proofs.Common.{◌≡◌, ℕ, [], ◌++◌, Option, Some, None, refl, ap, sym, ◌∙◌, append_assoc, append-nil}
use Rattle.burr_sheet.specs.declared.sheet.GrowingLine.{GrowingLine}
use Rattle.burr_sheet.specs.declared.sheet.Sheet.TheInside.{Inside}
use Rattle.burr_state.specs.declared.effect.Closing.{Closing}
use Rattle.burr_sheet.specs.Rules.SheetText.{levels_from, levels_line, closing_line}
use Rattle.burr_sheet.specs.Views.SheetUnderWay.{UnderWay, still, with_growing, growing_text}
use Rattle.burr_sheet.specs.Views.SheetView.{under_way, growing_of}

-- the growing line ends no level
no_level : (n : ℕ) (growing : Option GrowingLine) → levels_from n (with_growing (growing_of growing) []) ≡ []
no_level n None = refl
no_level n (Some l) = refl

-- the growing line, the levels and the closing are to come
pub still-end : (s : Inside) (u : UnderWay) (steps : ℕ) (closing : Closing) → under_way s ≡ u
    → still u [] steps closing ≡ growing_text u ++ (levels_line s.levels.items ++ closing_line closing steps)
still-end s u steps closing is =
    rw (← is)
    (append_assoc (growing_text (under_way s)) _ (closing_line closing steps)
    ∙ ap (λ levels. growing_text (under_way s) ++ (levels_line levels ++ closing_line closing steps))
    (ap (λ ns. s.levels.items ++ ns) (no_level s.level s.growing) ∙ append-nil s.levels.items))

-- what leaves the levels of what is under way leaves those of the sheet
pub same-levels : (s t : Inside) (u v : UnderWay) → under_way s ≡ u → under_way t ≡ v → v.levels ≡ u.levels → t.levels.items ≡ s.levels.items
same-levels s t u v is next stay = ap (λ (w : UnderWay). w.levels) next ∙ stay ∙ sym (ap (λ (w : UnderWay). w.levels) is)
