-- What `plan` makes of a sheet.
use Rattle.std.specs.Prelude.{ℕ, List}
use Rattle.burr_assembly.specs.Rules.Text.{Assembly, IsText}
use Rattle.burr_from_sheet.specs.SheetPlans.{IsPlanOfSheet}

-- the text is that of the plan of a sheet, for the assembly of a text
abbrev pub MakesPlanOf : List ℕ → List ℕ → List ℕ → Type 0
MakesPlanOf drawing sheet text = (a : Assembly) × IsText drawing a × IsPlanOfSheet a sheet text
