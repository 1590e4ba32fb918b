-- The search for the first faulty line.
use Rattle.std.proofs.Common.{◌<◌, ℕ, List, [], ◌∷◌, length, refl, subst, sym, arith}
use Rattle.burr_assembly.specs.Rules.Text.{Assembly}
use Rattle.burr_from_sheet.specs.SheetPlans.{AreOfMotions, first_lines}
use Rattle.burr_from_sheet.proofs.FirstLines.{no_lines, all_lines}

-- no lines are the lines of no motion at all
pub none_are : (a : Assembly) → AreOfMotions a []
none_are a = ([], record { lines = refl; each = λ k d h. absurd (omega (arith, h)); few = omega arith })

-- a text that is the lines of no motions has a byte
pub some_byte : (a : Assembly) (lines : List ℕ) → ¬ AreOfMotions a lines → 0 < length lines
some_byte a [] none = absurd (none (none_are a))
some_byte a (b ∷ bytes) none = omega arith

-- its first lines, none of them, are those of motions
pub first_are : (a : Assembly) (lines : List ℕ) → AreOfMotions a (first_lines 0 lines)
first_are a lines = subst (λ (text : List ℕ). AreOfMotions a text) (sym (no_lines lines)) (none_are a)

-- and all of them are not
pub all_are_not : (a : Assembly) (lines : List ℕ) → ¬ AreOfMotions a lines
    → ¬ AreOfMotions a (first_lines (length lines) lines)
all_are_not a lines none all =
    none (subst (λ (text : List ℕ). AreOfMotions a text) (all_lines lines (length lines) (omega arith)) all)
