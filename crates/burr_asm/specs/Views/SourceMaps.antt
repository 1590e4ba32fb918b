-- Over the lines of a plan's text: which part of the plan each is.
use Rattle.std.specs.Prelude.{ℕ, zero, suc, pred, ◌+◌, ◌≤◌, [], ◌∷◌, Option, Some, None, ◌&&◌, nat_le, if◌then◌else◌}
use Rattle.burr_code.specs.declared.limits.TheConstants.{MOST_CODE}
use Rattle.burr_plantext.specs.Rules.Statements.{Statement}
use Rattle.burr_plantext.specs.Rules.Lines.{Line, PlanLine, ProcLine, LabelLine, CodeLine}
use Rattle.burr_plantext.specs.Rules.Meaning.{code_size}
use Rattle.burr_plantext.specs.Rules.Checks.{is_in_range}
use Rattle.burr_plantext.specs.Rules.Texts.{LineRead, Reads}
use Rattle.burr_asm.specs.declared.source_maps.PlanPart.{PlanPart}
use Rattle.burr_asm.specs.declared.source_maps.PlanPart.TheVariants.{Plan, Procedure, Exit, Label, Frame, Code}
use Rattle.burr_asm.specs.declared.source_maps.Cursor.{Cursor}

-- before the first line
abbrev pub at_start : Cursor
at_start = record { procedures = 0; labels = 0; rows = 0; pc = 0 }

-- nothing is counted beyond this number, and no code beyond what a procedure may have
pub record IsWithin (k : Cursor) (most : ℕ) : Type 0 where
  pub procedures : k.procedures ≤ most
  pub labels : k.labels ≤ most
  pub rows : k.rows ≤ most
  pub pc : k.pc ≤ MOST_CODE

-- What each line is, and how far the text was gone over with it

-- the line of a procedure
abbrev pub with_procedure : Cursor → PlanPart × Cursor
with_procedure k =
    (Procedure k.procedures, record at_start { procedures = suc k.procedures })

-- the line of a label
abbrev pub with_label : Cursor → PlanPart × Cursor
with_label k =
    (Label (pred k.procedures) k.labels, record k { labels = suc k.labels; rows = 0 })

-- the line of a frame after this many labels: of the exit frame, before the first
abbrev pub row_part : ℕ → ℕ → ℕ → PlanPart
row_part procedure zero row = Exit procedure row
row_part procedure (suc label) row = Frame procedure label row

-- the line of a frame
abbrev pub with_row : Cursor → PlanPart × Cursor
with_row k =
    (row_part (pred k.procedures) k.labels k.rows, record k { rows = suc k.rows })

-- a line of code that is in range, if there is room for it
abbrev pub with_code : Cursor → Statement → Option (PlanPart × Cursor)
with_code k s =
    let after = k.pc + code_size (s ∷ []) in
    if is_in_range s && nat_le after MOST_CODE
    then Some (Code (pred k.procedures) k.pc, record k { pc = after })
    else None

-- a line of any form
abbrev pub next_part : Cursor → Line → Option (PlanPart × Cursor)
next_part k (PlanLine title) = Some (Plan, k)
next_part k (ProcLine head) = Some (with_procedure k)
next_part k (LabelLine name) = Some (with_label k)
next_part k (CodeLine s) = with_code k s
next_part k line = Some (with_row k)

-- a line that is not skipped; none, where it is of no form
abbrev pub part_read : Cursor → LineRead → Option (PlanPart × Cursor)
part_read k (Reads line) = next_part k line
part_read k line = None
