use Rattle.std.proofs.Common.{◌∙◌, sym, ap, length, nat_eq}
use Rattle.std.specs.Prelude.{codes}
use Rattle.std.specs.List.{starts_with}
use Rattle.std.proofs.lemmas.List.{take_rest}
use Rattle.burr_from_sheet.proofs.SheetFronts.{sheet_with}
use Rattle.burr_from_sheet.proofs.check.has_move_lines.Goals as goal

pub returns-then-starts_with : goal.returns-then-starts_with
returns-then-starts_with c =
    λ follows. sheet_with c.args.lines.now c.args.sheet.now (sym c.if-starts_with.ensures.value)
    (ap (λ rest. starts_with nat_eq rest (codes "levels ")) (sym (take_rest c.args.sheet.now (length c.args.lines.now))) ∙ sym c.starts_with-then-starts_with.ensures.value ∙ follows)
