use Rattle.std.proofs.Common.{◌≡◌, ◌∷◌, [], ◌++◌, drop}
use Rattle.burr_assembly.specs.Rules.Homes.{names_of}
use Rattle.burr_sheet.specs.Rules.SheetText.{names_from}
use Rattle.burr_sheet.specs.Views.SheetUnderWay.{spaced_names}
use Rattle.burr_io.proofs.Common.Puts.{joined}
use Rattle.burr_sheet.proofs.sheet.write_names.Given as goal

-- with the names to come, each after its separator, the text is whole
abbrev pub invariant-loop-piece : goal.invariant-loop-piece
invariant-loop-piece l =
    l.text.items ++ joined l.separator 44 (names_from l.piece l.group (drop l.piece (names_of l.assembly))) (32 ∷ []) ≡ spaced_names (names_of l.assembly) l.group
