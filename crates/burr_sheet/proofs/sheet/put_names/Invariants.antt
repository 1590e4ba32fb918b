use Rattle.std.proofs.Common.{[], drop}
use Rattle.std.specs.List.{join_with_byte}
use Rattle.burr_assembly.specs.Rules.Homes.{names_of}
use Rattle.burr_sheet.specs.Rules.SheetText.{names_from}
use Rattle.burr_io.proofs.Common.Puts.{Remains, joined}
use Rattle.burr_sheet.proofs.sheet.put_names.Given as goal

-- the names to come, each after its separator, remain
abbrev pub invariant-loop-piece : goal.invariant-loop-piece
invariant-loop-piece g l =
    Remains g.W.Sink l.fn.sink l.sink (join_with_byte 44 (names_from 0 l.group (names_of l.assembly))) (joined l.separator 44 (names_from l.piece l.group (drop l.piece (names_of l.assembly))) [])
