use Rattle.std.proofs.Common.{◌∷◌, [], map, drop, decimal}
use Rattle.burr_sheet.specs.Rules.SheetText.{levels_line}
use Rattle.burr_io.proofs.Common.Puts.{Remains, joined}
use Rattle.burr_sheet.proofs.sheet.put_levels.Given as goal

-- the levels to come, each after its separator, remain
abbrev pub invariant-loop-level : goal.invariant-loop-level
invariant-loop-level g l =
    Remains g.W.Sink l.fn.sink l.sink (levels_line l.levels) (joined l.separator 46 (map decimal (drop l.level-index l.levels)) (10 ∷ []))
