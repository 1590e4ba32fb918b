use Rattle.std.proofs.Common.{take}
use Rattle.burr_blocking.specs.Views.Translates.{IsTranslate}
use Rattle.burr_blocking.proofs.triangle.translate.displacement_between.Given as goal

-- the first i cells are displaced alike
abbrev pub invariant-loop-i : goal.invariant-loop-i
invariant-loop-i l = IsTranslate (take l.i l.fn.from) l.displacement (take l.i l.fn.to)
