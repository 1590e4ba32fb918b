use Rattle.burr_assembly.specs.Rules.Homes.{homes_of}
use Rattle.burr_blocking.specs.Views.Classes.{AreFirstClasses}
use Rattle.burr_blocking.proofs.triangle.Classes.build.Given as goal

-- the classes so far are those of the first pieces
abbrev pub invariant-loop-piece : goal.invariant-loop-piece
invariant-loop-piece l = AreFirstClasses (homes_of l.fn.assembly) l.piece l.classes
