use Rattle.std.proofs.Common.{ℕ, ◌<◌}
use Rattle.burr_voxels.specs.declared.cell.Cell.{Cell}
use Rattle.burr_assembly.specs.Rules.Homes.{homes_of}
use Rattle.burr_blocking.specs.Views.Translates.{IsTranslate, representative_at}
use Rattle.burr_blocking.proofs.triangle.Classes.find.Given as goal

-- the cells are a translate of none of the first representatives
abbrev pub invariant-loop-class : goal.invariant-loop-class
invariant-loop-class l = (class : ℕ) → class < l.class → (d : Cell) → ¬ IsTranslate (representative_at (homes_of l.fn.assembly) l.fn.self.representatives.items class) d l.fn.cells
