-- What the box of a handle holds, as a call of a generic function is handed it: at the layout that a call passes.
use Rattle.std.proofs.Common.{refl}
use mir.Raw.{raw}
use denote.Exit.{no}
use denote.Param.{arg, layout}
use denote.Param.Laws.{Laws, arg_laws}
use denote.RattleType.{RattleType}
use Rattle.burr_c.specs.Boxed.{C}
pub use Rattle.burr_c.proofs.handle.KeptRun.TheLaws.{the_row_laws as C-laws}

abbrev pub boxed : RattleType
boxed = arg (raw (layout C)) no C

abbrev pub boxed_laws : Laws boxed
boxed_laws = arg_laws (raw (layout C)) no C C-laws refl
