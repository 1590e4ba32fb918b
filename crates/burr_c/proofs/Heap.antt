-- The heap as an allocator: how its handle lies in the machine, and what a call of a generic function is handed for it.
use Rattle.std.proofs.Common.{[], ◌∷◌, refl}
use mir.Syntax.{Dict, Symbol, impl, tcons, tnil, dnil}
use mir.Raw.{raw}
use mir.Val.{Val}
use denote.Exit.{no}
use denote.Laws.{Tells, Is}
use denote.Param.{arg, layout}
use denote.Param.Laws.{Laws, arg_laws}
use denote.RattleType.{RattleType}
use denote.Struct.Laws as struct_laws
use Rattle.std.specs.contracts.alloc.Global as Global
use Rattle.std.proofs.alloc.Global.TheLaws as global_laws

-- the handle, and its machine value
abbrev pub Heap : RattleType
Heap = Global.the_row

abbrev pub heap_bits : Heap.Denot → Val
heap_bits alloc = struct_laws.val Global.the_type global_laws.the_laws alloc

pub heap_told : Tells Heap (Is Heap) (λ alloc. heap_bits alloc ∷ [])
heap_told = struct_laws.tells Global.the_type global_laws.the_laws

-- the same at the layout that a call passes, which is without the names of structs
abbrev pub heap : RattleType
heap = arg (raw (layout Heap)) no Heap

abbrev pub heap_laws : Laws heap
heap_laws = arg_laws (raw (layout Heap)) no Heap global_laws.the_row_laws refl

-- the drop of the handle, which does nothing, as this crate names it
abbrev pub no_drop : Symbol
no_drop = "burr_c::Destruct++none::drop"

abbrev pub heap_drop : Dict
heap_drop = impl (no_drop ∷ []) (tcons (layout heap) tnil) dnil
