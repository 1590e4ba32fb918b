-- What a handle owns.
use mathlib.Core.Bool.{Bool, true, false}
use base.Fml.{Fml, ftrue, ffalse, fex}
use denote.RattleType.{RattleType}
use denote.RawPtr.{Ptr}
use Rattle.core.specs.declared.option.Option.{Option}
use Rattle.core.specs.declared.option.Option.TheVariants.{None, Some}
use Rattle.std.specs.contracts.alloc.Global.{the_row as Heap}
use Rattle.std.specs.contracts.impls.GlobalAllocator.TheImpl.{ghosts}
use Rattle.std_alloc.specs.Box.Ownership.{box_owns}

-- the value at the pointer, and the right to give its block back to the heap, which is one for all of
-- its handles
abbrev pub owns_block : (R : RattleType) → Ptr → R.Denot → Fml
owns_block R p x = fex Heap.Denot (λ heap. box_owns (ghosts.dealloc_token heap) R p x)

-- an open one has the value at its pointer, and the right to free its block; a closed one has nothing
abbrev pub keeps : (R : RattleType) → Bool → Ptr → Option R.Denot → Fml
keeps R true p (Some x) = owns_block R p x
keeps R true p None = ffalse
keeps R false p (Some x) = ffalse
keeps R false p None = ftrue
