-- How a loose box lies in the machine: a struct of its pointer. It is made of what a box owns, and gives that back.
use Rattle.std.proofs.Common.{List, [], ◌∷◌, refl}
use lib.Dec.{T}
use seplogic.Ra.Ura.{Ura}
use base.Fml.{Fml}
use mir.Val.{Val, vstruct, vcons, vnil, has_ty, WT}
use types.Logic.{Logic}
use types.Kit.{Item, Goal, Step, step, ‵, ◌$◌, drop, fsplit, fjoin}
use denote.RattleType.{RattleType}
use denote.RawPtr.{Ptr, ptr_val}
use denote.Steps.{owned}
use denote.Laws.{Is}
use denote.Param.{layout}
use denote.Struct.Struct.{Shape, Struct, Struct-Makes}
use denote.Struct.Owning.{shape}
use Rattle.core.proofs.atomic.Steps.{Ptr-Good}
use Rattle.std_alloc.proofs.ResultValues.{and_tt}
use Rattle.burr_c.specs.Keeps.{owns_block}
use Rattle.burr_c.specs.contracts.handle.Loose as loose

-- the struct that lies in the machine for the pointer p
abbrev pub word : Ptr → Val
word p = vstruct (vcons (ptr_val p) vnil)

module _ (R : RattleType) where
  abbrev pub Loose : RattleType
  Loose = loose.the_row R

  abbrev fields : Shape
  fields = shape (loose.the_type R)

  -- what is at p: the value x, and the right to free its block
  abbrev pub kept : Ptr → R.Denot → Fml
  kept p x = owns_block R p x

  pub word_fits : (p : Ptr) → T (has_ty (layout Loose) (word p)) × WT (word p)
  word_fits p = (and_tt _ (Ptr-Good p).0, ((Ptr-Good p).1, tt))

  module _ {M : Type 1} {𝓤 : Ura M} {𝓛 : Logic 𝓤} {K : Type 0} {Γ : List (Item 𝓤)} {G : Goal 𝓤 𝓛.H} where
    pub makes_loose : K → (p : Ptr) (x : R.Denot)
        → Step K 𝓛 (‵ (Loose.own_val (record { at = p; value = x }) (word p ∷ [])) ∷ Γ) G (‵ (kept p x) ∷ Γ) G
    makes_loose t p x = step (λ rest.
        owned t (Struct fields) (Is (Struct fields)) (Struct-Makes 𝓛 fields ((λ at bits. tt), tt))
        (p, tt) (word p ∷ []) ((ptr_val p ∷ [], tt), (refl, (refl, tt))) $
        fjoin t $ rest)

    pub opens_loose : K → (loose : Loose.Denot) (bits : List Val)
        → Step K 𝓛 (‵ (kept loose.at loose.value) ∷ Γ) G (‵ (Loose.own_val loose bits) ∷ Γ) G
    opens_loose t loose bits = step (λ rest. fsplit t $ drop t $ rest)
