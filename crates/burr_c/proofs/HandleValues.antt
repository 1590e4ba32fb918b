-- How a handle lies in the machine: a struct of its pointer and its flag. It is made of what it keeps, and gives that back.
use Rattle.std.proofs.Common.{◌≡◌, List, [], ◌∷◌, refl}
use mathlib.Core.Bool.{Bool, true, false, not}
use lib.Dec.{T}
use seplogic.Ra.Ura.{Ura}
use mir.Val.{Val, vbool, vstruct, vcons, vnil, has_ty, WT}
use base.Fml.{ftrue}
use base.Logic.{never_e}
use types.Logic.{Logic}
use types.Kit.{Item, Goal, Seq, Step, step, ‵, ◌$◌, drop, given, learn, use1, fsplit, fjoin}
use denote.RattleType.{RattleType}
use denote.RawPtr.{Ptr, ptr_val}
use denote.Steps.{owned}
use denote.Laws.{Is}
use denote.Param.{layout}
use denote.Struct.Struct.{Shape, Struct, Struct-Makes}
use denote.Struct.Owning.{shape}
use Rattle.core.specs.declared.option.Option.{Option}
use Rattle.core.specs.declared.option.Option.TheVariants.{None, Some}
use Rattle.core.proofs.atomic.Steps.{Ptr-Good}
use Rattle.std_alloc.proofs.ResultValues.{and_tt}
use Rattle.burr_c.specs.Keeps.{keeps}
use Rattle.burr_c.specs.Boxed.{C}
use Rattle.burr_c.specs.contracts.handle.Handle as handle
use Rattle.burr_c.proofs.LooseValues.{kept}

abbrev pub Handle : RattleType
Handle = handle.the_row

abbrev fields : Shape
fields = shape handle.the_type

-- the struct that lies in the machine for the pointer p and the flag b
abbrev pub pair : Ptr → Bool → Val
pair p b = vstruct (vcons (ptr_val p) (vcons (vbool b) vnil))

pub pair_fits : (p : Ptr) (b : Bool) → T (has_ty (layout Handle) (pair p b)) × WT (pair p b)
pair_fits p b = (and_tt _ (Ptr-Good p).0, ((Ptr-Good p).1, (tt, tt)))

module _ {M : Type 1} {𝓤 : Ura M} {𝓛 : Logic 𝓤} {K : Type 0} {Γ : List (Item 𝓤)} {G : Goal 𝓤 𝓛.H} where
  pub makes_handle : K → (p : Ptr) (b : Bool) (x : Option C.Denot)
      → Step K 𝓛 (‵ (Handle.own_val (record { at = p; is_open = b; value = x }) (pair p b ∷ [])) ∷ Γ) G (‵ (keeps C b p x) ∷ Γ) G
  makes_handle t p b x = step (λ rest.
      owned t (Struct fields) (Is (Struct fields)) (Struct-Makes 𝓛 fields ((λ at bits. tt), ((λ flag bits. tt), tt)))
      (p, (b, tt)) (pair p b ∷ []) ((ptr_val p ∷ [], (vbool b ∷ [], tt)), (refl, (refl, (refl, tt)))) $
      fjoin t $ rest)

  pub opens_handle : K → (h : Handle.Denot) (bits : List Val)
      → Step K 𝓛 (‵ (keeps C h.is_open h.at h.value) ∷ Γ) G (‵ (Handle.own_val h bits) ∷ Γ) G
  opens_handle t h bits = step (λ rest. fsplit t $ drop t $ rest)

  -- a closed handle has no value
  pub closed : K → (b : Bool) (p : Ptr) (x : Option C.Denot) → T (not b)
      → (x ≡ None → Seq K 𝓛 Γ G) → Seq K 𝓛 (‵ (keeps C b p x) ∷ Γ) G
  closed t true p x shut k = absurd shut
  closed t false p None shut k = drop t $ k refl
  closed t false p (Some y) shut k = use1 𝓛 (given ⊥ (‵ ftrue)) (never_e 𝓤 _) $ learn t (λ z. absurd z)

  -- an open one has a value, and keeps it
  pub opened : K → (b : Bool) (p : Ptr) (x : Option C.Denot) → T (not (not b))
      → ((y : C.Denot) → x ≡ Some y → Seq K 𝓛 (‵ (kept C p y) ∷ Γ) G) → Seq K 𝓛 (‵ (keeps C b p x) ∷ Γ) G
  opened t false p x set k = absurd set
  opened t true p (Some y) set k = k y refl
  opened t true p None set k = use1 𝓛 (given ⊥ (‵ ftrue)) (never_e 𝓤 _) $ learn t (λ z. absurd z)
