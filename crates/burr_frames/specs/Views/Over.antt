-- Forms over the first symbols alone: their other coefficients are 0.
use Rattle.std.specs.Prelude.{◌≡◌, ℕ, zero, suc, ℤ, pos, List, [], ◌∷◌, length, Some, None, get_or}
use Rattle.burr_code.specs.declared.placement.Placement.{Placement}
use Rattle.burr_code.specs.declared.placement.Placement.TheVariants.{Apart, On}
use Rattle.burr_forms.specs.Rules.Forms.{Form}
use Rattle.burr_container.specs.Rules.Plans.{FormCell, Frame}
use Rattle.burr_frames.specs.Rules.States.{AbstractState, live_ranges}

abbrev pub AllZero : List ℤ → Type 0
AllZero [] = Unit {0}
AllZero (c ∷ coefs) = (c ≡ pos 0) × AllZero coefs

-- the coefficients from number n on are 0
abbrev pub ZeroFrom : ℕ → List ℤ → Type 0
ZeroFrom zero coefs = AllZero coefs
ZeroFrom (suc n) [] = Unit {0}
ZeroFrom (suc n) (c ∷ coefs) = ZeroFrom n coefs

-- the form is over the first n symbols
abbrev pub IsWellScoped : ℕ → Form → Type 0
IsWellScoped n f = ZeroFrom n f.coefs

abbrev pub AllOver : ℕ → List Form → Type 0
AllOver n [] = Unit {0}
AllOver n (f ∷ forms) = IsWellScoped n f × AllOver n forms

abbrev pub AllPlacesOver : ℕ → List (Placement FormCell) → Type 0
AllPlacesOver n [] = Unit {0}
AllPlacesOver n (Apart ∷ places) = AllPlacesOver n places
AllPlacesOver n (On tray c ∷ places) =
    IsWellScoped n c.x × IsWellScoped n c.y × IsWellScoped n c.z × AllPlacesOver n places

-- eight slots, and all forms over the state's own symbols
pub record IsTidy (s : AbstractState) : Type 0 where
  pub eight : length s.slots ≡ 8
  pub guards : AllOver (length s.ranges) s.guards
  pub slots : (k : ℕ) (f : Form) → get_or s.slots k None ≡ Some f → IsWellScoped (length s.ranges) f
  pub operands : AllOver (length s.ranges) s.operands
  pub places : AllPlacesOver (length s.ranges) s.places
  pub cost : IsWellScoped (length s.ranges) s.cost

-- the forms of a frame have a coefficient for each live slot, and no other but zeros
pub record IsWellScopedFrame (f : Frame) : Type 0 where
  pub guards : AllOver (length (live_ranges f.slots)) f.guards
  pub stack : AllOver (length (live_ranges f.slots)) f.stack
  pub places : AllPlacesOver (length (live_ranges f.slots)) f.places
  pub cost : IsWellScoped (length (live_ranges f.slots)) f.cost
