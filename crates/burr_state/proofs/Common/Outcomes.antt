-- For crates above: what comes of an instruction's checks in their order, where a trap is no matter.
use Rattle.std.proofs.Common.{◌≡◌, ◌⊎◌, Option, None, Some, inl, inr, subst, sym}
use Rattle.burr_state.specs.declared.effect.Trap.{Trap}
use Rattle.burr_state.specs.Rules.Next.{Next, Traps}

-- a trap, or what is so
pub record TrapsOr (IsSo : Next → Type 0) (next : Next) : Type 0 where
  pub cases : ((trap : Trap) × (next ≡ Traps trap)) ⊎ IsSo next

-- a check that fails traps
pub past_check : {IsSo : Next → Type 0} {C Rest : Type 0} {next : Next} {trap : Trap}
    → ((¬ C) × (next ≡ Traps trap)) ⊎ (C × Rest) → (C → Rest → TrapsOr IsSo next) → TrapsOr IsSo next
past_check {trap} (inl h) f = record { cases = inl (trap, h.1) }
past_check (inr h) f = f h.0 h.1

-- a look for a value that finds none traps
pub past_search : {IsSo : Next → Type 0} {A : Type 0} {Rest : A → Type 0} {found : Option A} {next : Next} {trap : Trap}
    → ((found ≡ None) × (next ≡ Traps trap)) ⊎ ((x : A) × (found ≡ Some x) × Rest x) → ((x : A) → found ≡ Some x → Rest x → TrapsOr IsSo next) → TrapsOr IsSo next
past_search {trap} (inl h) f = record { cases = inl (trap, h.1) }
past_search (inr h) f = f h.0 h.1 h.2

-- after the checks one thing stands next
pub comes : {IsSo : Next → Type 0} {next given : Next} → next ≡ given → IsSo given → TrapsOr IsSo next
comes {IsSo} e so = record { cases = inr (subst IsSo (sym e) so) }
