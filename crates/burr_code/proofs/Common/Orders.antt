-- For crates above: whole numbers in their order.
use Rattle.std.proofs.Common.{◌≡◌, ◌⊎◌, ℤ, ap, inl, inr, arith}
use Rattle.std.specs.Prelude.{pos, negsuc, ◌<ℤ◌, ◌≤ℤ◌}
use Rattle.std.proofs.lemmas.Int.{ints}
use Rattle.std.proofs.lemmas.Bool.{cases_order}
use Rattle.burr_text.proofs.Common.Decisions.{Decided}

-- two numbers are the same, or one is below the other
pub whole_order : (a b : ℤ) → (a ≡ b) ⊎ ((a <ℤ b) ⊎ (b <ℤ a))
whole_order (pos a) (pos b) = elim (cases_order a b) [ inl e ↦ inl (ap pos e) | inr h ↦ inr (elim h [ inl l ↦ inl (omega (arith, ints, l)) | inr l ↦ inr (omega (arith, ints, l)) ]) ]
whole_order (pos a) (negsuc b) = inr (inr (omega (arith, ints)))
whole_order (negsuc a) (pos b) = inr (inl (omega (arith, ints)))
whole_order (negsuc a) (negsuc b) = elim (cases_order a b) [ inl e ↦ inl (ap negsuc e) | inr h ↦ inr (elim h [ inl l ↦ inr (omega (arith, ints, l)) | inr l ↦ inl (omega (arith, ints, l)) ]) ]

-- whether one is at most another
pub decide_le : (a b : ℤ) → Decided (a ≤ℤ b)
decide_le a b = elim (whole_order b a) [ inl e ↦ inl (omega (arith, ints, e)) | inr h ↦ elim h [ inl l ↦ inr (λ le. omega (arith, ints, l, le)) | inr l ↦ inl (omega (arith, ints, l)) ] ]
