-- The labels of a procedure as far as it has been read.
use Rattle.std.proofs.Common.{◌≡◌, ℕ, zero, suc, ◌-◌, List, [], ◌∷◌, length, nat_eq, refl, sym, ap, ◌∙◌, rules, arith}
use Rattle.std.specs.Prelude.{Some, None}
use Rattle.std.specs.List.{slice_get}
use Rattle.std.proofs.lemmas.Option.{none-some}
use Rattle.burr_container.specs.Rules.Plans.{Frame}
use Rattle.burr_asm.specs.Views.Routines.{ends_at}

some_same : {A : Type 0} (x y : A) → Some x ≡ Some y → x ≡ y
some_same x y e = search rules

-- a label whose number is the last tells whether the labels end there
last_is : (size i : ℕ) (labels : List (ℕ × Frame)) (label : ℕ × Frame) → suc i ≡ length labels → Some label ≡ slice_get labels i → nat_eq label.0 size ≡ ends_at size labels
last_is size zero (first ∷ []) label e is = ap (λ (l : ℕ × Frame). nat_eq l.0 size) (some_same label first is)
last_is size (suc i) (first ∷ next ∷ labels) label e is = last_is size i (next ∷ labels) label (omega (arith, e)) is
last_is size _ _ label e is = absurd (omega (arith, e))

-- and so does the last of some labels, as the code reads it
pub last_ends : (size position : ℕ) (labels all : List (ℕ × Frame)) (label : ℕ × Frame) → position ≡ label.0 → all ≡ labels → Some label ≡ slice_get all (length all - 1) → nat_eq position size ≡ ends_at size labels
last_ends size position labels all label read same is =
    ap (λ (n : ℕ). nat_eq n size) read ∙ by all is ∙ ap (ends_at size) same
  where
    by : (xs : List (ℕ × Frame)) → Some label ≡ slice_get xs (length xs - 1) → nat_eq label.0 size ≡ ends_at size xs
    by [] e = absurd (none-some label (sym e))
    by (first ∷ rest) e = last_is size (length rest) (first ∷ rest) label refl
        (e ∙ ap (slice_get (first ∷ rest)) (omega arith))
