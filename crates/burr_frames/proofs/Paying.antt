-- What a step costs, and conditions on one form.
use Rattle.std.proofs.Common.{[], ◌∷◌, ap, subst, inl, inr, ℤ}
use Rattle.std.specs.Prelude.{pos, ◌≤ℤ◌}
use Rattle.std.proofs.lemmas.List.Elements.{All-nil, All-cons, All-head}
use Rattle.burr_forms.specs.Rules.Forms.{Form, Point, value, IsSmallForm}
use Rattle.burr_forms.specs.Rules.Conditions.{Region, at_values, NoneNegative, Throughout, FailsFirstAt}
use Rattle.burr_frames.specs.declared.rule.Break.{Break}
use Rattle.burr_frames.specs.Rules.States.{AbstractState}
use Rattle.burr_frames.specs.Rules.Verdicts.{Verdict, Breaks, Rest, paying}
use Rattle.burr_frames.specs.Views.Breaks.{broken_of, IsPaid, CannotPay}

-- One form

one_not_negative : (n : ℤ) → NoneNegative (n ∷ []) → pos 0 ≤ℤ n
one_not_negative n none = All-head (λ m. pos 0 ≤ℤ m) n [] none

none_negative : (n : ℤ) → pos 0 ≤ℤ n → NoneNegative (n ∷ [])
none_negative n l = All-cons (λ m. pos 0 ≤ℤ m) n [] l (All-nil (λ m. pos 0 ≤ℤ m))

pub never_negative : (r : Region) (f : Form) → Throughout r (at_values NoneNegative (f ∷ []))
    → Throughout r (λ point. pos 0 ≤ℤ value point f)
never_negative r f all = λ point is. one_not_negative (value point f) (all point is)

pub first_negative : (r : Region) (f : Form) (point : Point) → FailsFirstAt r (at_values NoneNegative (f ∷ [])) point
    → FailsFirstAt r (λ x. pos 0 ≤ℤ value x f) point
first_negative r f point first = record {
  is_point = first.is_point;
  fails = λ l. first.fails (none_negative (value point f) l);
  before = λ q is before. one_not_negative (value q f) (first.before q is before);
}

-- Paying

-- a step that is paid for, and what follows
pub paying_on : (s : AbstractState) (cost : Form) (rest : AbstractState → Rest) (v : Verdict) → IsPaid s cost
    → rest (record s { cost = cost }) v → paying s rest v
paying_on s cost rest v paid h =
    inr (
      subst IsSmallForm paid.is paid.small,
      inr (paid.enough, subst (λ (c : Form). rest (record s { cost = c }) v) paid.is h),
    )

-- a step that can't be paid for, whatever follows
pub paying_breaks : (s : AbstractState) (b : Break) (rest : AbstractState → Rest) → CannotPay s b
    → paying s rest (Breaks (broken_of b))
paying_breaks s b rest (inl large) = inl (large.0, ap Breaks large.1)
paying_breaks s b rest (inr negative) = inr (negative.0, inl (negative.1, negative.2, ap Breaks negative.3))
