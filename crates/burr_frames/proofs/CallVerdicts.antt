-- What a call comes to, by what was found on the way.
use Rattle.std.proofs.Common.{◌≡◌, ℕ, ◌+◌, ◌≤◌, List, length, drop, Some, ◌∙◌, sym, ap, subst, inl, inr}
use Rattle.std.specs.Prelude.{reverse}
use Rattle.std.proofs.lemmas.List.{reverse-reverse}
use Rattle.burr_code.specs.Stacks.{top_many}
use Rattle.burr_forms.specs.Rules.Forms.{Form, substituted, minus_form, one_less, IsSmallForm}
use Rattle.burr_container.specs.Rules.Plans.{Frame}
use Rattle.burr_frames.specs.declared.rule.Rule.TheVariants as rules
use Rattle.burr_frames.specs.Rules.States.{AbstractState}
use Rattle.burr_frames.specs.Rules.Verdicts.{Verdict, Breaks, FallsThrough, meeting}
use Rattle.burr_frames.specs.declared.rule.Break.{Break}
use Rattle.burr_frames.specs.Views.Breaks.{broken_of}
use Rattle.burr_frames.specs.Rules.FramedPlans.{FramedExit}
use Rattle.burr_frames.specs.Rules.ControlRules.{calling, called_with, left_of, paying_call, after_call, HasRoomForSymbols}
use Rattle.burr_frames.specs.Views.CallViews.{IsSmallAfter, IsSmallPrice, CannotGoAfter, IsPaidBeside, CannotPayBeside}

-- what is paid for a call with these arguments, and the state after
abbrev pub PaysCall : AbstractState → List Form → FramedExit → Form → Verdict → Type 0
PaysCall s arguments exit cost v =
    paying_call s (after_call s arguments (drop (length arguments) s.operands) exit) cost v

-- there is no state after
pub cannot_go_after : (s after : AbstractState) (cost : Form) (b : Break) → CannotGoAfter after b
    → paying_call s after cost (Breaks (broken_of b))
cannot_go_after s after cost b (inl (none, e)) = inl (none, ap Breaks e)
cannot_go_after s after cost b (inr (room, large, e)) = inr (room, inl (large, ap Breaks e))

-- there is one, and it can't be paid
pub cannot_pay : (s after : AbstractState) (cost : Form) (b : Break) → HasRoomForSymbols after → IsSmallAfter after
    → CannotPayBeside s cost b → paying_call s after cost (Breaks (broken_of b))
cannot_pay s after cost b room small (inl (large, e)) =
    inr (
      room,
      inr (
        small,
        inl (λ price. large (record { callee = price.0; less = price.1; rest = price.2 }), ap Breaks e),
      ),
    )
cannot_pay s after cost b room small (inr (price, point, first, e)) =
    inr (room, inr (small, inr ((price.callee, price.less, price.rest), inl (point, first, ap Breaks e))))

-- it is paid
pub paid_call : (s after : AbstractState) (cost left : Form) (new : AbstractState) → HasRoomForSymbols after
    → IsSmallAfter after → IsPaidBeside s cost left → new ≡ record after { cost = left }
    → paying_call s after cost (FallsThrough new)
paid_call s after cost left new room small paid e =
    inr (
      room,
      inr (
        small,
        inr (
          (paid.small.callee, paid.small.less, paid.small.rest),
          inr (paid.enough, ap FallsThrough (e ∙ ap (λ (c : Form). record after { cost = c }) paid.is)),
        ),
      ),
    )

-- the price by the forms of the code
pub price_is : (s : AbstractState) (price made callee cost less left : Form) → made ≡ price → cost ≡ s.cost
    → (callee ≡ made) × IsSmallForm made → (less ≡ one_less cost) × IsSmallForm (one_less cost)
    → (left ≡ minus_form less callee) × IsSmallForm (minus_form less callee) → (left ≡ left_of s.cost price) × IsSmallPrice s price
price_is s price made callee cost less left priced costs a b rest =
    let whole : minus_form less callee ≡ left_of s.cost price = λ i. minus_form ((b.0 ∙ ap one_less costs) i) ((a.0 ∙ priced) i) in (
      rest.0 ∙ whole,
      record { callee = subst IsSmallForm priced a.1; less = subst IsSmallForm (ap one_less costs) b.1; rest = subst IsSmallForm whole rest.1 },
    )

-- the entry frame is asked for with arguments, the last of them first, and what follows by them
abbrev AtEntry : AbstractState → ℕ → Frame → FramedExit → List Form → Verdict → List Form → Type 0
AtEntry s count entry exit turned v arguments =
    meeting (called_with turned s) entry rules.EntryMissed
    (λ live. paying_call s (after_call s arguments (drop count s.operands) exit) (substituted live entry.cost)) v

pub calling_on : (s : AbstractState) (count : ℕ) (entry : Frame) (exit : FramedExit) (arguments : List Form) (v : Verdict)
    → length (drop count s.operands) + length exit.results ≤ 8 → length arguments ≡ count
    → top_many count s.operands ≡ Some (reverse arguments, drop count s.operands)
    → meeting (called_with (reverse arguments) s) entry rules.EntryMissed
    (λ live. PaysCall s arguments exit (substituted live entry.cost)) v
    → calling s count (length exit.results) entry exit v
calling_on s count entry exit arguments v room many found h =
    inr (
      (reverse arguments, drop count s.operands),
      found,
      inr (
        room,
        subst (AtEntry s count entry exit (reverse arguments) v) (sym (reverse-reverse arguments))
            (subst (λ (n : ℕ). AtEntry s n entry exit (reverse arguments) v arguments) many h),
      ),
    )
