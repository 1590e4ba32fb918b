-- What a broken rule of the code stands for, and what a call of a rule says of the verdict.
use Rattle.std.specs.Prelude.{◌≡◌, ◌⊎◌, ⊤, ℕ, ◌≤◌, pos, ◌≤ℤ◌, get_or, Option, Some, None, Result, Ok, Err, MatchResult, option_map}
use Rattle.burr_forms.specs.Rules.Forms.{Form, Point, value, one_less, IsSmallForm}
use Rattle.burr_container.specs.declared.frame_ref.FrameRef.{FrameRef}
use Rattle.burr_container.specs.Views.Refs.{frame_of}
use Rattle.burr_frames.specs.Rules.FramedPlans.{FramedProcedure, framed}
use Rattle.burr_frames.specs.declared.rule.Rule.{Rule}
use Rattle.burr_frames.specs.declared.rule.Rule.TheVariants as rules
use Rattle.burr_frames.specs.declared.rule.Break.{Break}
use Rattle.burr_frames.specs.Rules.States.{AbstractState, Everywhere, IsFirstFailing}
use Rattle.burr_frames.specs.Rules.Verdicts.{Broken, Verdict, Breaks, FallsThrough, NoSuccessor, arriving, no_successor}

abbrev pub broken_of : Break → Broken
broken_of b = record {
  rule = b.rule;
  pieces = b.pieces;
  point = option_map (λ point. point.items) b.point;
}

-- a rule that is broken without regard to points, and one that is broken at a point
abbrev pub plain_break : Rule → Broken
plain_break rule = record { rule = rule; pieces = None; point = None }

abbrev pub break_at : Rule → Point → Broken
break_at rule point = record { rule = rule; pieces = None; point = Some point }

-- a rule that is broken at this point, or without regard to points
abbrev pub missed_break : Rule → Option Point → Broken
missed_break rule point = record { rule = rule; pieces = None; point = point }

-- something of this kind is found, or the rule is broken
abbrev pub FindsOrBreaks : {A : Type 0} → (A → Type 0) → Type 0 → Rule → Result A Break → Type 0
FindsOrBreaks Found Missing rule result =
    MatchResult result Found (λ b. Missing × (broken_of b ≡ plain_break rule))

-- control falls out with this state, or a rule is broken
abbrev pub next_verdict : AbstractState → Result ⊤ Break → Verdict
next_verdict s (Ok _) = FallsThrough s
next_verdict s (Err b) = Breaks (broken_of b)

-- control goes on with the state that is given, or a rule is broken
abbrev pub branch_verdict : Result AbstractState Break → Verdict
branch_verdict (Ok s) = FallsThrough s
branch_verdict (Err b) = Breaks (broken_of b)

-- no state is left after, or a rule is broken
abbrev pub last_verdict : Result ⊤ Break → Verdict
last_verdict (Ok _) = NoSuccessor
last_verdict (Err b) = Breaks (broken_of b)

-- the condition holds at each point of the state, or the rule is broken at the first at which it
-- doesn't
abbrev pub HoldsOrBreaks : AbstractState → (Point → Type 0) → Rule → Result ⊤ Break → Type 0
HoldsOrBreaks s P rule result =
    MatchResult result (λ _. Everywhere s P)
    (λ b. (point : Point) × IsFirstFailing s P point × (broken_of b ≡ break_at rule point))

-- the step can't be paid for, and the break says why
abbrev pub CannotPay : AbstractState → Break → Type 0
CannotPay s b =
    ((¬ IsSmallForm (one_less s.cost)) × (broken_of b ≡ plain_break rules.FormTooLarge))
    ⊎ (IsSmallForm (one_less s.cost) × (point : Point)
    × IsFirstFailing s (λ x. pos 0 ≤ℤ value x (one_less s.cost)) point
    × (broken_of b ≡ break_at rules.CostTooLow point))

-- the cost after one step, which is paid for
pub record IsPaid (s : AbstractState) (cost : Form) : Type 0 where
  pub is : cost ≡ one_less s.cost
  pub small : IsSmallForm cost
  pub enough : Everywhere s (λ point. pos 0 ≤ℤ value point (one_less s.cost))

abbrev pub Pays : AbstractState → Result Form Break → Type 0
Pays s result = MatchResult result (IsPaid s) (CannotPay s)

-- the form in slot v; or the rule that is broken: the slot is a parameter, or has no form
abbrev pub FindsCounter : FramedProcedure → AbstractState → ℕ → Result Form Break → Type 0
FindsCounter here s v result =
    MatchResult result
    (λ f. (here.parameters ≤ v) × (get_or s.slots v None ≡ Some f))
    (λ b. ((¬ (here.parameters ≤ v)) × (broken_of b ≡ plain_break rules.ParamWritten))
    ⊎ ((here.parameters ≤ v) × (get_or s.slots v None ≡ None) × (broken_of b ≡ plain_break rules.EmptySlot)))

-- The state arrives at a frame, or does not; nothing is said of what follows.
abbrev pub ArrivesOrBreaks : AbstractState → FrameRef → Result ⊤ Break → Type 0
ArrivesOrBreaks s f result = arriving s (framed (frame_of f)) no_successor (last_verdict result)
