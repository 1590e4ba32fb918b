-- What a rule of the verifier comes to, and the checks that rules are made of.
use Rattle.std.specs.Prelude.{◌≡◌, ◌⊎◌, ℕ, ◌<◌, pos, ◌≤ℤ◌, List, [], ◌∷◌, Option, Some, None}
use Rattle.burr_text.specs.Checks.{needs, finds}
use Rattle.burr_forms.specs.Rules.Forms.{Form, Point, value, values, one_less, IsSmallForm}
use Rattle.burr_container.specs.Rules.Plans.{Frame}
use Rattle.burr_frames.specs.declared.rule.Rule.{Rule}
use Rattle.burr_frames.specs.declared.rule.Rule.TheVariants as rules
use Rattle.burr_frames.specs.Rules.States.{AbstractState, Everywhere, IsFirstFailing, state_of}
use Rattle.burr_frames.specs.Rules.Arrival.{live_forms, IsAlike, Agrees}

-- a rule that does not hold, and where
pub record Broken : Type 0 where
  pub rule : Rule
  pub pieces : Option (ℕ × ℕ)
  pub point : Option Point

-- what a rule comes to
pub data Verdict : Type 0 where
  Breaks : (broken : Broken) → Verdict
  -- control falls out with this state
  FallsThrough : (s : AbstractState) → Verdict
  -- no state is left after
  NoSuccessor : Verdict

abbrev pub plainly : Rule → Verdict
plainly rule = Breaks (record { rule = rule; pieces = None; point = None })

abbrev pub at_point : Rule → Point → Verdict
at_point rule point = Breaks (record { rule = rule; pieces = None; point = Some point })

abbrev pub at_pair : Rule → Point → ℕ → ℕ → Verdict
at_pair rule point p q = Breaks (record { rule = rule; pieces = Some (p, q); point = Some point })

-- what the checks that follow say of the verdict
abbrev pub Rest : Type 1
Rest = Verdict → Type 0

abbrev pub falls_through : AbstractState → Rest
falls_through s verdict = verdict ≡ FallsThrough s

abbrev pub no_successor : Rest
no_successor verdict = verdict ≡ NoSuccessor

-- At every point

-- At the first point at which the condition does not hold, this failure; where it holds at every
-- point, what follows.
abbrev pub everywhere : AbstractState → (Point → Type 0) → Rule → Rest → Rest
everywhere s P rule rest verdict =
    ((point : Point) × IsFirstFailing s P point × (verdict ≡ at_point rule point))
    ⊎ (Everywhere s P × rest verdict)

-- the first pair for which a condition fails
abbrev pub IsFirstPair : (ℕ → ℕ → Type 0) → ℕ → ℕ → Type 0
IsFirstPair P p q = (¬ P p q) × ((r t : ℕ) → (r < p) ⊎ ((r ≡ p) × (t < q)) → P r t)

-- The same, of a condition on pairs of pieces: the first point, and there the first pair.
abbrev pub everywhere_of_pairs : AbstractState → (Point → ℕ → ℕ → Type 0) → Rule → Rest → Rest
everywhere_of_pairs s P rule rest verdict =
    ((point : Point) × (p q : ℕ) × IsFirstFailing s (λ x. (r t : ℕ) → P x r t) point
    × IsFirstPair (P point) p q × (verdict ≡ at_pair rule point p q))
    ⊎ (Everywhere s (λ x. (r t : ℕ) → P x r t) × rest verdict)

-- Costs

-- One step is paid for: the cost is one less, and negative at no point.
abbrev pub paying : AbstractState → (AbstractState → Rest) → Rest
paying s rest =
    needs (IsSmallForm (one_less s.cost)) (plainly rules.FormTooLarge)
    (everywhere s (λ point. pos 0 ≤ℤ value point (one_less s.cost)) rules.CostTooLow
    (rest (record s { cost = one_less s.cost })))

-- Frames

-- The state meets a frame; what follows gets the forms in its live slots.
abbrev pub meeting : AbstractState → Frame → Rule → (List Form → Rest) → Rest
meeting s f rule rest =
    finds (live_forms f.slots s.slots) (plainly rule) λ forms.
    needs (IsAlike s (state_of f)) (plainly rule)
    (everywhere s (λ point. Agrees s point (state_of f) (values point forms)) rule (rest forms))

-- at this point the state agrees with the frame, and its cost is at least the frame's
abbrev pub AgreesAtCost : AbstractState → Frame → List Form → Point → Type 0
AgreesAtCost s f forms point =
    Agrees s point (state_of f) (values point forms)
    × (value (values point forms) f.cost ≤ℤ value point s.cost)

-- The state arrives at a frame, its cost included.
abbrev pub arriving : AbstractState → Frame → Rest → Rest
arriving s f rest =
    finds (live_forms f.slots s.slots) (plainly rules.FrameMissed) λ forms.
    needs (IsAlike s (state_of f)) (plainly rules.FrameMissed)
    (everywhere s (AgreesAtCost s f forms) rules.FrameMissed rest)

-- the state arrives at each of these frames
abbrev pub arriving_at_all : AbstractState → List (ℕ × Frame) → Rest → Rest
arriving_at_all s [] rest = rest
arriving_at_all s (label ∷ labels) rest = arriving s label.1 (arriving_at_all s labels rest)
