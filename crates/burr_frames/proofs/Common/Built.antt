-- For crates above: each rule is built of checks in their order, all of them decided, and of ends.
use Rattle.std.proofs.Common.{◌≡◌, ◌⊎◌, ℕ, ◌+◌, List, [], ◌∷◌, length, Some, refl, sym, ap, subst, ◌∙◌, inl, inr}
use Rattle.std.specs.Prelude.{pos, neg_ℤ, ◌≤ℤ◌, ◌++◌, map, reverse}
use Rattle.burr_text.proofs.Common.Decisions.{Decided, decided_and, decided_and_three, decided_not, decide_same, decide_below, decide_at_most}
use Rattle.burr_voxels.specs.declared.cell.Cell.{Cell}
use Rattle.burr_voxels.proofs.Common.Decided.{decide_overlap, decide_free}
use Rattle.burr_code.specs.declared.placement.Placement.{Placement}
use Rattle.burr_code.specs.Places.{tray_of}
use Rattle.burr_code.specs.Instruction.{Instruction, Halt, Push, Load, Store, Add, Sub, Drop, Grip, Step, Aside, Tray, Jump, Down, Ask, Pick, Call, Ret, IsInNumberRange}
use Rattle.burr_code.proofs.Common.OneAnswer.{IsOne}
use Rattle.burr_code.proofs.Common.Orders.{decide_le}
use Rattle.burr_code.proofs.Common.Conditions.{decide_all_lie, decide_all_apart, decide_part_of_tray, decide_empty_tray}
use Rattle.burr_forms.specs.Rules.Forms.{Form, Point, value, values, one_less, plus_form, minus_form, substituted}
use Rattle.burr_container.specs.Rules.Plans.{FormCell, Frame}
use Rattle.burr_frames.specs.declared.rule.Rule.{Rule}
use Rattle.burr_frames.specs.Rules.FramedPlans.{FramedExit, FramedProcedure, FramedPlan}
use Rattle.burr_frames.specs.Rules.States.{AbstractState, Everywhere, IsFirstFailing, state_of, places_at}
use Rattle.burr_frames.specs.Rules.Arrival.{live_forms}
use Rattle.burr_frames.specs.Rules.Looks.{HasRoom}
use Rattle.burr_frames.specs.Rules.Verdicts.{Verdict, at_point, at_pair, Breaks, FallsThrough, NoSuccessor, Rest, everywhere, everywhere_of_pairs, falls_through, no_successor, paying, meeting, arriving, arriving_at_all, IsFirstPair}
use Rattle.burr_frames.specs.Rules.SpaceRules.{moved, PairAt, DoesNotOverlap, GoesFree}
use Rattle.burr_frames.specs.Rules.ControlRules.{after_call, paying_call, left_of, MeetsExitAt}
use Rattle.burr_frames.specs.Rules.QuestionRules.{with_symbol}
use Rattle.burr_frames.specs.Rules.Transfer.{Transfer}
use Rattle.burr_frames.proofs.Common.Over.{over_number, over_plus, over_minus, over_times, top_over, top_two_over, moved_over, aside_over}
use Rattle.burr_frames.proofs.Common.Tidy.{Keeps, new_operands, new_places, new_slot, new_guard, new_symbol, new_results}
use Rattle.burr_frames.proofs.Common.Search.{decide_in_box, decide_guards, first_failing, first_pair}
use Rattle.burr_code.proofs.Common.Checked.{HasOne, IsBuilt, checked, looked_up, needed, ends}
use Rattle.burr_frames.proofs.Common.FirstPoints.{one_first_point, one_first_pair}
use Rattle.burr_frames.proofs.Common.Decided.{decide_small_form, decide_small_forms, decide_small_places, decide_room, decide_on_bench, decide_pair, pair_past_p, pair_past_q, decide_alike, decide_agrees, decide_same_trays, decide_same_places}

-- the first pair for which a condition fails, or it holds for each
abbrev pub FirstPair : (ℕ → ℕ → Type 0) → Type 0
FirstPair P = ((p q : ℕ) × IsFirstPair P p q) ⊎ ((p q : ℕ) → P p q)

-- Conditions at every point

-- a condition fails first at one point, if at any
at_points : {Ends : Verdict → Type 0} (s : AbstractState) {P : Point → Type 0} {rule : Rule} {rest : Rest}
    → ((point : Point) → Decided (P point)) → (Everywhere s P → IsBuilt Breaks Ends rest)
    → IsBuilt Breaks Ends (everywhere s P rule rest)
at_points s {P} {rule} each f =
    checked (record {
      either = elim (first_failing s P each) [ inl found ↦ inl (at_point rule found.0, (found.0, found.1, refl)) | inr all ↦ inr all ];
      one = λ x y p q. p.2 ∙ ap (λ (point : Point). at_point rule point) (one_first_point s P p.0 q.0 p.1 q.1) ∙ sym q.2;
      apart = λ v failed all. failed.1.fails (all failed.0 failed.1.is_point);
      cause = λ v failed. (_, failed.2);
    }) f

-- one of pairs fails so
abbrev FailsOfPairs : AbstractState → (Point → ℕ → ℕ → Type 0) → Rule → Verdict → Type 0
FailsOfPairs s P rule v =
    (point : Point) × (p q : ℕ) × IsFirstFailing s (λ x. (r t : ℕ) → P x r t) point × IsFirstPair (P point) p q
    × (v ≡ at_pair rule point p q)

one_of_pairs : (s : AbstractState) (P : Point → ℕ → ℕ → Type 0) (rule : Rule) → IsOne (FailsOfPairs s P rule)
one_of_pairs s P rule x y p q =
    let same : p.0 ≡ q.0 = one_first_point s (λ x. (r t : ℕ) → P x r t) p.0 q.0 p.3 q.3 in
    let first = subst (λ (point : Point). IsFirstPair (P point) p.1 p.2) same p.4 in
    let pair = one_first_pair (P q.0) p.1 p.2 q.1 q.2 first q.4 in
    p.5 ∙ (λ i. at_pair rule (same i) (pair.0 i) (pair.1 i)) ∙ sym q.5

decide_of_pairs : (s : AbstractState) (P : Point → ℕ → ℕ → Type 0) (rule : Rule) → ((point : Point) → FirstPair (P point))
    → HasOne (FailsOfPairs s P rule) ⊎ Everywhere s (λ x. (r t : ℕ) → P x r t)
decide_of_pairs s P rule each = elim (first_failing s (λ x. (r t : ℕ) → P x r t) some_pair) [
  | inl (point, first) ↦ inl (elim (each point) [
    | inl (p, q, pair) ↦ (at_pair rule point p q, (point, p, q, first, pair, refl))
    | inr all ↦ absurd (first.fails all)
  ])
  | inr all ↦ inr all
]
  where
    some_pair : (x : Point) → Decided ((r t : ℕ) → P x r t)
    some_pair x = elim (each x) [ inl found ↦ inr (λ all. found.2.0 (all found.0 found.1)) | inr all ↦ inl all ]

of_pairs : {Ends : Verdict → Type 0} (s : AbstractState) {P : Point → ℕ → ℕ → Type 0} {rule : Rule} {rest : Rest}
    → ((point : Point) → FirstPair (P point)) → IsBuilt Breaks Ends rest
    → IsBuilt Breaks Ends (everywhere_of_pairs s P rule rest)
of_pairs s {P} {rule} each built =
    checked (record {
      either = decide_of_pairs s P rule each;
      one = one_of_pairs s P rule;
      apart = λ v failed all. failed.3.fails (all failed.0 failed.3.is_point);
      cause = λ v failed. (_, failed.5);
    }) λ all. built

-- What rules are made of

-- a step is paid for at each point
abbrev pub PaysOne : AbstractState → Type 0
PaysOne s = Everywhere s (λ point. pos 0 ≤ℤ value point (one_less s.cost))

-- `rest` is what follows for the state whose cost is paid
pub built_paid : {Ends : Verdict → Type 0} (s : AbstractState) {rest : Rest} → (PaysOne s → IsBuilt Breaks Ends rest)
    → IsBuilt Breaks Ends (paying s (λ paid. rest))
built_paid s f =
    needed (decide_small_form (one_less s.cost)) λ c.
    at_points s (λ point. decide_le (pos 0) (value point (one_less s.cost))) f

built_meeting : {Ends : Verdict → Type 0} (s : AbstractState) (f : Frame) {rule : Rule} {rest : List Form → Rest}
    → ((forms : List Form) → live_forms f.slots s.slots ≡ Some forms → IsBuilt Breaks Ends (rest forms))
    → IsBuilt Breaks Ends (meeting s f rule rest)
built_meeting s f each =
    looked_up λ forms is. needed (decide_alike s (state_of f)) λ alike.
    at_points s (λ point. decide_agrees s point (state_of f) (values point forms)) λ agrees. each forms is

pub built_arriving : {Ends : Verdict → Type 0} (s : AbstractState) (f : Frame) {rest : Rest} → IsBuilt Breaks Ends rest
    → IsBuilt Breaks Ends (arriving s f rest)
built_arriving s f built =
    looked_up λ forms is. needed (decide_alike s (state_of f)) λ alike.
    at_points s (λ point. decided_and (decide_agrees s point (state_of f) (values point forms))
    (decide_le (value (values point forms) f.cost) (value point s.cost))) λ agrees. built

built_arriving_at_all : {Ends : Verdict → Type 0} (s : AbstractState) (labels : List (ℕ × Frame)) {rest : Rest}
    → IsBuilt Breaks Ends rest → IsBuilt Breaks Ends (arriving_at_all s labels rest)
built_arriving_at_all s [] built = built
built_arriving_at_all s (label ∷ labels) built = built_arriving s label.1 (built_arriving_at_all s labels built)

decide_value_number : (f : Form) (point : Point) → Decided (IsInNumberRange (value point f))
decide_value_number f point = decided_and (decide_le _ _) (decide_le _ _)

built_pairs : {Ends : Verdict → Type 0} (Good : List Cell → List Cell → Type 0)
    → ((a b : List Cell) → Decided (Good a b)) → (homes : List (List Cell)) (places : List (Placement FormCell))
    (s : AbstractState) {rule : Rule} {rest : Rest} → IsBuilt Breaks Ends rest
    → IsBuilt Breaks Ends (everywhere_of_pairs s (PairAt Good homes places s.tray s.grip) rule rest)
built_pairs Good each homes places s built =
    of_pairs s (λ point. first_pair (PairAt Good homes places s.tray s.grip point)
    (λ p q. decide_pair Good each homes places s.tray s.grip point p q) (length places)
    (λ p q far. pair_past_p Good homes places s.tray s.grip point p q far)
    (λ p q far. pair_past_q Good homes places s.tray s.grip point p q far)) built

-- whether the values of a procedure's return meet its exit frame
decide_exit : (s : AbstractState) (exit : FramedExit) (parameters results : List Form) (point : Point)
    → Decided (MeetsExitAt s exit parameters results point)
decide_exit s exit parameters results point =
    decided_and_three (decide_in_box exit.results (values point results))
    (decide_guards exit.guards (values point (parameters ++ results)))
    (decide_same_places (places_at point s.places) (places_at (values point (parameters ++ results)) exit.places))

-- where a call is paid, its state after given
built_paid_call : {Ends : Verdict → Type 0} (s after : AbstractState) (callee_cost : Form)
    → (HasRoom after → IsBuilt Breaks Ends (falls_through (record after { cost = left_of s.cost callee_cost })))
    → IsBuilt Breaks Ends (paying_call s after callee_cost)
built_paid_call s after callee_cost f =
    needed (decide_room after) λ room.
    needed (decided_and (decide_small_places after.places) (decide_small_forms after.guards)) λ small.
    needed (decided_and_three (decide_small_form callee_cost) (decide_small_form (one_less s.cost))
    (decide_small_form (left_of s.cost callee_cost))) λ costs.
    at_points s (λ point. decide_le (pos 0) (value point (left_of s.cost callee_cost))) λ enough. f room.2

-- The rules

-- what falls out keeps what the state before has
abbrev pub KeepsAll : AbstractState → Verdict → Type 0
KeepsAll s (Breaks b) = Unit {0}
KeepsAll s (FallsThrough t) = Keeps s t
KeepsAll s NoSuccessor = Unit {0}

-- a step is paid for; of a call, it and what the callee costs
abbrev pub IsPaid : AbstractState → Instruction → Type 0
IsPaid s (Call callee) = Unit {0}
IsPaid s i = PaysOne s

-- Each rule is built, and this is so where it doesn't break.
pub transfer_is_built : (homes : List (List Cell)) (plan : FramedPlan) (n : ℕ) (here : FramedProcedure) (s : AbstractState)
    (i : Instruction) → IsBuilt Breaks (λ v. KeepsAll s v × IsPaid s i) (Transfer homes plan n here s i)
transfer_is_built homes plan n here s Halt =
    needed (decide_same n 0) λ main. needed (decide_all_apart s.places) λ apart. built_paid s λ paid. ends (tt, paid)
transfer_is_built homes plan n here s (Push x) =
    needed (decide_below (length s.operands) 8) λ c. built_paid s λ paid.
    ends (new_operands λ tidy. (over_number _ x, tidy.operands), paid)
transfer_is_built homes plan n here s (Load v) =
    looked_up λ f is. needed (decide_below (length s.operands) 8) λ c. built_paid s λ paid.
    ends (new_operands λ tidy. (tidy.slots v f is, tidy.operands), paid)
transfer_is_built homes plan n here s (Store v) =
    needed (decide_at_most here.parameters v) λ c. looked_up λ found is. built_paid s λ paid.
    ends (new_slot v found is, paid)
transfer_is_built homes plan n here s Add =
    looked_up λ found is. needed (decide_small_form (plus_form found.1 found.0)) λ c.
    at_points s (λ point. decide_value_number (plus_form found.1 found.0) point) λ numbers. built_paid s λ paid.
    ends (new_operands λ tidy. top_two_over _ plus_form (over_plus _) s.operands found is tidy.operands, paid)
transfer_is_built homes plan n here s Sub =
    looked_up λ found is. needed (decide_small_form (minus_form found.1 found.0)) λ c.
    at_points s (λ point. decide_value_number (minus_form found.1 found.0) point) λ numbers. built_paid s λ paid.
    ends (new_operands λ tidy. top_two_over _ minus_form (over_minus _) s.operands found is tidy.operands, paid)
transfer_is_built homes plan n here s Drop =
    looked_up λ found is. built_paid s λ paid.
    ends (new_operands λ tidy. (top_over _ s.operands found is tidy.operands).1, paid)
transfer_is_built homes plan n here s (Grip group) =
    needed (decide_all_lie s.places s.tray group) λ c. built_paid s λ paid. ends (new_places λ tidy. tidy.places, paid)
transfer_is_built homes plan n here s (Step direction) =
    needed (decided_not (decide_same s.grip 0)) λ c.
    needed (decide_small_places (moved s.grip direction s.places)) λ small.
    at_points s (λ point. decide_on_bench (moved s.grip direction s.places) s.tray point) λ on.
    built_pairs DoesNotOverlap (λ a b. decided_not (decide_overlap a b)) homes (moved s.grip direction s.places) s
    (built_paid s λ paid. ends (new_places λ tidy. moved_over _ s.grip direction s.places tidy.places, paid))
transfer_is_built homes plan n here s (Aside direction tray) =
    needed (decide_part_of_tray s.grip s.places s.tray) λ c. needed (decide_empty_tray s.places tray) λ empty.
    at_points s (λ point. decide_on_bench s.places s.tray point) λ on.
    built_pairs (GoesFree direction) (λ a b. decide_free a b direction) homes s.places s
    (built_paid s λ paid. ends (new_places λ tidy. aside_over _ s.grip s.tray tray s.places tidy.places, paid))
transfer_is_built homes plan n here s (Tray tray) =
    built_paid s λ paid. ends (new_places λ tidy. tidy.places, paid)
transfer_is_built homes plan n here s (Jump label) =
    looked_up λ to is. built_paid s λ paid. built_arriving _ to.1 (ends (tt, paid))
transfer_is_built homes plan n here s (Down v label) =
    looked_up λ to is. needed (decide_at_most here.parameters v) λ c. looked_up λ f is.
    needed (decide_small_form (one_less f)) λ small. at_points s (λ point. decide_le (pos 0) (value point f)) λ count.
    needed (decide_below (length s.guards) 8) λ guards. built_paid s λ paid.
    built_arriving _ to.1 (ends (new_guard _ λ tidy. over_times _ (neg_ℤ (pos 1)) f (tidy.slots v f is), paid))
transfer_is_built homes plan n here s (Ask low high) =
    needed (decide_below (length s.operands) 8) λ c. needed (decide_room (with_symbol low high s)) λ room.
    built_paid s λ paid. ends (new_symbol low high room.2, paid)
transfer_is_built homes plan n here s (Pick labels) =
    looked_up λ to is. built_paid s λ paid. built_arriving_at_all _ to (ends (tt, paid))
transfer_is_built homes plan n here s (Call callee) =
    looked_up λ there at. looked_up λ exit has. looked_up λ entry first. looked_up λ found taken.
    needed (decide_at_most (length found.1 + there.results) 8) λ c. built_meeting _ entry λ arguments known.
    built_paid_call s (after_call s (reverse found.0) found.1 exit) (substituted arguments entry.cost)
    λ room. ends (new_results there.parameters entry exit taken known room, tt)
transfer_is_built homes plan n here s Ret =
    looked_up λ exit has. looked_up λ parameters known. looked_up λ found taken. built_paid s λ paid.
    needed (decided_and_three (decide_same s.tray exit.tray) (decide_same s.grip exit.grip)
    (decide_same_trays (map tray_of s.places) (map tray_of exit.places))) λ alike.
    at_points s (λ point. decide_exit s exit parameters (reverse found.0) point) λ meets. ends (tt, paid)

-- a state that arrives, and nothing after
pub arriving_is_built : (s : AbstractState) (f : Frame) → IsBuilt Breaks (λ v. Unit {0}) (arriving s f no_successor)
arriving_is_built s f = built_arriving s f (ends tt)
