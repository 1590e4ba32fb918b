-- For crates above too: each instruction of a cut costs at least one.
use Rattle.std.proofs.Common.{◌≡◌, inl, inr, ℕ, zero, suc, ◌+◌, ◌<◌, ◌≤◌, Bool, true, false, List, [], ◌∷◌, length, Option, Some, None, refl, subst, arith}
use Rattle.std.specs.Prelude.{ℤ, pos, neg_ℤ, ◌+ℤ◌, ◌-ℤ◌, ◌≤ℤ◌, slice_get, nat_lt, if◌then◌else◌}
use Rattle.std.proofs.lemmas.Int.{ints}
use Rattle.std.proofs.lemmas.Option.{none-some, same_Some, slice_get_within}
use Rattle.burr_voxels.specs.declared.cell.Cell.{Cell}
use Rattle.burr_code.specs.Instruction.{Instruction, Call}
use Rattle.burr_code.specs.Labels.{callee_of}
use Rattle.burr_forms.specs.Rules.Forms.{Form, Point, value, values, one_less, substituted}
use Rattle.burr_container.specs.Rules.Plans.{Frame}
use Rattle.burr_frames.specs.Rules.FramedPlans.{FramedProcedure, FramedPlan}
use Rattle.burr_frames.specs.Rules.States.{AbstractState, IsPoint, Everywhere, state_of}
use Rattle.burr_frames.specs.Rules.ControlRules.{entry_of, left_of}
use Rattle.burr_frames.specs.Rules.Verdicts.{Verdict, Breaks, FallsThrough, NoSuccessor, Rest}
use Rattle.burr_frames.specs.Rules.Transfer.{Transfer}
use Rattle.burr_code.proofs.Common.Checked.{IsBuilt, fails_or_ends}
use Rattle.burr_frames.proofs.Common.Built.{transfer_is_built}
use Rattle.burr_verify.specs.Rules.WellFramed.{Annotated, after, FallsOut, IsCutFrom, IsCut}
use Rattle.burr_verify.proofs.Common.CallRule.{call_holds}
use Rattle.burr_frames.proofs.Common.FineVerdicts.{IsFine}
use Rattle.burr_frames.proofs.Common.FormValues.{value_raised, value_minus, value_substituted}
use Rattle.burr_verify.proofs.Common.FromContainers.{first_label}

-- each procedure of the plan has a cut
abbrev pub AllCut : List (List Cell) → FramedPlan → Type 0
AllCut homes plan =
    (n : ℕ) (here : FramedProcedure) → slice_get plan.procedures n ≡ Some here
    → (rows : List Annotated) × IsCut homes plan n here rows

-- every point of the state has a cost of at least one
abbrev pub CostsOne : AbstractState → Type 0
CostsOne s = Everywhere s (λ point. pos 1 ≤ℤ value point s.cost)

more_by_one : (a b : ℤ) → b ≡ (a +ℤ neg_ℤ (pos 1)) → pos 0 ≤ℤ b → pos 1 ≤ℤ a
more_by_one a b e h = omega (arith, ints)

from_one_less : (s : AbstractState) (point : Point) → IsPoint s point
    → ((q : Point) → IsPoint s q → pos 0 ≤ℤ value q (one_less s.cost)) → pos 1 ≤ℤ value point s.cost
from_one_less s point is enough =
    more_by_one (value point s.cost) (value point (one_less s.cost)) (value_raised (neg_ℤ (pos 1)) s.cost point)
    (enough point is)

-- Calls

more_than : (a b c : ℤ) → c ≡ ((a -ℤ pos 1) -ℤ b) → pos 0 ≤ℤ c → pos 1 ≤ℤ b → pos 1 ≤ℤ a
more_than a b c e h k = omega (arith, ints)

-- the cost after a call
pub cost_after : (cost : Form) (forms : List Form) (entry : Form) (x : Point)
    → value x (left_of cost (substituted forms entry)) ≡ ((value x cost -ℤ pos 1) -ℤ value (values x forms) entry)
cost_after cost forms entry x =
    let a = value_minus (one_less cost) (substituted forms entry) x in
    let c = value_substituted forms entry x in
    let d = value_raised (neg_ℤ (pos 1)) cost x in
    omega (arith, ints)

lt_true : (a b : ℕ) → nat_lt a b ≡ true → a < b
lt_true a b h = grind arith

-- a callee is of a higher number
callee_above : (ps : List FramedProcedure) (n q : ℕ) (there : FramedProcedure) → callee_of ps n q ≡ Some there
    → (n < q) × (slice_get ps q ≡ Some there)
callee_above ps n q there = by_test (nat_lt n q) refl
  where
    by_test : (c : Bool) → nat_lt n q ≡ c → (if c then slice_get ps q else None) ≡ Some there
        → (n < q) × (slice_get ps q ≡ Some there)
    by_test true is e = (lt_true n q is, e)
    by_test false is e = absurd (none-some _ e)

-- Cuts

-- the rule of an instruction of a cut
record RowRule (homes : List (List Cell)) (plan : FramedPlan) (n : ℕ) (here : FramedProcedure) (row : Annotated) : Type 0 where
  verdict : Verdict
  fine : IsFine verdict
  rule : Transfer homes plan n here row.state row.instruction verdict

pub fine_falls : (v : Verdict) (out : Option AbstractState) → FallsOut v out → IsFine v
fine_falls (Breaks b) out h = h
fine_falls (FallsThrough s) out h = tt
fine_falls NoSuccessor out h = tt

rule_at : (homes : List (List Cell)) (plan : FramedPlan) (n : ℕ) (here : FramedProcedure) (rows : List Annotated) (pc : ℕ)
    (falling : Option AbstractState) (k : ℕ) (row : Annotated) → IsCutFrom homes plan n here pc falling rows
    → slice_get rows k ≡ Some row → RowRule homes plan n here row
rule_at homes plan n here [] pc falling k row p e = absurd (none-some _ e)
rule_at homes plan n here (first ∷ rows) pc falling zero row p e =
    subst (λ (r : Annotated). RowRule homes plan n here r) (same_Some first row e)
    (record { verdict = p.3; fine = fine_falls p.3 p.4 p.6; rule = p.5 })
rule_at homes plan n here (first ∷ rows) pc falling (suc k) row p e =
    rule_at homes plan n here rows (after first) p.4 k row p.7 e

-- each instruction of a procedure costs at least one
abbrev EachCosts : List (List Cell) → FramedPlan → ℕ → FramedProcedure → Type 0
EachCosts homes plan n here =
    (i : Instruction) (s : AbstractState) (v : Verdict) → IsFine v → Transfer homes plan n here s i v → CostsOne s

-- and so does its entry frame
entry_costs : (homes : List (List Cell)) (plan : FramedPlan) (n : ℕ) (here : FramedProcedure) (rows : List Annotated) (f : Frame)
    → EachCosts homes plan n here → IsCut homes plan n here rows → entry_of here ≡ Some f → CostsOne (state_of f)
entry_costs homes plan n here rows f each cut e =
    let label = first_label here.labels f e in
    let first = cut.labels label.0.0 label.0.1 (0, label.1) in
    let rule = rule_at homes plan n here rows 0 None first.0 first.1 cut.passes first.2 in
    let costs : CostsOne (state_of label.0.1) =
    subst (λ (s : AbstractState). CostsOne s) first.4
    (each first.1.instruction first.1.state rule.verdict rule.fine rule.rule) in
    subst (λ (g : Frame). CostsOne (state_of g)) label.2 costs

-- what is so of each verdict that is fine
fine_ends : {Ends : Verdict → Type 0} {rest : Rest} {v : Verdict} → IsBuilt Breaks Ends rest → IsFine v → rest v → Ends v
fine_ends {v} built fine rule =
    elim (fails_or_ends built v rule).cases [ inl broken ↦ absurd (subst IsFine broken.1 fine) | inr so ↦ so ]

-- every instruction costs at least one; of a call by what its callee costs, which has a higher number
pub costs : (homes : List (List Cell)) (plan : FramedPlan) → AllCut homes plan → (fuel n : ℕ) (here : FramedProcedure)
    → slice_get plan.procedures n ≡ Some here → length plan.procedures ≤ n + fuel → EachCosts homes plan n here
costs homes plan cuts zero n here is few i s v fine t point at =
    absurd (let w = slice_get_within plan.procedures n here is in omega arith)
costs homes plan cuts (suc fuel) n here is few (Call q) s v fine t point at =
    let c = call_holds plan n q s v fine t in
    let callee = callee_above plan.procedures n q c.there c.there_is in
    let cut = cuts q c.there callee.1 in
    let lower : length plan.procedures ≤ q + fuel = further n q fuel (length plan.procedures) callee.0 few in
    let one =
    entry_costs homes plan q c.there cut.0 c.entry
    (λ i u w ok rule. costs homes plan cuts fuel q c.there callee.1 lower i u w ok rule) cut.1 c.entry_is
    (values point c.meets.forms) (c.meets.agrees point at).is_point in
    more_than (value point s.cost) (value (values point c.meets.forms) c.entry.cost) _
    (cost_after s.cost c.meets.forms c.entry.cost point) (c.enough point at) one
  where
    further : (n q fuel l : ℕ) → n < q → l ≤ n + suc fuel → l ≤ q + fuel
    further n q fuel l lt le = omega arith
costs homes plan cuts (suc fuel) n here is few i s v fine t point at =
    from_one_less s point at (fine_ends (transfer_is_built homes plan n here s i) fine t).1

-- So an entry frame costs at least one at each of its points.
pub entry_costs_one : (homes : List (List Cell)) (plan : FramedPlan) → AllCut homes plan → (n : ℕ) (here : FramedProcedure)
    (f : Frame) → slice_get plan.procedures n ≡ Some here → entry_of here ≡ Some f → CostsOne (state_of f)
entry_costs_one homes plan cuts n here f is e =
    let cut = cuts n here is in
    entry_costs homes plan n here cut.0 f
    (costs homes plan cuts (length plan.procedures) n here is (omega arith)) cut.1 e
