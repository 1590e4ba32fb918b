-- How a pass goes on from one stage to another, and where it stops, each with its looks.
use Rattle.std.proofs.Common.{◌≡◌, ◌≢◌, ℕ, ◌+◌, ◌<◌, ◌≤◌, List, length, Option, Some, None, refl, sym, subst, ap, ◌∙◌, inl, inr, arith}
use Rattle.std.specs.Prelude.{slice_get, true, false}
use Rattle.std.specs.Option.{is_some}
use Rattle.std.proofs.lemmas.Bool.{false≢true}
use Rattle.burr_voxels.specs.declared.cell.Cell.{Cell}
use Rattle.burr_code.specs.Instruction.{Instruction, spelled}
use Rattle.burr_forms.specs.Rules.Forms.{Point}
use Rattle.burr_container.specs.Rules.Plans.{Plan, Frame}
use Rattle.burr_container.specs.Views.Containers.{ContainerView, IsContainer, OfProcedure}
use Rattle.burr_frames.specs.Views.ArrivalViews.{missed_at}
use Rattle.burr_frames.specs.Views.Breaks.{missed_break}
use Rattle.burr_frames.specs.Rules.FramedPlans.{FramedProcedure, FramedPlan, framed_plan}
use Rattle.burr_frames.specs.Rules.States.{AbstractState, state_of}
use Rattle.burr_frames.specs.Rules.Verdicts.{Broken, Breaks, NoSuccessor, arriving, no_successor}
use Rattle.burr_frames.specs.declared.rule.Rule.TheVariants as rules
use Rattle.burr_verify.specs.declared.refusal.Refusal.{Refusal}
use Rattle.burr_verify.specs.Views.Refusals.{plain_refusal}
use Rattle.burr_verify.specs.Rules.WellFramed.{Enters, IsLabelled, HasNoLabel}
use Rattle.burr_verify.specs.Views.LookViews.{LooksStop}
use Rattle.burr_verify.specs.Rules.Pass.{Judgement, Passed, Refuses, Stage, BeforeInstruction, Hides, broken, misses, ends, falls_off}
use Rattle.burr_verify.specs.Rules.PassLooks.{LookedPass}
use Rattle.burr_verify.specs.Views.Judgements.{ArrivesIfAny, IsLabelWithin, failed_check}
use Rattle.burr_frames.proofs.Common.Heres.{procedure_here}
use Rattle.burr_verify.proofs.OnePass.{arrives_where_leaves}

-- Labels

pub no_label : (here : FramedProcedure) (pc : ℕ) → IsLabelWithin here pc (pc + 1) None → HasNoLabel here pc
no_label here pc none f (k, e) = absurd (omega (arith, none k (pc, f) e (omega arith)))

pub at_label : (here : FramedProcedure) (pc n : ℕ) (l : ℕ × Frame) → slice_get here.labels n ≡ Some l → pc ≤ l.0
    → l.0 < pc + 1 → IsLabelled here pc l.1
at_label here pc n l e from before =
    let same : l.0 ≡ pc = omega (arith, from, before) in
    (n, subst (λ (m : ℕ). slice_get here.labels n ≡ Some (m, l.1)) same e)

-- Before a place

pub missed : (s : AbstractState) (f : Frame) (o : Option Point) → arriving s f no_successor (missed_at o)
    → arriving s f no_successor (Breaks (missed_break rules.FrameMissed o))
missed s f None h = h
missed s f (Some point) h = h

-- what falls in, if a state does, arrives at the frame, whose state goes on
pub enters_label : (here : FramedProcedure) (pc : ℕ) (f : Frame) (falling : Option AbstractState) (s : AbstractState)
    → IsLabelled here pc f → ArrivesIfAny falling f NoSuccessor → s ≡ state_of f → Enters here pc falling s
enters_label here pc f None s labelled arrived same = (f, labelled, same)
enters_label here pc f (Some t) s labelled arrived same = inl (f, labelled, arrives_where_leaves t f arrived, same)

-- and where there is no frame it goes on itself
pub enters_bare : (here : FramedProcedure) (pc : ℕ) (falling : Option AbstractState) (s : AbstractState) → falling ≡ Some s
    → HasNoLabel here pc → Enters here pc falling s
enters_bare here pc falling s same bare = subst (λ (o : Option AbstractState). Enters here pc o s) (sym same) (inr (bare, refl))

-- a pass that comes to the judgement of this refusal stops by it
pub stops_by : (homes : List (List Cell)) (plan : FramedPlan) (n : ℕ) (here : FramedProcedure) (stage : Stage) (r : Refusal)
    (j : Judgement) (looks : ℕ) → Refuses (failed_check r) ≡ j → LookedPass homes plan n here stage j looks
    → LooksStop homes plan n here stage r looks
stops_by homes plan n here stage r j looks same pass =
    subst (λ (k : Judgement). LookedPass homes plan n here stage k looks) (sym same) pass

-- a refusal that names the procedure `told` names procedure n where the two are the same
pub told_broken : (r : Refusal) (told n pc : ℕ) (b : Broken) → Refuses (failed_check r) ≡ broken told pc b → told ≡ n
    → Refuses (failed_check r) ≡ broken n pc b
told_broken r told n pc b same e = same ∙ ap (λ (k : ℕ). broken k pc b) e

-- the same of a refusal that names no more than a rule, but for the point at which a state does not arrive
pub told_missed : (r : Refusal) (told n last : ℕ) (o : Option Point) → r ≡ plain_refusal told last rules.FrameMissed → told ≡ n
    → Refuses (record { procedure = r.proc; pc = r.pc; rule = r.rule; pieces = r.pieces; point = o }) ≡ broken n last (missed_break rules.FrameMissed o)
told_missed r told n last o is e =
    ap (λ (q : Refusal). Refuses (record { procedure = q.proc; pc = q.pc; rule = q.rule; pieces = q.pieces; point = o })) is
    ∙ ap (λ (k : ℕ). broken k last (missed_break rules.FrameMissed o)) e

-- it does not arrive
pub misses_label : (homes : List (List Cell)) (plan : FramedPlan) (n : ℕ) (here : FramedProcedure) (last pc : ℕ) (f : Frame)
    (falling : Option AbstractState) (o : Option Point) (r : Refusal) → pc ≢ length here.code → IsLabelled here pc f
    → ArrivesIfAny falling f (missed_at o) → Refuses (failed_check r) ≡ broken n last (missed_break rules.FrameMissed o)
    → LooksStop homes plan n here (BeforeInstruction last pc falling) r 0
misses_label homes plan n here last pc f None None r more labelled miss same = cc
misses_label homes plan n here last pc f None (Some point) r more labelled miss same = cc
misses_label homes plan n here last pc f (Some t) o r more labelled miss same =
    stops_by homes plan n here (BeforeInstruction last pc (Some t)) r _ 0 same
    (misses last pc t f (missed_break rules.FrameMissed o) more labelled (missed t f o miss), refl)

-- At a place

-- no label stands strictly inside an instruction of `size` bytes
pub hides_none : (here : FramedProcedure) (pc size : ℕ) (i : Instruction) → size ≡ length (spelled i)
    → IsLabelWithin here (pc + 1) (pc + size) None → ¬ Hides here pc i
hides_none here pc size i same none (p, f, (k, e), above, below) =
    let after = none k (p, f) e (omega (arith, above)) in omega (arith, after, below, same)

pub hides_one : (here : FramedProcedure) (pc size n : ℕ) (i : Instruction) (l : ℕ × Frame) → size ≡ length (spelled i)
    → slice_get here.labels n ≡ Some l → pc + 1 ≤ l.0 → l.0 < pc + size → Hides here pc i
hides_one here pc size n i l same e from before =
    (l.0, l.1, (n, e), omega (arith, from), omega (arith, before, same))

-- What falls in

pub stops_from : (homes : List (List Cell)) (plan : FramedPlan) (n : ℕ) (here : FramedProcedure) (last pc : ℕ)
    (falling to : Option AbstractState) (r : Refusal) → falling ≡ to
    → LooksStop homes plan n here (BeforeInstruction last pc to) r 0 → LooksStop homes plan n here (BeforeInstruction last pc falling) r 0
stops_from homes plan n here last pc falling to r same stop =
    subst (λ (o : Option AbstractState). LooksStop homes plan n here (BeforeInstruction last pc o) r 0) (sym same) stop

-- A label that was looked for

pub none_found : (here : FramedProcedure) (from end : ℕ) (found : Option ℕ) → found ≡ None
    → IsLabelWithin here from end found → IsLabelWithin here from end None
none_found here from end found same is = subst (λ (o : Option ℕ). IsLabelWithin here from end o) same is

pub one_found : (here : FramedProcedure) (from end n : ℕ) (found : Option ℕ) → found ≡ Some n
    → IsLabelWithin here from end found → IsLabelWithin here from end (Some n)
one_found here from end n found same is = subst (λ (o : Option ℕ). IsLabelWithin here from end o) same is

-- the code that was read is the procedure's
pub code_read : (kept : ContainerView) (i : ℕ) (code : List ℕ) → OfProcedure kept i (λ p q. code ≡ q.code)
    → (p : Plan) (here : FramedProcedure) → IsContainer kept p → slice_get (framed_plan p).procedures i ≡ Some here
    → code ≡ here.code
code_read kept i code reads p here is at =
    let found = procedure_here p i here at in
    reads p found.0 is found.1 ∙ sym (ap (λ (h : FramedProcedure). h.code) found.2)

pub none_where : {A : Type 0} (o : Option A) → false ≡ is_some o → o ≡ None
none_where None e = refl
none_where (Some x) e = absurd (false≢true e)

pub some_where : {A : Type 0} (o : Option A) → true ≡ is_some o → (x : A) × (o ≡ Some x)
some_where None e = absurd (false≢true (sym e))
some_where (Some x) e = (x, refl)

-- Where the code ends

pub before_end : (code kept : List ℕ) (pc : ℕ) → code ≡ kept → pc < length code → pc ≢ length kept
before_end code kept pc same below at = omega (arith, below, at, ap length same)

pub at_end : (code kept : List ℕ) (pc : ℕ) → code ≡ kept → length code ≤ pc → pc ≤ length kept → pc ≡ length kept
at_end code kept pc same from within = omega (arith, from, within, ap length same)

pub well_ended : (homes : List (List Cell)) (plan : FramedPlan) (n : ℕ) (here : FramedProcedure) (last pc : ℕ)
    (falling : Option AbstractState) → falling ≡ None → pc ≡ length here.code
    → LookedPass homes plan n here (BeforeInstruction last pc falling) Passed 0
well_ended homes plan n here last pc falling same is =
    subst (λ (o : Option AbstractState). LookedPass homes plan n here (BeforeInstruction last pc o) Passed 0) (sym same)
    (ends last pc is, refl)

pub fallen_off : (homes : List (List Cell)) (plan : FramedPlan) (n : ℕ) (here : FramedProcedure) (last pc : ℕ)
    (falling : Option AbstractState) (s : AbstractState) (r : Refusal) → falling ≡ Some s → pc ≡ length here.code
    → r ≡ plain_refusal n last rules.UnendedCode → LooksStop homes plan n here (BeforeInstruction last pc falling) r 0
fallen_off homes plan n here last pc falling s r same is told =
    subst (λ (o : Option AbstractState). LooksStop homes plan n here (BeforeInstruction last pc o) r 0) (sym same)
    (stops_by homes plan n here (BeforeInstruction last pc (Some s)) r _ 0 (ap (λ q. Refuses (failed_check q)) told)
    (falls_off last pc s is, refl))
