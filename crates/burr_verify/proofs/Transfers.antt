-- The rule that is judged is that of the instruction that was given; and what a state that comes to a
-- place is taken to.
use Rattle.std.proofs.Common.{◌≡◌, ◌+◌, ◌<◌, ◌≤◌, ℕ, List, [], ◌∷◌, length, Option, Some, None, refl, sym, ap, subst, ◌∙◌, inl, inr, arith}
use Rattle.burr_voxels.specs.declared.cell.Cell.{Cell}
use Rattle.burr_voxels.specs.declared.direction.Direction.{Direction}
use Rattle.burr_code.specs.declared.instr.Instr.{Instr}
use Rattle.burr_code.specs.declared.instr.Instr.TheVariants as instr
use Rattle.burr_code.specs.Instruction.{MovesNoPiece, spelled, StandsAt}
use Rattle.burr_code.specs.Meaning.{meaning, NoneStandsAt}
use Rattle.burr_code.proofs.Common.Reading.{one_stands_at}
use Rattle.burr_container.specs.Rules.Plans.{Frame}
use Rattle.burr_frames.specs.Rules.FramedPlans.{FramedProcedure, FramedPlan}
use Rattle.burr_frames.specs.Rules.Looks.{RuleLooks}
use Rattle.burr_frames.specs.Rules.States.{AbstractState, state_of}
use Rattle.burr_frames.specs.Rules.Transfer.{Transfer}
use Rattle.burr_frames.specs.Rules.Verdicts.{Verdict, Breaks}
use Rattle.burr_frames.proofs.Common.FineVerdicts.{IsFine}
use Rattle.burr_verify.specs.Rules.Fronts.{PassesTo}
use Rattle.burr_verify.specs.Rules.WellFramed.{Annotated, after, IsLabelled, HasNoLabel, Enters, FallsOut}
use Rattle.burr_verify.specs.Views.Judgements.{NamesNoRule}
use Rattle.burr_verify.proofs.OnePass.{OneFrame}
use Rattle.burr_verify.proofs.PassCuts.{spelled_some}

-- Rules

pub by_rule : (homes : List (List Cell)) (plan : FramedPlan) (n : ℕ) (here : FramedProcedure) (s : AbstractState) (given told : Instr) (v w : Verdict)
    → given ≡ told → w ≡ v → Transfer homes plan n here s (meaning told) v → Transfer homes plan n here s (meaning given) w
by_rule homes plan n here s given told v w is same rule =
    subst (λ (i : Instr). Transfer homes plan n here s (meaning i) w) (sym is)
    (subst (λ (u : Verdict). Transfer homes plan n here s (meaning told) u) (sym same) rule)

-- what is neither `step` nor `aside` moves no piece
pub in_place : (i : Instr) → ((d : Direction) → i ≡ instr.Step d → ⊥) → ((d : Direction) (tray : ℕ) → i ≡ instr.Aside d tray → ⊥)
    → MovesNoPiece (meaning i)
in_place (instr.Step d) step aside = step d refl
in_place (instr.Aside d tray) step aside = aside d tray refl
in_place i step aside = tt

-- and its rule has no look
pub no_look : (homes : List (List Cell)) (s : AbstractState) (i : Instr) → MovesNoPiece (meaning i) → RuleLooks homes s (meaning i) 0
no_look homes s (instr.Step d) none = absurd none
no_look homes s (instr.Aside d tray) none = absurd none
no_look homes s i none = refl

pub fine : (v : Verdict) → NamesNoRule v → IsFine v
fine (Breaks b) none = absurd none
fine v none = tt

-- What falls in

pub entered_labelled : (here : FramedProcedure) (pc : ℕ) (falling : Option AbstractState) (s : AbstractState) (f : Frame)
    → OneFrame here → IsLabelled here pc f → Enters here pc falling s → state_of f ≡ s
entered_labelled here pc None s f one labelled (g, there, is) = ap state_of (one pc f g labelled there) ∙ sym is
entered_labelled here pc (Some t) s f one labelled (inl (g, there, arrives, is)) = ap state_of (one pc f g labelled there) ∙ sym is
entered_labelled here pc (Some t) s f one labelled (inr (bare, is)) = absurd (bare f labelled)

pub entered_bare : (here : FramedProcedure) (pc : ℕ) (falling : Option AbstractState) (s : AbstractState)
    → HasNoLabel here pc → Enters here pc falling s → falling ≡ Some s
entered_bare here pc None s bare (g, there, is) = absurd (bare g there)
entered_bare here pc (Some t) s bare (inl (g, there, arrives, is)) = absurd (bare g there)
entered_bare here pc (Some t) s bare (inr (none, is)) = ap Some (sym is)

-- What is left of a pass

-- a pass goes on to a place, and no further
pub passes_on : (homes : List (List Cell)) (plan : FramedPlan) (n : ℕ) (here : FramedProcedure) (pc : ℕ)
    (falling : Option AbstractState) (rows : List Annotated) (to : ℕ) (out : Option AbstractState)
    → PassesTo homes plan n here pc falling rows to out → pc ≤ to
passes_on homes plan n here pc falling [] to out (same, is) = omega (arith, same)
passes_on homes plan n here pc falling (row ∷ rows) to out (at, stands, enters, bare, verdict, next, rule, falls, more) =
    let on = passes_on homes plan n here (after row) next rows to out more in omega (arith, on, at)

-- where it has come to the place, what falls in is what it came with
pub has_come : (homes : List (List Cell)) (plan : FramedPlan) (n : ℕ) (here : FramedProcedure) (pc : ℕ)
    (falling : Option AbstractState) (rows : List Annotated) (to : ℕ) (out : Option AbstractState)
    → to ≤ pc → PassesTo homes plan n here pc falling rows to out → (pc ≡ to) × (falling ≡ out)
has_come homes plan n here pc falling [] to out come passes = passes
has_come homes plan n here pc falling (row ∷ rows) to out come (at, stands, enters, bare, verdict, next, rule, falls, more) =
    let on = passes_on homes plan n here (after row) next rows to out more in
    let some = spelled_some row.instruction in
    absurd (omega (arith, on, at, come, some))

-- its first instruction is the one that stands there, and it goes on after that
pub record GoesOn (homes : List (List Cell)) (plan : FramedPlan) (n : ℕ) (here : FramedProcedure) (pc : ℕ)
    (falling : Option AbstractState) (to : ℕ) (out : Option AbstractState) (i : Instr) : Type 0 where
  pub state : AbstractState
  pub verdict : Verdict
  pub next : Option AbstractState
  pub rows : List Annotated
  pub enters : Enters here pc falling state
  pub rule : Transfer homes plan n here state (meaning i) verdict
  pub falls : FallsOut verdict next
  pub passes : PassesTo homes plan n here (pc + length (spelled (meaning i))) next rows to out

pub goes_on : (homes : List (List Cell)) (plan : FramedPlan) (n : ℕ) (here : FramedProcedure) (pc : ℕ)
    (falling : Option AbstractState) (rows : List Annotated) (to : ℕ) (out : Option AbstractState) (i : Instr)
    → pc < to → StandsAt here.code pc (meaning i) → PassesTo homes plan n here pc falling rows to out
    → GoesOn homes plan n here pc falling to out i
goes_on homes plan n here pc falling [] to out i less stands (same, is) = absurd (omega (arith, less, same))
goes_on homes plan n here pc falling (row ∷ rows) to out i less stands (at, there, enters, bare, verdict, next, rule, falls, more) =
    let same = one_stands_at here.code pc row.instruction (meaning i) there stands in
    record {
      state = row.state;
      verdict = verdict;
      next = next;
      rows = rows;
      enters = enters;
      rule = subst (λ j. Transfer homes plan n here row.state j verdict) same rule;
      falls = falls;
      passes =
          subst (λ j. PassesTo homes plan n here (pc + length (spelled j)) next rows to out) same
          (subst (λ k. PassesTo homes plan n here (k + length (spelled row.instruction)) next rows to out) at more);
    }

-- an instruction stands where a pass goes on
pub stands_there : (homes : List (List Cell)) (plan : FramedPlan) (n : ℕ) (here : FramedProcedure) (pc : ℕ)
    (falling : Option AbstractState) (rows : List Annotated) (to : ℕ) (out : Option AbstractState)
    → pc < to → PassesTo homes plan n here pc falling rows to out → ¬ NoneStandsAt here.code pc
stands_there homes plan n here pc falling [] to out less (same, is) none = absurd (omega (arith, less, same))
stands_there homes plan n here pc falling (row ∷ rows) to out less (at, there, enters, bare, verdict, next, rule, falls, more) none = none row.instruction there
