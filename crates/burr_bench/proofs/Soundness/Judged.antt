-- What a cut says of an instruction and of the next; each of its states is over its own symbols.
use Rattle.std.proofs.Common.{◌≡◌, ℕ, zero, suc, List, [], ◌∷◌, Option, Some, None, refl, sym, subst, ◌∙◌, inl, inr}
use Rattle.std.specs.Prelude.{slice_get}
use Rattle.std.proofs.lemmas.Option.{none-some, same_Some}
use Rattle.burr_voxels.specs.declared.cell.Cell.{Cell}
use Rattle.burr_code.specs.Instruction.{Instruction, StandsAt}
use Rattle.burr_container.specs.Rules.Plans.{Frame}
use Rattle.burr_frames.specs.Rules.FramedPlans.{FramedProcedure, FramedPlan}
use Rattle.burr_frames.specs.Rules.States.{AbstractState, state_of}
use Rattle.burr_frames.specs.Rules.Verdicts.{Verdict, Breaks, FallsThrough, NoSuccessor}
use Rattle.burr_frames.specs.Rules.Transfer.{Transfer}
use Rattle.burr_frames.specs.Views.Over.{IsTidy}
use Rattle.burr_frames.proofs.Common.FineVerdicts.{IsFine}
use Rattle.burr_frames.proofs.Common.Room.{what_is_kept}
use Rattle.burr_verify.specs.Rules.WellFramed.{Annotated, after, IsLabelled, Enters, FallsOut, IsCutFrom}
use Rattle.burr_verify.proofs.Common.Costs.{fine_falls}

pub record Judged (homes : List (List Cell)) (plan : FramedPlan) (n : ℕ) (here : FramedProcedure)
    (row : Annotated) (following : Option Annotated) : Type 0 where
  pub stands_at : StandsAt here.code row.pc row.instruction
  pub tidy : IsTidy row.state
  pub verdict : Verdict
  pub fine : IsFine verdict
  pub transfer : Transfer homes plan n here row.state row.instruction verdict
  pub tidy_after : (s : AbstractState) → verdict ≡ FallsThrough s → IsTidy s
  pub next : (s : AbstractState) → verdict ≡ FallsThrough s → (next : Annotated)
      × (following ≡ Some next) × (next.pc ≡ after row) × Enters here (after row) (Some s) next.state

-- a state that falls out is tidy
abbrev pub FallsTidy : Option AbstractState → Type 0
FallsTidy None = Unit {0}
FallsTidy (Some s) = IsTidy s

module _ (homes : List (List Cell)) (plan : FramedPlan) (n : ℕ) (here : FramedProcedure)
    (frames : (pc : ℕ) (f : Frame) → IsLabelled here pc f → IsTidy (state_of f)) where
  falls_tidy : (s : AbstractState) (i : Instruction) (v : Verdict) (out : Option AbstractState)
      → Transfer homes plan n here s i v → FallsOut v out → IsTidy s → FallsTidy out
  falls_tidy s i (Breaks b) out h f tidy = absurd f
  falls_tidy s i (FallsThrough t) out h f tidy =
      subst FallsTidy (sym f) ((what_is_kept homes plan n here s t i h).tidy tidy)
  falls_tidy s i NoSuccessor out h f tidy = subst FallsTidy (sym f) tt

  enters_tidy : (pc : ℕ) (falling : Option AbstractState) (s : AbstractState)
      → FallsTidy falling → Enters here pc falling s → IsTidy s
  enters_tidy pc None s tidy e = subst IsTidy (sym e.2) (frames pc e.0 e.1)
  enters_tidy pc (Some t) s tidy (inl e) = subst IsTidy (sym e.3) (frames pc e.0 e.1)
  enters_tidy pc (Some t) s tidy (inr e) = subst IsTidy (sym e.1) tidy

  next_in : (pc : ℕ) (out : Option AbstractState) (rows : List Annotated) → IsCutFrom homes plan n here pc out rows
      → (s : AbstractState) → out ≡ Some s → (next : Annotated) × (slice_get rows 0 ≡ Some next)
      × (next.pc ≡ pc) × Enters here pc (Some s) next.state
  next_in pc out [] p s is = absurd (none-some _ (sym p.1 ∙ is))
  next_in pc out (next ∷ rest) p s is =
      (next, refl, p.0, subst (λ o. Enters here pc o next.state) is p.2)

  pub judged : (rows : List Annotated) (pc : ℕ) (falling : Option AbstractState) (k : ℕ) (row : Annotated)
      → FallsTidy falling → IsCutFrom homes plan n here pc falling rows → slice_get rows k ≡ Some row
      → Judged homes plan n here row (slice_get rows (suc k))
  judged [] pc falling k row tidy p e = absurd (none-some _ e)
  judged (first ∷ rows) pc falling zero row tidy p e =
      let is_tidy = enters_tidy pc falling first.state tidy p.2 in
      let falls : (s : AbstractState) → p.3 ≡ FallsThrough s → p.4 ≡ Some s =
      λ s is. subst (λ v. FallsOut v p.4) is p.6 in
      subst (λ r. Judged homes plan n here r (slice_get rows 0)) (same_Some _ _ e) (record {
        stands_at = subst (λ at. StandsAt here.code at first.instruction) (sym p.0) p.1;
        tidy = is_tidy;
        verdict = p.3;
        fine = fine_falls p.3 p.4 p.6;
        transfer = p.5;
        tidy_after = λ s is. subst FallsTidy (falls s is) (falls_tidy first.state first.instruction p.3 p.4 p.5 p.6 is_tidy);
        next = λ s is. next_in (after first) p.4 rows p.7 s (falls s is);
      })
  judged (first ∷ rows) pc falling (suc k) row tidy p e =
      judged rows (after first) p.4 k row
      (falls_tidy first.state first.instruction p.3 p.4 p.5 p.6 (enters_tidy pc falling first.state tidy p.2)) p.7 e
