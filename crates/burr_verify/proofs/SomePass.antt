-- A pass comes to a judgement, and what is judged of frames is decided.
use Rattle.std.proofs.Common.{◌≡◌, ◌≢◌, ℕ, zero, suc, ◌+◌, ◌<◌, ◌≤◌, ℤ, List, [], ◌∷◌, length, Option, Some, None, refl, ap, inl, inr, arith}
use Rattle.std.specs.Prelude.{slice_get, if◌then◌else◌, ◌==◌}
use Rattle.std.proofs.lemmas.Bool.Decides.{nat_tests}
use Rattle.std.proofs.lemmas.Option.{none-some, same_Some, slice_get_within}
use Rattle.burr_text.proofs.Common.Decisions.{Decided, decided_like, decided_and, decided_and_three, decided_not, decide_same, decide_below, decide_at_most, decide_some_below, decide_empty}
use Rattle.burr_voxels.specs.declared.cell.Cell.{Cell}
use Rattle.burr_code.specs.declared.placement.Placement.{Placement}
use Rattle.burr_code.specs.declared.placement.Placement.TheVariants.{Apart, On}
use Rattle.burr_code.specs.Places.{count_in}
use Rattle.burr_code.specs.Instruction.{Instruction, spelled, StandsAt}
use Rattle.burr_code.proofs.Common.Reading.{decide_stands}
use Rattle.burr_container.specs.Rules.Plans.{FormCell, Frame}
use Rattle.burr_frames.specs.Rules.FramedPlans.{FramedExit, FramedProcedure, FramedPlan}
use Rattle.burr_frames.specs.Rules.States.{AbstractState, state_of}
use Rattle.burr_frames.specs.Rules.Verdicts.{Broken, Verdict, Breaks, FallsThrough, NoSuccessor, arriving, no_successor}
use Rattle.burr_frames.specs.Rules.Transfer.{Transfer}
use Rattle.burr_code.proofs.Common.Conditions.{decided_implies, decide_all_numbers, decide_all_lie}
use Rattle.burr_code.proofs.Common.Checked.{HasOne, some_built}
use Rattle.burr_frames.proofs.Common.SomeVerdict.{some_verdict}
use Rattle.burr_frames.proofs.Common.Built.{arriving_is_built}
use Rattle.burr_verify.specs.Rules.WellFramed.{IsLabelled, IsFormed, IsFormedEntry, IsFormedExit, HasNoLonePiece}
use Rattle.burr_verify.specs.Rules.Pass.{Passed, Stage, BeforeInstruction, AtInstruction, pass_start, Hides, Pass, ends, falls_off, lacks_frame, resumes, misses, arrives, goes_on, lacks_instruction, hides, breaks, falls_through, stops}
use Rattle.burr_verify.proofs.OnePass.{arrives_where_leaves}
use Rattle.burr_verify.proofs.PassCuts.{stands_within, spelled_some}

-- Labels

label_at : (label : Option (ℕ × Frame)) (pc : ℕ) → Decided ((f : Frame) × (label ≡ Some (pc, f)))
label_at None pc = inr (λ found. none-some _ found.1)
label_at (Some (p, f)) pc =
    decided_like (λ e. (f, ap (λ (q : ℕ). Some (q, f)) e))
    (λ found. ap (λ (l : ℕ × Frame). l.0) (same_Some (p, f) (pc, found.0) found.1)) (decide_same p pc)

pub decide_labelled : (here : FramedProcedure) (pc : ℕ) → Decided ((f : Frame) × IsLabelled here pc f)
decide_labelled here pc =
    decided_like (λ found. (found.2.0, (found.0, found.2.1)))
    (λ found. (found.1.0, slice_get_within here.labels found.1.0 (pc, found.0) found.1.1, (found.0, found.1.1)))
    (decide_some_below (λ k. (f : Frame) × (slice_get here.labels k ≡ Some (pc, f)))
    (λ k. label_at (slice_get here.labels k) pc) (length here.labels))

decide_hides : (here : FramedProcedure) (pc : ℕ) (i : Instruction) → Decided (Hides here pc i)
decide_hides here pc i =
    decided_like (λ found. (found.0, found.2.1.0, found.2.1.1, found.2.0, found.1))
    (λ hidden. (hidden.0, hidden.4, (hidden.3, (hidden.1, hidden.2))))
    (decide_some_below (λ p. (pc < p) × ((f : Frame) × IsLabelled here p f))
    (λ p. decided_and (decide_below pc p) (decide_labelled here p)) (pc + length (spelled i)))

-- A pass

module _ (homes : List (List Cell)) (plan : FramedPlan) (n : ℕ) (here : FramedProcedure) where
  abbrev SomePass : Stage → Type 0
  SomePass stage = HasOne (Pass homes plan n here stage)

  -- whatever falls out of an instruction of this size
  abbrev SomeAfter : ℕ → Instruction → Type 0
  SomeAfter pc i = (out : Option AbstractState) → SomePass (BeforeInstruction pc (pc + length (spelled i)) out)

  -- where the instruction that stands at pc leads on, the pass has a judgement
  by_verdict : (pc : ℕ) (s : AbstractState) (i : Instruction) → StandsAt here.code pc i → (¬ Hides here pc i)
      → (v : Verdict) → Transfer homes plan n here s i v → SomeAfter pc i → SomePass (AtInstruction pc s)
  by_verdict pc s i stands bare (Breaks break) rule later = (_, breaks pc s i break stands bare rule)
  by_verdict pc s i stands bare (FallsThrough t) rule later =
      let rest = later (Some t) in (rest.0, falls_through pc s t i rest.0 stands bare rule rest.1)
  by_verdict pc s i stands bare NoSuccessor rule later =
      let rest = later None in (rest.0, stops pc s i rest.0 stands bare rule rest.1)

  by_hidden : (pc : ℕ) (s : AbstractState) (i : Instruction) → StandsAt here.code pc i → Decided (Hides here pc i)
      → SomeAfter pc i → SomePass (AtInstruction pc s)
  by_hidden pc s i stands (inl hidden) later = (_, hides pc s i stands hidden)
  by_hidden pc s i stands (inr bare) later =
      let v = some_verdict homes plan n here s i in by_verdict pc s i stands bare v.0 v.1 later

  -- a label, or none, and a state, or none
  arrived_or_not : (last pc : ℕ) (s : AbstractState) (f : Frame) → pc ≢ length here.code → IsLabelled here pc f
      → (v : Verdict) → arriving s f no_successor v → ((t : AbstractState) → SomePass (AtInstruction pc t))
      → SomePass (BeforeInstruction last pc (Some s))
  arrived_or_not last pc s f more labelled (Breaks break) missed at = (_, misses last pc s f break more labelled missed)
  arrived_or_not last pc s f more labelled (FallsThrough t) arrived at = absurd (never_falls arrived)
    where
      falls_through-breaks : (b : Broken) → ¬ (FallsThrough t ≡ Breaks b)
      falls_through-breaks b e = cc

      falls_through-no_successor : ¬ (FallsThrough t ≡ NoSuccessor)
      falls_through-no_successor e = cc

      never_falls : ¬ arriving s f no_successor (FallsThrough t)
      never_falls (inl h) = falls_through-breaks _ h.1
      never_falls (inr (forms, known, inl h)) = falls_through-breaks _ h.1
      never_falls (inr (forms, known, inr (alike, inl h))) = falls_through-breaks _ h.2
      never_falls (inr (forms, known, inr (alike, inr h))) = falls_through-no_successor h.1
  arrived_or_not last pc s f more labelled NoSuccessor arrived at =
      let rest = at (state_of f) in
      (rest.0, arrives last pc s f rest.0 more labelled (arrives_where_leaves s f arrived) rest.1)

  coming : (last pc : ℕ) (falling : Option AbstractState) → pc ≢ length here.code
      → Decided ((f : Frame) × IsLabelled here pc f) → ((t : AbstractState) → SomePass (AtInstruction pc t))
      → SomePass (BeforeInstruction last pc falling)
  coming last pc None more (inr none) at = (_, lacks_frame last pc more (λ f labelled. none (f, labelled)))
  coming last pc None more (inl found) at =
      let rest = at (state_of found.0) in (rest.0, resumes last pc found.0 rest.0 more found.1 rest.1)
  coming last pc (Some s) more (inr none) at =
      let rest = at s in (rest.0, goes_on last pc s rest.0 more (λ f labelled. none (f, labelled)) rest.1)
  coming last pc (Some s) more (inl found) at =
      let v = some_built (arriving_is_built s found.0) in arrived_or_not last pc s found.0 more found.1 v.0 v.1 at

  at_end : (last pc : ℕ) (falling : Option AbstractState) → pc ≡ length here.code
      → SomePass (BeforeInstruction last pc falling)
  at_end last pc None e = (Passed, ends last pc e)
  at_end last pc (Some s) e = (_, falls_off last pc s e)

  -- where each instruction that stands at pc leads on, the pass has a judgement
  some_stage : (last pc : ℕ) (falling : Option AbstractState)
      → ((i : Instruction) → StandsAt here.code pc i → SomeAfter pc i) → SomePass (BeforeInstruction last pc falling)
  some_stage last pc falling later = by_end (decide_same pc (length here.code))
    where
      instruction : (s : AbstractState) → Decided ((i : Instruction) × StandsAt here.code pc i) → SomePass (AtInstruction pc s)
      instruction s (inr none) = (_, lacks_instruction pc s (λ i stands. none (i, stands)))
      instruction s (inl (i, stands)) = by_hidden pc s i stands (decide_hides here pc i) (later i stands)

      by_end : Decided (pc ≡ length here.code) → SomePass (BeforeInstruction last pc falling)
      by_end (inl e) = at_end last pc falling e
      by_end (inr more) =
          coming last pc falling more (decide_labelled here pc) (λ s. instruction s (decide_stands here.code pc))

  -- by what is left of the code
  some_from : (fuel last pc : ℕ) (falling : Option AbstractState) → length here.code ≤ pc + fuel
      → SomePass (BeforeInstruction last pc falling)
  some_from zero last pc falling enough =
      some_stage last pc falling (λ i stands out. absurd (omega (arith, enough, stands_within here.code pc i stands)))
  some_from (suc fuel) last pc falling enough =
      some_stage last pc falling (λ i stands out. some_from fuel pc (pc + length (spelled i)) out
      (omega (arith, enough, spelled_some i)))

  -- A pass comes to a judgement.
  pub some_judgement : SomePass pass_start
  some_judgement = some_from (length here.code) 0 0 None (omega arith)

-- Frames

-- beyond every tray in use
abbrev past_trays : List (Placement FormCell) → ℕ
past_trays [] = 0
past_trays (Apart ∷ places) = past_trays places
past_trays (On tray c ∷ places) = suc tray + past_trays places

one_past : (t tray rest count : ℕ) → suc t + rest ≤ tray → count ≡ 0 → (if t == tray then 1 else 0) + count ≡ 0
one_past t tray rest count far none = grind (arith, nat_tests)

none_past : (places : List (Placement FormCell)) (tray : ℕ) → past_trays places ≤ tray → count_in tray places ≡ 0
none_past [] tray far = refl
none_past (Apart ∷ places) tray far = let rest = none_past places tray far in omega (arith, rest)
none_past (On t c ∷ places) tray far =
    one_past t tray (past_trays places) (count_in tray places) far (none_past places tray (omega (arith, far)))

decide_lone : (places : List (Placement FormCell)) → Decided (HasNoLonePiece places)
decide_lone places =
    decide_all_numbers (λ tray. count_in tray places ≢ 1) (λ tray. decided_not (decide_same (count_in tray places) 1))
    (past_trays places) (λ tray far e. omega (arith, none_past places tray far, e))

some_range : (slot : Option (Option (ℤ × ℤ))) → Decided ((range : ℤ × ℤ) × (slot ≡ Some (Some range)))
some_range None = inr (λ found. none-some _ found.1)
some_range (Some None) = inr (λ found. none-some _ (same_Some _ _ found.1))
some_range (Some (Some range)) = inl (range, refl)

-- the slot is live, with some range
abbrev HasRange : Frame → ℕ → Type 0
HasRange f v = (range : ℤ × ℤ) × (slice_get f.slots v ≡ Some (Some range))

decide_range : (f : Frame) (v : ℕ) → Decided (HasRange f v)
decide_range f v = some_range (slice_get f.slots v)

pub decide_formed : (parameters : ℕ) (f : Frame) → Decided (IsFormed parameters f)
decide_formed parameters f =
    decided_like (λ all. record { live = all.0; gripped = all.1; trays = all.2 })
    (λ (h : IsFormed parameters f). (h.live, h.gripped, h.trays))
    (decided_and_three decide_live (decide_all_lie f.places f.tray f.grip) (decide_lone f.places))
  where
    decide_live : Decided ((v : ℕ) → v < parameters → HasRange f v)
    decide_live =
        decide_all_numbers (λ v. v < parameters → HasRange f v)
        (λ v. decided_implies (decide_below v parameters) (decide_range f v)) parameters
        (λ v far below. absurd (omega arith))

pub decide_entry : (parameters : ℕ) (f : Frame) → Decided (IsFormedEntry parameters f)
decide_entry parameters f =
    decided_like (λ both. record { alone = λ v from range e. both.0 v from (range, e); bare = both.1 })
    (λ (h : IsFormedEntry parameters f). ((λ v from found. h.alone v from found.0 found.1), h.bare))
    (decided_and decide_alone (decide_empty f.stack))
  where
    past : (f : Frame) (v : ℕ) → length f.slots ≤ v → (range : ℤ × ℤ) → ¬ (slice_get f.slots v ≡ Some (Some range))
    past f v far range e = let within = slice_get_within f.slots v (Some range) e in omega arith

    decide_alone : Decided ((v : ℕ) → parameters ≤ v → ¬ HasRange f v)
    decide_alone =
        decide_all_numbers (λ v. parameters ≤ v → ¬ HasRange f v)
        (λ v. decided_implies (decide_at_most parameters v) (decided_not (decide_range f v)))
        (length f.slots) (λ v far from found. past f v far found.0 found.1)

pub decide_formed_exit : (f : FramedExit) → Decided (IsFormedExit f)
decide_formed_exit f =
    decided_like (λ both. record { gripped = both.0; trays = both.1 }) (λ (h : IsFormedExit f). (h.gripped, h.trays))
    (decided_and (decide_all_lie f.places f.tray f.grip) (decide_lone f.places))
