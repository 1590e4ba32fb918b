-- A pass goes over a front of the code, up to its end or to the first check that fails; where nothing is
-- wrong, the front is a cut.
use Rattle.std.proofs.Common.{◌≡◌, ◌≢◌, ◌⊎◌, ℕ, zero, suc, ◌+◌, ◌<◌, ◌≤◌, List, [], ◌∷◌, length, drop, Option, Some, None, refl, sym, ap, subst, ◌∙◌, inl, inr, arith, length-append, length-drop}
use Rattle.std.specs.Prelude.{slice_get}
use Rattle.std.proofs.lemmas.Bool.{cases_order}
use Rattle.std.proofs.lemmas.Option.{none-some, same_Some}
use Rattle.burr_text.proofs.Common.Decisions.{Decided, decide_below}
use Rattle.burr_voxels.specs.declared.cell.Cell.{Cell}
use Rattle.burr_code.specs.Instruction.{Instruction, Halt, spelled, StandsAt}
use Rattle.burr_container.specs.Rules.Plans.{Frame}
use Rattle.burr_frames.specs.Rules.FramedPlans.{FramedProcedure, FramedPlan}
use Rattle.burr_frames.specs.Rules.States.{AbstractState, state_of}
use Rattle.burr_frames.specs.Rules.Verdicts.{Verdict, Breaks, FallsThrough, NoSuccessor}
use Rattle.burr_frames.specs.Rules.Transfer.{Transfer}
use Rattle.burr_verify.specs.Rules.WellFramed.{Annotated, after, IsLabelled, Enters, FallsOut, IsCutFrom, IsBefore, IsCut}
use Rattle.burr_verify.specs.Rules.Pass.{Judgement, FailedCheck, Passed, Refuses, Stage, BeforeInstruction, AtInstruction, pass_start, Hides, IsLaidOut, Pass, ends, falls_off, lacks_frame, resumes, misses, arrives, goes_on, lacks_instruction, hides, breaks, falls_through, stops}
use Rattle.burr_verify.specs.Rules.Fronts.{PassesTo, last_from, FailsAt, FailsNext, IsFirstFailure}
use Rattle.burr_verify.proofs.OnePass.{OneFrame, one_frame}

-- Instructions have bytes

pub spelled_some : (i : Instruction) → 0 < length (spelled i)
spelled_some Halt = omega arith
spelled_some i = omega arith

-- an instruction that stands somewhere ends within the code
pub stands_inside : (code : List ℕ) (pc : ℕ) (i : Instruction) → StandsAt code pc i → pc + length (spelled i) ≤ length code
stands_inside code pc i stands =
    let parts : length (drop pc code) ≡ length (spelled i) + length stands.begins.0 =
    ap length stands.begins.1 ∙ length-append (spelled i) stands.begins.0 in
    let some = spelled_some i in
    let rest = length-drop pc code in
    omega arith

pub stands_within : (code : List ℕ) (pc : ℕ) (i : Instruction) → StandsAt code pc i → pc < length code
stands_within code pc i stands = omega (arith, stands_inside code pc i stands, spelled_some i)

pub refuses-passed : (r : FailedCheck) → ¬ (Refuses r ≡ Passed)
refuses-passed r e = cc

module _ (homes : List (List Cell)) (plan : FramedPlan) (n : ℕ) (here : FramedProcedure) where
  -- From a pass to a front

  -- what the pass comes to where it has come to `to`: the end of the code, or a check that fails
  abbrev EndsBy : ℕ → ℕ → Option AbstractState → Judgement → Type 0
  EndsBy last to out Passed = (to ≡ length here.code) × (out ≡ None)
  EndsBy last to out (Refuses r) = FailsNext homes plan n here last to out r

  -- from a place on the code is cut up to where the pass ends
  record Fronts (last pc : ℕ) (falling : Option AbstractState) (j : Judgement) : Type 0 where
    rows : List Annotated
    to : ℕ
    out : Option AbstractState
    passes : PassesTo homes plan n here pc falling rows to out
    labels : (p : ℕ) (f : Frame) → pc ≤ p → p < to → IsLabelled here p f → IsBefore rows p (state_of f)
    ends_by : EndsBy (last_from last rows) to out j

  -- the same where the first instruction is judged in this state, and is fine
  abbrev FrontsAt : ℕ → AbstractState → Judgement → Type 0
  FrontsAt pc s j =
      (i : Instruction) × StandsAt here.code pc i × (¬ Hides here pc i) × (verdict : Verdict) × (out : Option AbstractState)
      × Transfer homes plan n here s i verdict × FallsOut verdict out × Fronts pc (pc + length (spelled i)) out j

  abbrev FailsHere : ℕ → AbstractState → Judgement → Type 0
  FailsHere pc s Passed = ⊥
  FailsHere pc s (Refuses r) = FailsAt homes plan n here pc s r

  abbrev Given : Stage → Judgement → Type 0
  Given (BeforeInstruction last pc falling) j = Fronts last pc falling j
  Given (AtInstruction pc s) j = FailsHere pc s j ⊎ FrontsAt pc s j

  -- nothing is cut where the pass ends
  ends_now : (last pc : ℕ) (falling : Option AbstractState) (j : Judgement) → EndsBy last pc falling j
      → Fronts last pc falling j
  ends_now last pc falling j by = record {
    rows = [];
    to = pc;
    out = falling;
    passes = (refl, refl);
    labels = λ p f from below labelled. absurd (omega arith);
    ends_by = by;
  }

  -- one instruction, and the rest
  joined : (last pc : ℕ) (falling : Option AbstractState) (s : AbstractState) (j : Judgement) → FrontsAt pc s j
      → Enters here pc falling s → ((f : Frame) → IsLabelled here pc f → s ≡ state_of f) → Fronts last pc falling j
  joined last pc falling s j (i, stands, bare, verdict, out, rule, falls, rest) enters framed = record {
    rows = row ∷ rest.rows;
    to = rest.to;
    out = rest.out;
    passes = (refl, stands, enters, bare, verdict, out, rule, falls, rest.passes);
    labels = λ p f from below labelled.
        by_place p f labelled (cases_order pc p) (decide_below p (pc + length (spelled i))) from below;
    ends_by = rest.ends_by;
  }
    where
      row : Annotated
      row = record { pc = pc; instruction = i; state = s }

      by_place : (p : ℕ) (f : Frame) → IsLabelled here p f → (pc ≡ p) ⊎ ((pc < p) ⊎ (p < pc))
          → Decided (p < pc + length (spelled i)) → pc ≤ p → p < rest.to → IsBefore (row ∷ rest.rows) p (state_of f)
      by_place p f labelled (inl e) far from below =
          (0, row, refl, e, framed f (subst (λ (q : ℕ). IsLabelled here q f) (sym e) labelled))
      by_place p f labelled (inr (inl l)) (inl inside) from below = absurd (bare (p, f, labelled, l, inside))
      by_place p f labelled (inr (inl l)) (inr far) from below =
          let b = rest.labels p f (omega (arith, far)) below labelled in (suc b.0, b.1, b.2, b.3, b.4)
      by_place p f labelled (inr (inr l)) far from below = absurd (omega arith)

  either : (last pc : ℕ) (falling : Option AbstractState) (s : AbstractState) (j : Judgement) → pc ≢ length here.code
      → Enters here pc falling s → ((f : Frame) → IsLabelled here pc f → s ≡ state_of f) → Given (AtInstruction pc s) j
      → Fronts last pc falling j
  either last pc falling s Passed more enters framed (inl fails) = absurd fails
  either last pc falling s (Refuses r) more enters framed (inl fails) =
      ends_now last pc falling (Refuses r) (inr (s, more, enters, fails))
  either last pc falling s j more enters framed (inr at) = joined last pc falling s j at enters framed

  front_given : OneFrame here → (stage : Stage) (j : Judgement) → Pass homes plan n here stage j → Given stage j
  front_given one _ _ (ends last pc e) = ends_now last pc None Passed (e, refl)
  front_given one _ _ (falls_off last pc s e) = ends_now last pc (Some s) _ (inl (inl (e, refl)))
  front_given one _ _ (lacks_frame last pc more none) = ends_now last pc None _ (inl (more, none, refl))
  front_given one _ j (resumes last pc f _ more labelled rest) =
      either last pc None (state_of f) j more (f, labelled, refl) (λ g also. ap state_of (one pc f g labelled also))
      (front_given one (AtInstruction pc (state_of f)) j rest)
  front_given one _ _ (misses last pc s f break more labelled missed) =
      ends_now last pc (Some s) _ (inl (inr (f, break, more, labelled, missed, refl)))
  front_given one _ j (arrives last pc s f _ more labelled arrived rest) =
      either last pc (Some s) (state_of f) j more (inl (f, labelled, arrived, refl))
      (λ g also. ap state_of (one pc f g labelled also)) (front_given one (AtInstruction pc (state_of f)) j rest)
  front_given one _ j (goes_on last pc s _ more none rest) =
      either last pc (Some s) s j more (inr (none, refl)) (λ g also. absurd (none g also))
      (front_given one (AtInstruction pc s) j rest)
  front_given one _ _ (lacks_instruction pc s none) = inl (inl (none, refl))
  front_given one _ _ (hides pc s i stands hidden) = inl (inr (inl (i, stands, hidden, refl)))
  front_given one _ _ (breaks pc s i break stands bare rule) = inl (inr (inr (i, break, stands, bare, rule, refl)))
  front_given one _ j (falls_through pc s t i _ stands bare rule rest) =
      inr (
        i,
        stands,
        bare,
        FallsThrough t,
        Some t,
        rule,
        refl,
        front_given one (BeforeInstruction pc (pc + length (spelled i)) (Some t)) j rest,
      )
  front_given one _ j (stops pc s i _ stands bare rule rest) =
      inr (
        i,
        stands,
        bare,
        NoSuccessor,
        None,
        rule,
        refl,
        front_given one (BeforeInstruction pc (pc + length (spelled i)) None) j rest,
      )

  -- A refusal of the pass names the first check that fails.
  pub failure_of_refusal : (r : FailedCheck) → IsLaidOut here → Pass homes plan n here pass_start (Refuses r)
      → IsFirstFailure homes plan n here r
  failure_of_refusal r laid pass =
      let front = front_given (one_frame here laid) pass_start (Refuses r) pass in (
        front.rows,
        front.to,
        front.out,
        (record {
          passes = front.passes;
          labels = λ p f below labelled. front.labels p f (omega arith) below labelled;
        }),
        front.ends_by,
      )

  -- a front as far as the code goes is a cut
  cut_of_front : (rows : List Annotated) (pc : ℕ) (falling : Option AbstractState) (to : ℕ) (out : Option AbstractState)
      → to ≡ length here.code → out ≡ None → PassesTo homes plan n here pc falling rows to out
      → IsCutFrom homes plan n here pc falling rows
  cut_of_front [] pc falling to out e f passes = (passes.0 ∙ e, passes.1 ∙ f)
  cut_of_front (row ∷ rows) pc falling to out e f (at, stands, enters, bare, verdict, next, rule, falls, more) =
      (at, stands, enters, verdict, next, rule, falls, cut_of_front rows (after row) next to out e f more)

  -- Where the pass finds nothing wrong, there is a cut.
  pub cut_of_pass : IsLaidOut here → Pass homes plan n here pass_start Passed
      → (rows : List Annotated) × IsCut homes plan n here rows
  cut_of_pass laid pass =
      let front = front_given (one_frame here laid) pass_start Passed pass in
      let e : front.to ≡ length here.code = front.ends_by.0 in (
        front.rows,
        record {
          passes = cut_of_front front.rows 0 None front.to front.out e front.ends_by.1 front.passes;
          labels = λ pc f labelled.
              front.labels pc f (omega arith) (omega (arith, e, laid.within pc f labelled)) labelled;
        },
      )

  -- From a front to a pass

  -- the pass enters where the front does
  entered : (last pc : ℕ) (falling : Option AbstractState) (s : AbstractState) (j : Judgement) → pc ≢ length here.code
      → Enters here pc falling s → Pass homes plan n here (AtInstruction pc s) j
      → Pass homes plan n here (BeforeInstruction last pc falling) j
  entered last pc None s j more (f, labelled, is) pass =
      resumes last pc f j more labelled (subst (λ (t : AbstractState). Pass homes plan n here (AtInstruction pc t) j) is pass)
  entered last pc (Some t) s j more (inl (f, labelled, arrived, is)) pass =
      arrives last pc t f j more labelled arrived
      (subst (λ (u : AbstractState). Pass homes plan n here (AtInstruction pc u) j) is pass)
  entered last pc (Some t) s j more (inr (none, is)) pass =
      goes_on last pc t j more none (subst (λ (u : AbstractState). Pass homes plan n here (AtInstruction pc u) j) is pass)

  -- and goes on as it does
  gone_on : (pc : ℕ) (s : AbstractState) (i : Instruction) (v : Verdict) (out : Option AbstractState) (j : Judgement)
      → StandsAt here.code pc i → (¬ Hides here pc i) → Transfer homes plan n here s i v → FallsOut v out
      → Pass homes plan n here (BeforeInstruction pc (pc + length (spelled i)) out) j
      → Pass homes plan n here (AtInstruction pc s) j
  gone_on pc s i (Breaks break) out j stands bare rule is pass = absurd is
  gone_on pc s i (FallsThrough t) out j stands bare rule is pass =
      falls_through pc s t i j stands bare rule
      (subst (λ (o : Option AbstractState). Pass homes plan n here (BeforeInstruction pc (pc + length (spelled i)) o) j) is pass)
  gone_on pc s i NoSuccessor out j stands bare rule is pass =
      stops pc s i j stands bare rule
      (subst (λ (o : Option AbstractState). Pass homes plan n here (BeforeInstruction pc (pc + length (spelled i)) o) j) is pass)

  -- What the pass comes to after a front is what it comes to.
  pass_of_front : (rows : List Annotated) (last pc : ℕ) (falling : Option AbstractState) (to : ℕ)
      (out : Option AbstractState) (j : Judgement) → PassesTo homes plan n here pc falling rows to out
      → Pass homes plan n here (BeforeInstruction (last_from last rows) to out) j
      → Pass homes plan n here (BeforeInstruction last pc falling) j
  pass_of_front [] last pc falling to out j passes pass =
      subst (λ (o : Option AbstractState). Pass homes plan n here (BeforeInstruction last pc o) j) (sym passes.1)
      (subst (λ (q : ℕ). Pass homes plan n here (BeforeInstruction last q out) j) (sym passes.0) pass)
  pass_of_front (row ∷ rows) last pc falling to out j passes pass =
      let within = stands_within here.code pc row.instruction passes.1 in
      let later : Pass homes plan n here (BeforeInstruction row.pc (after row) passes.5) j =
      pass_of_front rows row.pc (after row) passes.5 to out j passes.8 pass in
      let size : ℕ = length (spelled row.instruction) in
      let rest = subst (λ (q : ℕ). Pass homes plan n here (BeforeInstruction q (q + size) passes.5) j) passes.0 later in
      entered last pc falling row.state j (λ e. omega (arith, e, within)) passes.2
      (gone_on pc row.state row.instruction passes.4 passes.5 j passes.1 passes.3 passes.6 passes.7 rest)

  refused_at : (pc : ℕ) (s : AbstractState) (r : FailedCheck) → FailsAt homes plan n here pc s r
      → Pass homes plan n here (AtInstruction pc s) (Refuses r)
  refused_at pc s r (inl (none, is)) =
      subst (λ (j : Judgement). Pass homes plan n here (AtInstruction pc s) j) (sym is) (lacks_instruction pc s none)
  refused_at pc s r (inr (inl (i, stands, hidden, is))) =
      subst (λ (j : Judgement). Pass homes plan n here (AtInstruction pc s) j) (sym is) (hides pc s i stands hidden)
  refused_at pc s r (inr (inr (i, break, stands, bare, rule, is))) =
      subst (λ (j : Judgement). Pass homes plan n here (AtInstruction pc s) j) (sym is) (breaks pc s i break stands bare rule)

  refused_next : (last pc : ℕ) (falling : Option AbstractState) (r : FailedCheck)
      → FailsNext homes plan n here last pc falling r → Pass homes plan n here (BeforeInstruction last pc falling) (Refuses r)
  refused_next last pc None r (inl (more, none, is)) =
      subst (λ (j : Judgement). Pass homes plan n here (BeforeInstruction last pc None) j) (sym is) (lacks_frame last pc more none)
  refused_next last pc (Some s) r (inl (inl (e, is))) =
      subst (λ (j : Judgement). Pass homes plan n here (BeforeInstruction last pc (Some s)) j) (sym is) (falls_off last pc s e)
  refused_next last pc (Some s) r (inl (inr (f, break, more, labelled, missed, is))) =
      subst (λ (j : Judgement). Pass homes plan n here (BeforeInstruction last pc (Some s)) j) (sym is)
      (misses last pc s f break more labelled missed)
  refused_next last pc falling r (inr (s, more, enters, fails)) =
      entered last pc falling s (Refuses r) more enters (refused_at pc s r fails)

  -- Where a refusal names the first check that fails, the pass refuses so.
  pub refusal_of_failure : (r : FailedCheck) → IsFirstFailure homes plan n here r
      → Pass homes plan n here pass_start (Refuses r)
  refusal_of_failure r (rows, to, out, front, fails) =
      pass_of_front rows 0 0 None to out (Refuses r) front.passes (refused_next (last_from 0 rows) to out r fails)

  -- From a cut to a front

  -- the rows of a cut stand from its first place on
  rows_from : (rows : List Annotated) (pc : ℕ) (falling : Option AbstractState) → IsCutFrom homes plan n here pc falling rows
      → (k : ℕ) (row : Annotated) → slice_get rows k ≡ Some row → pc ≤ row.pc
  rows_from [] pc falling passes k row e = absurd (none-some _ e)
  rows_from (first ∷ rows) pc falling passes zero row e =
      let same : first.pc ≡ row.pc = ap (λ (r : Annotated). r.pc) (same_Some _ _ e) in let at = passes.0 in omega arith
  rows_from (first ∷ rows) pc falling passes (suc k) row e =
      let later = rows_from rows (after first) passes.4 passes.7 k row e in
      let at = passes.0 in
      omega arith

  first_or_later : (row : Annotated) (rows : List Annotated) (p : ℕ) (s : AbstractState) → IsBefore (row ∷ rows) p s
      → (row.pc ≡ p) ⊎ IsBefore rows p s
  first_or_later row rows p s (zero, found, is, there, state) = inl (ap (λ (r : Annotated). r.pc) (same_Some _ _ is) ∙ there)
  first_or_later row rows p s (suc k, found, is, there, state) = inr (k, found, is, there, state)

  -- no label is inside the first instruction of a cut
  none_hidden : (row : Annotated) (rows : List Annotated) (pc : ℕ) (out : Option AbstractState) → row.pc ≡ pc
      → IsCutFrom homes plan n here (after row) out rows
      → ((p : ℕ) (f : Frame) → pc ≤ p → IsLabelled here p f → IsBefore (row ∷ rows) p (state_of f))
      → ¬ Hides here pc row.instruction
  none_hidden row rows pc out at passes labels (p, f, labelled, above, below) =
      elim (first_or_later row rows p (state_of f) (labels p f (omega arith) labelled)) [
        | inl same ↦ omega (arith, same)
        | inr later ↦ omega (arith, rows_from rows (after row) out passes later.0 later.1 later.2, later.3)
      ]

  -- the labels of the rest stand in the rest
  labels_of_rest : (row : Annotated) (rows : List Annotated) (pc : ℕ) → row.pc ≡ pc
      → ((p : ℕ) (f : Frame) → pc ≤ p → IsLabelled here p f → IsBefore (row ∷ rows) p (state_of f))
      → (p : ℕ) (f : Frame) → after row ≤ p → IsLabelled here p f → IsBefore rows p (state_of f)
  labels_of_rest row rows pc at labels p f from labelled =
      elim (first_or_later row rows p (state_of f) (labels p f (omega arith) labelled)) [
        | inl same ↦ absurd (omega (arith, same, spelled_some row.instruction))
        | inr later ↦ later
      ]

  front_of_cut : (rows : List Annotated) (pc : ℕ) (falling : Option AbstractState)
      → IsCutFrom homes plan n here pc falling rows
      → ((p : ℕ) (f : Frame) → pc ≤ p → IsLabelled here p f → IsBefore rows p (state_of f))
      → PassesTo homes plan n here pc falling rows (length here.code) None
  front_of_cut [] pc falling passes labels = passes
  front_of_cut (row ∷ rows) pc falling (at, stands, enters, verdict, out, rule, falls, more) labels = (
    at,
    stands,
    enters,
    none_hidden row rows pc out at more labels,
    verdict,
    out,
    rule,
    falls,
    front_of_cut rows (after row) out more (labels_of_rest row rows pc at labels),
  )

  -- Where there is a cut, the pass finds nothing wrong.
  pub pass_of_cut : (rows : List Annotated) → IsCut homes plan n here rows → Pass homes plan n here pass_start Passed
  pass_of_cut rows cut =
      pass_of_front rows 0 0 None (length here.code) None Passed
      (front_of_cut rows 0 None cut.passes (λ p f from labelled. cut.labels p f labelled))
      (ends (last_from 0 rows) (length here.code) refl)
