-- The run of an accepted plan is safe.
use Rattle.std.proofs.Common.{◌≡◌, ℕ, ◌≤◌, ℤ, List, length, refl, sym, subst, inl, inr}
use Rattle.std.specs.Prelude.{IsTrue, Result, Ok, Err, IfOk, OnErr}
use Rattle.std.proofs.lemmas.List.{length-map}
use Rattle.burr_voxels.specs.declared.cell.Cell.{Cell}
use Rattle.burr_assembly.specs.Rules.Text.{Assembly, IsAssembly}
use Rattle.burr_assembly.specs.Rules.Homes.{homes_of, home_of}
use Rattle.burr_assembly.proofs.Common.HomeCells.{have_homes}
use Rattle.burr_assembly.proofs.Common.OneHomes.{one_homes}
use Rattle.burr_container.specs.Rules.Plans.{Plan}
use Rattle.burr_container.specs.Rules.Fitting.{is_fitting}
use Rattle.burr_frames.specs.Rules.FramedPlans.{framed_plan}
use Rattle.burr_io.specs.Sink.{SinkView}
use Rattle.burr_io.specs.declared.sink.WriteFault.{WriteFault}
use Rattle.burr_verify.specs.Rules.Accepting.{Judged, IsAccepted}
use Rattle.burr_verify.specs.Laws.VerifyLaws.{FittingIsFromContainer}
use Rattle.burr_verify.specs.Rules.WellFramed.{IsWellFramed}
use Rattle.burr_state.specs.declared.effect.Closing.{Closing}
use Rattle.burr_state.specs.declared.effect.Closing.TheVariants as closings
use Rattle.burr_state.specs.declared.effect.Motion.{Motion}
use Rattle.burr_state.specs.Rules.Bench.{Setup, BenchState, Program, running, start}
use Rattle.burr_bench.specs.Soundness.Framing.{framed_setup}
use Rattle.burr_state.specs.Views.Programs.{plan_program}
use Rattle.burr_state.specs.Rules.Run.{Run}
use Rattle.burr_bench.specs.Soundness.SafeRuns.{IsSafeRun, ClosesWell}
use Rattle.burr_bench.specs.Soundness.Laws.{VerifierIsSound}
use Rattle.burr_state.specs.Laws.SpaceLaws.{HomesAreDisjoint}
use Rattle.burr_bench.proofs.Common.FramedSetup.{same_setup}
use Rattle.burr_runs.specs.declared.text_runs.Outcome.{Outcome}
use Rattle.burr_runs.specs.Rules.Headline.{setup_for, IsSafeSheetOf, EndsWell, PutsSafely, FailsSafely}
use Rattle.burr_runs.specs.Views.Running.{PutsSheet, FailsInSheet}
use Rattle.burr_runs.specs.Rules.Output.{outcome_of, IsSheetOf}

-- the laws that the headline rests on
pub record Laws : Type 0 where
  pub sound : VerifierIsSound
  pub from_container : FittingIsFromContainer
  pub disjoint : HomesAreDisjoint

-- a run of a plan is one from its start
abbrev pub RunsFromStart : ℕ → List ℤ → List Motion → ℕ → Closing → Setup → Type 0
RunsFromStart budget answers motions steps closing setup =
    Run setup budget (start setup) answers motions steps closing

abbrev pub RunsSafelyFromStart : ℕ → List ℤ → List Motion → ℕ → Closing → Setup → Type 0
RunsSafelyFromStart budget answers motions steps closing setup =
    IsSafeRun setup budget (start setup) answers motions steps closing

safe_run : Laws → (a : Assembly) (p : Plan) (answers : List ℤ) (motions : List Motion) (steps : ℕ) (closing : Closing)
    → IsAssembly a → IsTrue (is_fitting p) → IsWellFramed a.name (homes_of a) (framed_plan p)
    → RunsFromStart p.budget answers motions steps closing (setup_for a p)
    → RunsSafelyFromStart p.budget answers motions steps closing (setup_for a p)
safe_run laws a p answers motions steps closing is fits framed run =
    let homes = homes_of a in
    let many : length homes ≡ length a.pieces = length-map a.pieces (home_of a.shapes) in
    let setups = same_setup p homes in
    let at_framed : RunsFromStart p.budget answers motions steps closing (framed_setup (framed_plan p) homes) =
    subst (RunsFromStart p.budget answers motions steps closing) (sym setups) run in
    subst (RunsSafelyFromStart p.budget answers motions steps closing) setups
    (laws.sound a.name homes (framed_plan p) (laws.from_container p fits) framed (laws.disjoint a is).0
    (subst (λ (n : ℕ). 2 ≤ n) (sym many) is.pieces.0) (subst (λ (n : ℕ). n ≤ 32) (sym many) is.pieces.1)
    answers motions steps closing at_framed)

-- the sheet of a run of an accepted plan is that of a safe run
pub safe_sheet : Laws → (a : Assembly) (p : Plan) (answers : List ℤ) (output : List ℕ) (outcome : Outcome)
    → IsAssembly a → IsTrue (is_fitting p) → IsWellFramed a.name (homes_of a) (framed_plan p)
    → IsSheetOf a (plan_program p) answers output outcome → IsSafeSheetOf a p answers output outcome
safe_sheet laws a p answers output outcome is fits framed s =
    let same : s.homes ≡ homes_of a = one_homes a a.pieces s.homes (homes_of a) is.shape_names s.cells (have_homes a is) in
    let run = subst (λ (homes : List (List Cell)). RunsFromStart p.budget answers s.motions s.steps s.closing (running homes (plan_program p))) same s.run in
    record {
      motions = s.motions;
      steps = s.steps;
      closing = s.closing;
      run = run;
      safe = safe_run laws a p answers s.motions s.steps s.closing is fits framed run;
      text = s.text;
      closes = s.closes;
    }

closes_well : (setup : Setup) (budget : ℕ) (last : BenchState) (left : List ℤ) (closing : Closing)
    → ClosesWell setup budget last left closing → EndsWell (outcome_of closing)
closes_well setup budget last left closings.Apart closes = inl refl
closes_well setup budget last left (closings.Waiting low high) closes = inr refl
closes_well setup budget last left (closings.Trapped trap procedure pc) closes = absurd closes
closes_well setup budget last left closings.Stopped closes = absurd closes

pub ends_well : (a : Assembly) (p : Plan) (answers : List ℤ) (output : List ℕ) (outcome : Outcome)
    → IsSafeSheetOf a p answers output outcome → EndsWell outcome
ends_well a p answers output outcome s =
    subst EndsWell (sym s.closes) (closes_well (setup_for a p) p.budget s.safe.last s.safe.left s.closing s.safe.closes)

-- The sheet of a program on an assembly that are the accepted ones

pub safe_of : Laws → (j : Judged) (accepted : IsAccepted j) (a : Assembly) (program : Program) (answers : List ℤ) (output : List ℕ) (outcome : Outcome)
    → a ≡ j.assembly → program ≡ plan_program accepted.plan → IsSheetOf a program answers output outcome
    → IsSafeSheetOf j.assembly accepted.plan answers output outcome
safe_of laws j accepted a program answers output outcome a_is program_is s =
    safe_sheet laws j.assembly accepted.plan answers output outcome accepted.is_assembly accepted.fits accepted.framed
    (subst (λ (b : Assembly). IsSheetOf b (plan_program accepted.plan) answers output outcome) a_is
    (subst (λ (q : Program). IsSheetOf a q answers output outcome) program_is s))

pub puts_safely : {S : Type 0} (sink : SinkView S) (before after : S) → Laws → (j : Judged) (accepted : IsAccepted j) (a : Assembly) (program : Program) (answers : List ℤ)
    → a ≡ j.assembly → program ≡ plan_program accepted.plan → (result : Result Outcome WriteFault)
    → IfOk result (PutsSheet sink before after a program answers)
    → IfOk result (PutsSafely sink before after j answers)
puts_safely sink before after laws j accepted a program answers a_is program_is (Ok outcome) puts =
    (accepted.plan, accepted.is_container, puts.0, safe_of laws j accepted a program answers puts.0 outcome a_is program_is puts.1, puts.2)
puts_safely sink before after laws j accepted a program answers a_is program_is (Err e) puts = tt

pub fails_safely : {S : Type 0} (sink : SinkView S) (before after : S) → Laws → (j : Judged) (accepted : IsAccepted j) (a : Assembly) (program : Program) (answers : List ℤ)
    → a ≡ j.assembly → program ≡ plan_program accepted.plan → (result : Result Outcome WriteFault)
    → OnErr result (FailsInSheet sink before after a program answers)
    → OnErr result (FailsSafely sink before after j answers)
fails_safely sink before after laws j accepted a program answers a_is program_is (Ok outcome) fails = tt
fails_safely sink before after laws j accepted a program answers a_is program_is (Err e) fails =
    (accepted.plan, accepted.is_container, fails.0, fails.1, safe_of laws j accepted a program answers fails.0 fails.1 a_is program_is fails.2, fails.3)

pub each_ends_well : {S : Type 0} (sink : SinkView S) (before after : S) (j : Judged) (answers : List ℤ) (result : Result Outcome WriteFault)
    → IfOk result (PutsSafely sink before after j answers) → IfOk result EndsWell
each_ends_well sink before after j answers (Ok outcome) puts = ends_well j.assembly puts.0 answers puts.2 outcome puts.3
each_ends_well sink before after j answers (Err e) puts = tt
