-- A safe bench that makes a step has a record of it, and any record of it takes it back.
use Rattle.std.proofs.Common.{Ok, refl, sym, subst}
use Rattle.burr_verify.specs.Laws.VerifyLaws.{FittingIsFromContainer}
use Rattle.burr_state.specs.declared.effect.Progress.TheVariants as progress
use Rattle.burr_state.specs.Rules.Bench.{BenchState}
use Rattle.burr_state.specs.Views.Benches.{setup_of, in_state}
use Rattle.burr_state.specs.Rules.Step.{Called}
use Rattle.burr_state.specs.Rules.Undo.{Undo, record_of, IsRecordOf}
use Rattle.burr_state.proofs.Common.Undo.{records_go_back, runs_where_stepped, stands_there}
use Rattle.burr_bench.specs.Soundness.Machine.{IsSafeBench}
use Rattle.burr_bench.specs.Soundness.Records.{StepIsRecorded, EachRecordUndoes}
use Rattle.burr_bench.proofs.Common.Machine.{counted}

pub each_record_undoes : FittingIsFromContainer → EachRecordUndoes
each_record_undoes given b answer motion new u safe called is =
    let running = runs_where_stepped (setup_of b) b.state new answer motion b.state.mode refl called in
    let few = counted given b safe running in
    let same = records_go_back (setup_of b) b.state new answer motion u running few called is in (
      record {
        safe = subst (λ (x : BenchState). IsSafeBench (in_state x b)) (sym same) safe;
        answer = answer;
        motion = motion;
        steps =
            subst (λ (x : BenchState). Called (setup_of b) x answer (Ok (progress.Went motion)) new) (sym same)
            called;
        is_record = subst (λ (x : BenchState). IsRecordOf (setup_of b) x u) (sym same) is;
      },
      same,
    )

pub step_is_recorded : FittingIsFromContainer → StepIsRecorded
step_is_recorded given b answer motion new safe called =
    let running = runs_where_stepped (setup_of b) b.state new answer motion b.state.mode refl called in
    let at = stands_there (setup_of b) b.state new answer motion running called in
    let u : Undo = record_of at.0 b.state at.1 in
    let undoes = each_record_undoes given b answer motion new u safe called (at.0, at.1, at.2, refl) in
    (u, undoes.0, undoes.1)
