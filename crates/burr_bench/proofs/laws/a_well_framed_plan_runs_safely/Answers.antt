use Rattle.burr_bench.proofs.Soundness.Sound.{verifier_is_sound, accepted_has_runs}
use Rattle.burr_bench.proofs.laws.a_well_framed_plan_runs_safely.Goals as goal

pub returns : goal.returns
returns c = record { safe = verifier_is_sound; some = accepted_has_runs }
