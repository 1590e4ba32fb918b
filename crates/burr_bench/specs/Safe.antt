-- What holds of each machine, which runs an accepted plan.
use Rattle.burr_state.specs.Views.Benches.{Benched}
use Rattle.burr_state.specs.Views.Programs.{FitsProgram}
use Rattle.burr_bench.specs.Soundness.Machine.{IsSafeBench}
use Rattle.burr_bench.specs.Sound.{IsSound}

-- it is a bench at work, and before each of its calls what the verifier knows of the next
-- instruction holds, callers and costs included, or the run has ended well
pub record IsSafe (b : Benched) : Type 0 where
  pub sound : IsSound b
  pub safe : IsSafeBench b

-- a machine stands there, and its state is one of its program: so it can be suspended and gone on with
pub record IsResumable (b : Benched) : Type 0 where
  pub safe : IsSafe b
  pub fits : FitsProgram b.program.procedures b.state
