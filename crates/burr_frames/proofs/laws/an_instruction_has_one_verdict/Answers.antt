-- An instruction has some verdict in a state, and one at most.
use Rattle.burr_frames.proofs.Common.SomeVerdict.{some_verdict}
use Rattle.burr_frames.proofs.Common.Unique.{one_verdict}
use Rattle.burr_frames.proofs.laws.an_instruction_has_one_verdict.Goals as goal

pub returns : goal.returns
returns c = λ homes plan n here s i. (some_verdict homes plan n here s i, one_verdict homes plan n here s i)
