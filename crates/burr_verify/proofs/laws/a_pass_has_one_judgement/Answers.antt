-- A pass has one judgement: where it finds nothing wrong there is a cut, and a refusal is the first check that fails.
use Rattle.burr_verify.proofs.VerifyLaws.{pass_is_one, pass_is_cut, refusal_is_first}
use Rattle.burr_verify.proofs.laws.a_pass_has_one_judgement.Goals as goal

pub returns : goal.returns
returns c = record { one = pass_is_one; cut = pass_is_cut; first = refusal_is_first }
