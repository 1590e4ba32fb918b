use Rattle.burr_verify.proofs.OnePass.{some_pass_looks, one_pass_looks}
use Rattle.burr_verify.proofs.laws.a_pass_has_so_many_looks.Goals as goal

pub returns : goal.returns
returns c = record { some = some_pass_looks; one = one_pass_looks }
