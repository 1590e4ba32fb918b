-- The slot is no parameter of the procedure.
use Rattle.std.proofs.Common.{◌≡◌, rules}
use Rattle.burr_frames.proofs.Common.Heres.{parameters_read}
use Rattle.burr_frames.proofs.state.State.store.Goals as goal

pub returns-then-v-params-clause-verdict : goal.returns-then-v-params-clause-verdict
returns-then-v-params-clause-verdict c = λ p here is at.
    let few : here.parameters ≡ c.params.result = parameters_read c.args.procedure c.params.result c.params.ensures.plan p here is at in search rules

pub returns-in_err-form-clause-verdict : goal.returns-in_err-form-clause-verdict
returns-in_err-form-clause-verdict c = λ p here is at.
    let few : here.parameters ≡ c.params.result = parameters_read c.args.procedure c.params.result c.params.ensures.plan p here is at in search rules

pub returns-in_err-cost-clause-verdict : goal.returns-in_err-cost-clause-verdict
returns-in_err-cost-clause-verdict c = λ p here is at.
    let few : here.parameters ≡ c.params.result = parameters_read c.args.procedure c.params.result c.params.ensures.plan p here is at in search rules

pub returns-clause-verdict : goal.returns-clause-verdict
returns-clause-verdict c = λ p here is at.
    let few : here.parameters ≡ c.params.result = parameters_read c.args.procedure c.params.result c.params.ensures.plan p here is at in search rules
