use Rattle.std.proofs.Common.{true, false, ◌≡◌}
use Rattle.burr_step.proofs.UnderWay.{step_on_of, still_of}
use Rattle.burr_step.proofs.stepper.step_on.Goals as goal

pub returns-in-Some-clause-made : goal.returns-in-Some-clause-made
returns-in-Some-clause-made c is =
    let call = c.step_recorded-progress.ensures in
    step_on_of c.args.machine.now c.step_recorded-progress.new.self c.args.answer c.args.records.now c.push.new.self c.step_recorded-progress.result.0
    c.step_recorded-progress.result.1 c.in-Some.undo call.same call.called call.made call.goes_back c.in-Some.is c.push.ensures

pub returns-in-Some-clause-still : goal.returns-in-Some-clause-still
returns-in-Some-clause-still c is = absurd (true-false is)
  where
    true-false : true ≡ false → ⊥
    true-false e = cc

pub returns-in-None-clause-made : goal.returns-in-None-clause-made
returns-in-None-clause-made c is = absurd (false-true is)
  where
    false-true : false ≡ true → ⊥
    false-true e = cc

pub returns-in-None-clause-still : goal.returns-in-None-clause-still
returns-in-None-clause-still c is =
    let call = c.step_recorded-progress.ensures in
    still_of c.args.machine.now c.step_recorded-progress.new.self c.args.answer c.args.records.now c.step_recorded-progress.result.0
    c.step_recorded-progress.result.1 call.called call.made call.goes_back c.in-None.is
