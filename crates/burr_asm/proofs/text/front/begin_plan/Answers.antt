use Rattle.std.proofs.Common.{refl}
use Rattle.burr_asm.specs.declared.text.front.Front.TheVariants.{AwaitsPlan}
use Rattle.burr_asm.proofs.FrontSteps.{title_taken, title_other}
use Rattle.burr_asm.proofs.text.front.begin_plan.Goals as goal

pub returns-in_ok-new-in-Plan : goal.returns-in_ok-new-in-Plan
returns-in_ok-new-in-Plan c =
    let (passed, same) = c.in_ok-new-in-Plan.ensures in
    title_taken AwaitsPlan c.args.form c.in-Plan.words c.in_ok-new-in-Plan.field-0 c.args.line refl c.in-Plan.is passed same

pub returns-in_default : goal.returns-in_default
returns-in_default c = title_other AwaitsPlan c.args.form c.args.line refl c.in_default.not-Plan
