use Rattle.std.proofs.Common.{◌<◌, ◌≤◌, sym, subst}
use Rattle.burr_step.specs.Rules.Drive.{GoesTo}
use Rattle.burr_step.specs.Views.Driving.{Driving, driving, Goes}
use Rattle.burr_step.proofs.Driving.{goes_farther, goes_nowhere}
use Rattle.burr_step.proofs.drive.Drive.go_to.Goals as goal

pub loop-self-init : goal.loop-self-init
loop-self-init c =
    let d = driving c.self.inside.machine c.self.inside.moves c.self.inside.answers in
    let within = subst (λ (e : Driving). e.moves ≤ c.args.number) (sym c.self.view_is) c.requires in
    subst (λ (e : Driving). Goes e e (λ setup f g. GoesTo setup c.args.number f g)) c.self.view_is (goes_nowhere d c.args.number c.self.invariant within)

pub loop-self-preserved : goal.loop-self-preserved
loop-self-preserved c =
    goes_farther c.args.self.now c.loop-self.self c.next.new.self c.args.number c.in_ok-next.field-0 c.loop-self.invariant c.in_ok-next.ensures
    (subst (λ (d : Driving). d.moves < c.args.number) c.self-in-loop-self.view_is c.loop-self-test.true)
