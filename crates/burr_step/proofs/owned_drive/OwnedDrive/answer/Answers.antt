use Rattle.std.proofs.Common.{◌≡◌, ◌∙◌, ap, subst, w32, ℤ}
use Rattle.std.proofs.lemmas.Int.{to_z-of_z}
use Rattle.burr_state.specs.Rules.Bench.{Program}
use Rattle.burr_step.specs.Views.Driving.{Answers, Driving, resumed}
use Rattle.burr_step.proofs.OwnedDrives.{answers_same, is_resumed, lasts}
use Rattle.burr_step.proofs.owned_drive.OwnedDrive.answer.Goals as goal

-- the answer that is handed on is the one that was given
came : (c : goal.After-self-1) → Answers c.args.question c.args.answer c.resume-drive.result c.answer-taken.result c.answer-taken.new.self
came c =
    subst (λ (n : ℤ). Answers c.args.question n c.resume-drive.result c.answer-taken.result c.answer-taken.new.self) (to_z-of_z w32 c.args.answer c.ranges.answer)
    c.answer-taken.ensures

-- the drive that is lent stands where the one that is kept did
lent : (c : goal.After-self-1) → c.resume-drive.result ≡ resumed c.self.inside.assembly c.self.inside.program c.replace-standing.result
lent c = c.resume-drive.ensures ∙ ap (λ (w : Program). resumed c.self.inside.assembly w c.replace-standing.result) c.lend.ensures

pub invariant_of-self : goal.invariant_of-self
invariant_of-self c =
    let old = c.resume-drive.result in
    let new = c.answer-taken.new.self in
    lasts c.self.inside.assembly c.self.inside.program c.replace-standing.result c.suspend-self-inside.result old new (lent c)
    (answers_same c.args.question c.args.answer old new c.answer-taken.result (came c)) c.suspend-self-inside.ensures.stands c.suspend-self-inside.ensures.lasting

pub returns : goal.returns
returns c =
    let a = c.self.inside.assembly in
    let w = c.self.inside.program in
    let old = c.resume-drive.result in
    let new = c.answer-taken.new.self in
    let stood : old ≡ c.args.self.now = lent c ∙ ap (resumed a w) c.replace-standing.ensures.value ∙ c.self.view_is in
    let stands = is_resumed a w c.replace-standing.result c.suspend-self-inside.result old new (lent c)
    (answers_same c.args.question c.args.answer old new c.answer-taken.result (came c)) c.suspend-self-inside.ensures.stands in
    subst (λ (d : Driving). Answers c.args.question c.args.answer d c.answer-taken.result (resumed a w c.suspend-self-inside.result)) stood
    (subst (Answers c.args.question c.args.answer old c.answer-taken.result) stands (came c))
