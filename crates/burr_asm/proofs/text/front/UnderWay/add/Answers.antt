use Rattle.std.proofs.lemmas.Result.{err_from_is_err_and}
use Rattle.burr_asm.specs.Views.LineWords.{line_words}
use Rattle.burr_asm.proofs.FrontSteps.{stage_goes_on, stage_refused}
use Rattle.burr_asm.proofs.text.front.UnderWay.add.Goals as goal

pub returns-in_err-next : goal.returns-in_err-next
returns-in_err-next c =
    let p = err_from_is_err_and c.from_residual.result c.from_residual.ensures.1 in
    rw (p.1, p.2)
    (stage_refused c.args.self.now.outline c.args.self.now.routine c.next.new.routine c.args.self.now.stage c.pieces-pieces.result (line_words c.args.form) c.args.line c.in_err-next.field-0.0
    c.pieces-pieces.ensures.count c.in_err-next.ensures)

pub returns-in-None : goal.returns-in-None
returns-in-None c =
    stage_goes_on c.args.self.now.outline c.args.self.now.routine c.next.new.routine c.args.self.now.stage c.next.new.self c.pieces-pieces.result (line_words c.args.form) c.args.line
    c.pieces-pieces.ensures.count (rw c.in-None.is at c.in_ok-next.ensures)

pub returns-in-Some : goal.returns-in-Some
returns-in-Some c =
    stage_goes_on c.args.self.now.outline c.args.self.now.routine c.next.new.routine c.args.self.now.stage c.in-Some.next c.pieces-pieces.result (line_words c.args.form) c.args.line
    c.pieces-pieces.ensures.count (rw c.in-Some.is at c.in_ok-next.ensures)

pub next-requires-clause-few : goal.next-requires-clause-few
next-requires-clause-few c = c.pieces-pieces.ensures.few

pub next-requires-clause-several : goal.next-requires-clause-several
next-requires-clause-several c = c.pieces-pieces.ensures.several
