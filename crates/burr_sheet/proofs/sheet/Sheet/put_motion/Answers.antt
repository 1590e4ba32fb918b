use Rattle.std.proofs.Common.{Some, false, refl}
use Rattle.burr_sheet.specs.Views.SheetUnderWay.{UnderWay, move_line_of}
use Rattle.burr_sheet.specs.Views.SheetView.{under_way}
use Rattle.burr_text.proofs.Common.Tests.{on_err}
use Rattle.burr_sheet.proofs.Motions.{PutsMotion-step, PutsMotion-out, FailsInMotion-out}
use Rattle.burr_sheet.proofs.sheet.Sheet.put_motion.Goals as goal
use Rattle.burr_sheet.proofs.sheet.Sheet.put_motion.Goals.{then-motion+in_ok-put_line, else-motion}

pub returns-in_err-put_line-clause-err : goal.returns-in_err-put_line-clause-err
returns-in_err-put_line-clause-err g c =
    let line = move_line_of c.in_ok-line.line false in
    let before = rw (← c.self.view_is) at c.in_ok-line.ensures.ok in
    let v : UnderWay = record (under_way c.self.inside) { growing = Some line } in
    on_err _ (FailsInMotion-out g.W.Sink _ _ c.args.self.now v c.args.motion line before refl c.in_ok-line.ensures.one _ c.if-motion.true c.in_err-put_line.ensures.puts.err)

pub returns-clause-ok : goal.returns-clause-ok
returns-clause-ok g c =
    let line = move_line_of c.in_ok-line.line false in
    let before = rw (← c.self.view_is) at c.in_ok-line.ensures.ok in
    let v : UnderWay = record (under_way c.self.inside) { growing = Some line } in
    elim c.if-motion.branch [
      | then-motion+in_ok-put_line w ↦
          rw (w.sink-is, w.self-inside-is, w.in_ok-put_line.ensures.names, w.push.ensures.items)
          (PutsMotion-out g.W.Sink _ _ c.args.self.now v c.args.motion line before refl c.in_ok-line.ensures.one _ w.if-motion.true w.in_ok-put_line.ensures.puts.ok)
      | else-motion w ↦
          rw (w.sink-is, w.self-inside-is, w.with_step.ensures)
          (PutsMotion-step g.W.Sink _ _ c.args.self.now v c.args.motion line before refl c.in_ok-line.ensures.one w.if-motion.false refl)
    ]
