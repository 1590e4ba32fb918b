use Rattle.std.proofs.Common.{◌≡◌, true, false, refl, ap, sym, ◌∙◌, rules}
use Rattle.burr_sheet.specs.Rules.SheetText.{alone, is_one}
use Rattle.burr_sheet.specs.Views.SheetUnderWay.{move_line_of}
use Rattle.burr_sheet.specs.Views.SheetView.{growing_of, under_way}
use Rattle.burr_text.proofs.Common.Tests.{on_err}
use Rattle.burr_sheet.proofs.Motions.{PutsBefore-fresh, ClosesBefore-other, FailsInMotion-other}
use Rattle.burr_sheet.proofs.sheet.Sheet.line_for.Goals as goal

pub returns-in_default-clause-ok : goal.returns-in_default-clause-ok
returns-in_default-clause-ok g c =
    let one : is_one (move_line_of c.before-in_default.result false) (alone c.args.motion) ≡ true = search rules in
    let none : c.before-in_default.result.units ≡ 0 = search rules in
    rw (← c.self.view_is) (PutsBefore-fresh g.W.Sink _ (under_way c.self.inside) c.args.motion (move_line_of c.before-in_default.result false) (ap growing_of c.in_default.is) one none)

pub returns-in_err-put_line-clause-err : goal.returns-in_err-put_line-clause-err
returns-in_err-put_line-clause-err g c =
    let other = sym c.is_of.ensures ∙ c.if-is_of.false in
    rw (← c.self.view_is)
    (on_err _ (FailsInMotion-other g.W.Sink _ _ (under_way c.self.inside) c.args.motion (move_line_of c.in-Some.line false) (ap growing_of c.in-Some.is) refl other c.in_err-put_line.ensures.puts.err))

pub returns-clause-ok : goal.returns-clause-ok
returns-clause-ok g c =
    let other = sym c.is_of.ensures ∙ c.if-is_of.false in
    let one : is_one (move_line_of c.before-2.result false) (alone c.args.motion) ≡ true = search rules in
    let none : c.before-2.result.units ≡ 0 = search rules in
    rw (← c.self.view_is, c.in_ok-put_line.ensures.names) (
      _,
      c.in_ok-put_line.ensures.puts.ok,
      ClosesBefore-other (under_way c.self.inside) c.args.motion (move_line_of c.in-Some.line false)
          (move_line_of c.before-2.result false) (ap growing_of c.in-Some.is) refl other one none,
    )
