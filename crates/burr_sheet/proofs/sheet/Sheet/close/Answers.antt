use Rattle.std.proofs.Common.{true≢false, sym, ap, ◌∙◌}
use Rattle.burr_io.proofs.Common.Puts.{Puts-more, Puts-fails}
use Rattle.burr_sheet.specs.Views.SheetUnderWay.{UnderWay}
use Rattle.burr_sheet.proofs.End.{still-end, same-levels}
use Rattle.burr_sheet.proofs.sheet.Sheet.close.Goals as goal

pub returns-in_err-put_growing-clause-end : goal.returns-in_err-put_growing-clause-end
returns-in_err-put_growing-clause-end g c = (
  λ failed. absurd (true≢false (sym failed ∙ sym (ap (λ (u : UnderWay). u.failed) c.self.view_is) ∙ c.if-self.false)),
  λ unfailed.
      rw (still-end c.self.inside c.args.self c.args.steps c.args.closing c.self.view_is)
      (Puts-fails _ c.in_err-put_growing.ensures.puts c.from_residual.ensures.0),
)

pub returns-in_err-put_levels-clause-end : goal.returns-in_err-put_levels-clause-end
returns-in_err-put_levels-clause-end g c =
    let short = rw (c.as_slice.ensures.value, same-levels c.self.inside c.self-2.inside _ _ c.self.view_is c.self-2.view_is c.in_ok-put_growing.ensures.levels) at c.in_err-put_levels.ensures in (
      λ failed. absurd (true≢false (sym failed ∙ sym (ap (λ (u : UnderWay). u.failed) c.self.view_is) ∙ c.if-self.false)),
      λ unfailed.
          rw (still-end c.self.inside c.args.self c.args.steps c.args.closing c.self.view_is)
          (Puts-more c.in_ok-put_growing.ensures.puts (Puts-fails _ short c.from_residual-in_err-put_levels.ensures.0)),
    )

pub returns-clause-end : goal.returns-clause-end
returns-clause-end g c =
    let went = rw (c.as_slice.ensures.value, same-levels c.self.inside c.self-2.inside _ _ c.self.view_is c.self-2.view_is c.in_ok-put_growing.ensures.levels) at c.in_ok-put_levels.ensures in (
      λ failed. absurd (true≢false (sym failed ∙ sym (ap (λ (u : UnderWay). u.failed) c.self.view_is) ∙ c.if-self.false)),
      λ unfailed.
          rw (still-end c.self.inside c.args.self c.args.steps c.args.closing c.self.view_is)
          (Puts-more c.in_ok-put_growing.ensures.puts (Puts-more went c.put_closing.ensures)),
    )
