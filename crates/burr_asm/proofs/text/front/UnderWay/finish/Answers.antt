use Rattle.std.proofs.Common.{refl, ◌∙◌}
use Rattle.std.proofs.lemmas.Result.{err_from_is_err_and}
use Rattle.burr_asm.proofs.LastProcedure.{ends_too_early, ends_well, ends_with_bare_label}
use Rattle.burr_asm.proofs.text.front.UnderWay.finish.Goals as goal

pub returns-in_err-end : goal.returns-in_err-end
returns-in_err-end c =
    let p = err_from_is_err_and c.from_residual.result c.from_residual.ensures.1 in
    λ number place b is h.
    ends_too_early number place _ _ c.args.self.now.outline c.args.self.now.routine c.args.self.now.stage b refl is h _ _ p.1 (rw p.2 c.in_err-end.ensures)

pub returns-in_err-end-2 : goal.returns-in_err-end-2
returns-in_err-end-2 c =
    let p = err_from_is_err_and c.from_residual-in_err-end-2.result c.from_residual-in_err-end-2.ensures.1 in
    λ number place b is h.
    ends_with_bare_label number place _ _ c.args.self.now.outline c.args.self.now.routine c.args.self.now.stage b refl is h _ _ _ p.1 c.in_ok-end.ensures (rw p.2 c.in_err-end-2.ensures)

pub returns : goal.returns
returns c =
    λ number place b is h.
    ends_well number place _ _ c.args.self.now.outline c.args.self.now.routine c.args.self.now.stage b refl is h _ _ _ c.in_ok-end.ensures c.in_ok-end-2.ensures.0 (c.take.ensures ∙ c.in_ok-end-2.ensures.1) c.resolve.ensures
