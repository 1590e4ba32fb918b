use Rattle.std.proofs.Common.{ap, sym, ◌∙◌, refl, rules}
use Rattle.burr_plantext.specs.Rules.Written.{is_number}
use Rattle.burr_asm.proofs.FormWords.{constant_cut_by}
use Rattle.burr_asm.proofs.text.form.constant_end.Goals as goal

pub returns-in_err-parse : goal.returns-in_err-parse
returns-in_err-parse c =
    let cut = constant_cut_by c.args.bytes.now _ _ _ _ _ c.in_ok-_first.ensures.cases.0 c.before_sign-end.ensures.value refl refl in
    rw c.from_residual-in_err-parse.ensures (ap is_number (sym cut.constant) ∙ c.in_err-parse.ensures)

pub returns : goal.returns
returns c =
    let cut = constant_cut_by c.args.bytes.now _ _ _ _ _ c.in_ok-_first.ensures.cases.0 c.before_sign-end.ensures.value refl refl in
    (ap is_number (sym cut.constant) ∙ c.in_ok-parse.ensures.0, (search rules, cut))
