-- The next term is written.
use Rattle.std.proofs.Common.{◌≡◌, ℤ, List, get_or, arith, length, rules, sym, ap, ◌∙◌, pos, FitsSigned}
use Rattle.std.specs.Int.{w64}
use Rattle.std.proofs.lemmas.Int.{to_z-of_z}
use Rattle.burr_forms.specs.Rules.Forms.{Form}
use Rattle.burr_plantext.proofs.Steps.{next_term, one_more}
use Rattle.burr_plantext.proofs.frames.add_form.Goals as goal

pub loop-symbol-preserved : goal.loop-symbol-preserved
loop-symbol-preserved c =
    let symbols = c.args.symbols.now in
    let coefs = c.args.form.now.coefs in
    let v = c.loop-symbol.symbol in
    let same : c.form.inside.coefs ≡ coefs = ap (λ (f : Form). f.coefs) c.form.view_is in
    let long : length symbols ≡ 8 = c.told-symbols in
    let eight : length c.form.inside.coefs ≡ 8 = search rules in
    let many : length coefs ≡ 8 = ap (λ (cs : List ℤ). length cs) (sym same) ∙ eight in
    let fits : FitsSigned w64 (get_or c.form.inside.coefs v (pos 0)) = search rules in
    rw (c.in_ok-add_term.ensures, to_z-of_z w64 (get_or c.form.inside.coefs v (pos 0)) fits, same)
    (one_more c.loop-symbol.text.items _ _ _ _ c.loop-symbol.invariant (next_term v symbols coefs (omega (arith, long)) (omega (arith, many))))
