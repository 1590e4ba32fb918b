use Rattle.std.proofs.Common.{◌&&◌, rules, arith, refl, ◌∙◌, ◌≡◌, false, sym, ap, not}
use Rattle.std.proofs.lemmas.List.Folds.{list_all_more}
use Rattle.burr_asm.proofs.Keywords.{no_keyword}
use Rattle.burr_asm.proofs.text.line.Keyword.of.Goals as goal

pub loop-text-preserved : goal.loop-text-preserved
loop-text-preserved c =
    let differs : c.eq.result ≡ false = search rules in
    list_all_more _ _ c.loop-text.text-index _ (omega arith) ∙ (λ i. c.loop-text.invariant i && ap not (sym c.eq.ensures ∙ differs) i)

pub returns : goal.returns
returns c = no_keyword c.args.word.now _ c.loop-text.text-index refl c.loop-text-test.false c.loop-text.invariant
