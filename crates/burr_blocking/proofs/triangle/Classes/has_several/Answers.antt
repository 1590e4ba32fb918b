use Rattle.std.proofs.Common.{ap, ◌∙◌, arith}
use Rattle.std.proofs.lemmas.List.{get_or_default}
use Rattle.burr_text.proofs.Common.Tests.{no_iff}
use Rattle.burr_blocking.specs.declared.triangle.translate.Translate.{Translate}
use Rattle.burr_blocking.proofs.Classed.{none_more, none_at_all}
use Rattle.burr_blocking.proofs.triangle.Classes.has_several.Goals.{else-piece-from-via-then-piece-from+else-index-class, else-piece-from-via-else-piece-from}
use Rattle.burr_blocking.proofs.triangle.Classes.has_several.Goals as goal

pub loop-piece-preserved : goal.loop-piece-preserved
loop-piece-preserved c = λ p lt. none_more c.args.self.now c.args.class c.loop-piece.piece p c.loop-piece.invariant
    (λ another. elim c.else-piece-from.branch [
      | else-piece-from-via-then-piece-from+else-index-class w ↦
          w.if-index-class.false (ap (λ (t : Translate). t.class) w.index-then-piece-from.ensures ∙ another.1.1 w.index-then-piece-from.result.now)
      | else-piece-from-via-else-piece-from w ↦
          another.0 (w.if-piece-from.false ∙ c.from.ensures ∙ c.index.ensures ∙ get_or_default c.args.self.now.representatives.items c.args.class c.index.result.now 0 c.requires)
    ]) lt

pub returns : goal.returns
returns c = no_iff (none_at_all c.args.self.now c.args.class c.loop-piece.piece (omega (arith, c.loop-piece-test.false, c.len-piece-end.ensures, c.args.self.now.translates.ok.0)) c.loop-piece.invariant)
