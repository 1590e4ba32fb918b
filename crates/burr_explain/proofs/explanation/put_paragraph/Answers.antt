use Rattle.std.proofs.Common.{ℕ, List, subst}
use Rattle.burr_io.proofs.Common.Puts.{Puts-more, Puts-fails}
use Rattle.burr_io.specs.Sink.{Puts}
use Rattle.burr_explain.specs.Layout.{paragraph}
use Rattle.burr_explain.proofs.explanation.put_paragraph.Goals as goal

pub returns-in_err-put_all : goal.returns-in_err-put_all
returns-in_err-put_all g c = Puts-fails _ c.in_err-put_all.ensures.puts c.from_residual.ensures.0

pub returns : goal.returns
returns g c =
    subst (λ (text : List ℕ). Puts g.W.Sink c.args.sink.now c.put_words.new.sink (paragraph c.args.before.now text) c.put_words.result) c.as_bytes.ensures.value
    (Puts-more c.in_ok-put_all.ensures.puts c.put_words.ensures)
