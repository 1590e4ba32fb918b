use Rattle.std.proofs.Common.{◌≡◌, ◌∷◌, [], ℕ, List, sym, subst, ◌∙◌}
use Rattle.std.specs.Prelude.{codes, decimal}
use Rattle.burr_text.specs.Words.{text_line}
use Rattle.burr_io.specs.Sink.{Puts}
use Rattle.burr_io.specs.LineWriter.{lines_view}
use Rattle.burr_program.specs.Ends.{runs_line}
use Rattle.burr_program.proofs.HowFar.{tells}
use Rattle.burr_program.proofs.commands.frames.tell_runs.Goals as goal

pub returns : goal.returns
returns g c =
    let number : c.as_bytes.result.now ≡ decimal c.args.count = c.as_bytes.ensures.value ∙ c.format.ensures.text in
    let put = subst (λ (number : List ℕ). Puts (lines_view g.E.Sink) c.args.errors.now c.put_words.new.sink (text_line (codes "frames:" ∷ number ∷ codes "runs" ∷ [])) c.put_words.result) number c.put_words.ensures in
    tells g.E.Sink c.args.errors.now c.put_words.new.sink c.flush.new.self (runs_line c.args.count) c.put_words.result c.flush.result (sym c.failed.ensures ∙ c.if-failed.false) c.requires.ready
    put c.flush.ensures.puts c.flush.ensures.nothing c.flush.ensures.for_good
