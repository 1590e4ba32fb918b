use Rattle.burr_plantext.specs.Rules.Checks.{P1, P3}
use Rattle.burr_asm.specs.Views.LineWords.{range_words}
use Rattle.burr_asm.proofs.Refusals.{refused}
use Rattle.burr_asm.proofs.ExitParts.{late_result, no_result}
use Rattle.burr_asm.proofs.text.exit.Exit.add_result.Goals as goal

pub returns-in-None : goal.returns-in-None
returns-in-None c = λ version h e is.
    refused _ P3 c.args.line (no_result c.args.self.now version h e is (range_words c.args.words) c.lacks_results.result c.lacks_results.ensures c.if-not-lacks_results.false c.in-None.ensures.value)

pub returns-then-not-lacks_results : goal.returns-then-not-lacks_results
returns-then-not-lacks_results c = λ version h e is.
    refused _ P1 c.args.line (late_result c.args.self.now version h e is (range_words c.args.words) c.lacks_results.result c.lacks_results.ensures c.if-not-lacks_results.true)
