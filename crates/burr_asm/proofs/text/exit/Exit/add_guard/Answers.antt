use Rattle.burr_plantext.specs.Rules.Checks.{P1}
use Rattle.burr_asm.proofs.Refusals.{refused}
use Rattle.burr_asm.proofs.ExitParts.{late_guard, guard_added}
use Rattle.burr_asm.proofs.text.exit.Exit.add_guard.Goals as goal

pub returns-then-not-takes_guards : goal.returns-then-not-takes_guards
returns-then-not-takes_guards c = λ version h e is.
    refused _ P1 c.args.line (late_guard c.args.self.now version h e is c.args.form.bytes.now c.takes_guards.result c.takes_guards.ensures c.if-not-takes_guards.true)

pub returns : goal.returns
returns c = λ version h e is.
    guard_added c.args.self.now version h e is c.symbols-symbols.result c.args.form.bytes.now c.args.line c.takes_guards.result c.add_guard.new.frame c.add_guard.result c.symbols-symbols.ensures c.takes_guards.ensures c.if-not-takes_guards.false c.add_guard.ensures
