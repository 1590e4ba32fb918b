use Rattle.std.proofs.Common.{sym, ◌∙◌}
use Rattle.burr_asm.proofs.FrontFaults.{next_skipped}
use Rattle.burr_asm.proofs.text.front.Front.add.Goals as goal

pub returns-then-is_skipped : goal.returns-then-is_skipped
returns-then-is_skipped c =
    next_skipped c.args.self.now c.args.bytes.now c.args.line (sym c.is_skipped.ensures ∙ c.if-is_skipped.true)
