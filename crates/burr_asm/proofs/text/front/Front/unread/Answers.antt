use Rattle.std.proofs.Common.{sym, ◌∙◌, true, false}
use Rattle.burr_plantext.specs.Rules.Texts.{first_word}
use Rattle.burr_asm.proofs.FrontFaults.{unread_fault}
use Rattle.burr_asm.proofs.text.front.Front.unread.Goals as goal

pub returns-then-misses_part : goal.returns-then-misses_part
returns-then-misses_part c =
    unread_fault c.args.self.now (first_word c.args.bytes.now) c.args.line true (sym c.misses_part.ensures ∙ c.if-misses_part.true)

pub returns-else-misses_part : goal.returns-else-misses_part
returns-else-misses_part c =
    unread_fault c.args.self.now (first_word c.args.bytes.now) c.args.line false (sym c.misses_part.ensures ∙ c.if-misses_part.false)
