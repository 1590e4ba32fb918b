use Rattle.std.proofs.Common.{ℕ, List, ◌∙◌}
use Rattle.burr_plantext.proofs.Common.Blanks.{set_lacks}
use Rattle.burr_plantext.specs.Rules.Texts.{words_of}
use Rattle.burr_plantext.specs.Rules.Written.{is_number, is_set}
use Rattle.burr_plantext.specs.Rules.Lines.{GripWords}
use Rattle.burr_asm.proofs.Operands.{two_none, two_some, last_failed, last_passed}
use Rattle.burr_asm.proofs.text.line.GripWords.parse.Goals as goal

abbrev words : List ℕ → List ℕ → GripWords
words tray set = record { tray = tray; set = set }

pub returns-in_err-tray : goal.returns-in_err-tray
returns-in_err-tray c = rw c.from_residual.ensures (two_none is_number is_set words (words_of c.args.bytes.now) c.in_err-tray.ensures)

pub returns-in_err-set : goal.returns-in_err-set
returns-in_err-set c = rw c.from_residual-in_err-set.ensures
    (two_some is_number is_set words (words_of c.args.bytes.now) (words_of c.in_ok-tray.set.now) c.in_ok-tray.tray.bytes.now c.in_ok-tray.ensures
    ∙ last_failed is_set set_lacks (words c.in_ok-tray.tray.bytes.now) c.in_ok-tray.set.now c.in_err-set.ensures)

pub returns : goal.returns
returns c =
    two_some is_number is_set words (words_of c.args.bytes.now) (words_of c.in_ok-tray.set.now) c.in_ok-tray.tray.bytes.now c.in_ok-tray.ensures
    ∙ last_passed is_set set_lacks (words c.in_ok-tray.tray.bytes.now) c.in_ok-tray.set.now _ c.in_ok-set.ensures.0 c.in_ok-set.ensures.1
