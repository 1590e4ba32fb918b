use Rattle.std.proofs.Common.{◌∙◌}
use Rattle.burr_plantext.proofs.Common.Blanks.{number_lacks}
use Rattle.burr_plantext.specs.Rules.Texts.{words_of}
use Rattle.burr_plantext.specs.Rules.Written.{is_number}
use Rattle.burr_asm.specs.Views.LineWords.{range_between}
use Rattle.burr_asm.proofs.Operands.{two_none, two_some, last_failed, last_passed}
use Rattle.burr_asm.proofs.text.line.RangeWords.parse.Goals as goal

pub returns-in_err-low : goal.returns-in_err-low
returns-in_err-low c = rw c.from_residual.ensures (two_none is_number is_number range_between (words_of c.args.bytes.now) c.in_err-low.ensures)

pub returns-in_err-high : goal.returns-in_err-high
returns-in_err-high c = rw c.from_residual-in_err-high.ensures
    (two_some is_number is_number range_between (words_of c.args.bytes.now) (words_of c.in_ok-low.high.now) c.in_ok-low.low.bytes.now c.in_ok-low.ensures
    ∙ last_failed is_number number_lacks (range_between c.in_ok-low.low.bytes.now) c.in_ok-low.high.now c.in_err-high.ensures)

pub returns : goal.returns
returns c =
    two_some is_number is_number range_between (words_of c.args.bytes.now) (words_of c.in_ok-low.high.now) c.in_ok-low.low.bytes.now c.in_ok-low.ensures
    ∙ last_passed is_number number_lacks (range_between c.in_ok-low.low.bytes.now) c.in_ok-low.high.now _ c.in_ok-high.ensures.0 c.in_ok-high.ensures.1
