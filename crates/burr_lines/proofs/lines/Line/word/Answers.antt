use Rattle.std.proofs.Common.{arith}
use Rattle.burr_lines.proofs.TextLines.{no_more_words, word_is_alone, word_is_first, word_passed}
use Rattle.burr_lines.proofs.lines.Line.word.Goals as goal

pub returns-in-None : goal.returns-in-None
returns-in-None c = no_more_words c.loop.rest.now c.loop.counter c.args.place _ c.in-None.ensures (omega arith) c.loop.invariant

pub loop-preserved : goal.loop-preserved
loop-preserved c = word_passed _ c.in-Some.field-0-0.now c.in-Some.after.now c.loop.counter c.args.place _ c.in-Some.ensures (omega arith) c.loop.invariant

pub returns-in-Some-cut_at : goal.returns-in-Some-cut_at
returns-in-Some-cut_at c = word_is_first c.loop.rest.now _ _ c.loop.counter c.args.place _ c.in-Some-cut_at.ensures (omega arith) c.loop.invariant

pub returns-in-None-cut_at : goal.returns-in-None-cut_at
returns-in-None-cut_at c = word_is_alone c.loop.rest.now c.loop.counter c.args.place _ c.in-None-cut_at.ensures (omega arith) c.loop.invariant
