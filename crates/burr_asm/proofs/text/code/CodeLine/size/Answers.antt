use Rattle.std.proofs.Common.{refl}
use Rattle.burr_plantext.specs.Rules.Texts.{words_of}
use Rattle.burr_asm.proofs.StatementBytes.{pick_size}
use Rattle.burr_asm.proofs.text.code.CodeLine.size.Goals as goal

pub returns-in-Pick-clause-value : goal.returns-in-Pick-clause-value
returns-in-Pick-clause-value c = rw c.in-Pick.is (refl, pick_size (words_of c.in-Pick.labels.names.now) c.in-Pick.labels.count c.in-Pick.labels.counted)
