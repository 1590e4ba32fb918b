use Rattle.burr_container.specs.Rules.Fitting.{is_name_text}
use Rattle.burr_plantext.proofs.Common.WordTests.{name_result}
use Rattle.burr_asm.proofs.Words.{word_found}
use Rattle.burr_asm.proofs.text.words.name.Goals as goal

pub returns : goal.returns
returns c = rw c.then_some.ensures (word_found is_name_text _ _ (name_result _ _ c.is_name.ensures))
