use Rattle.burr_plantext.proofs.Common.ParsedNumbers.{number_utf8}
use Rattle.burr_asm.proofs.Numbers.{read_as_text}
use Rattle.burr_asm.proofs.text.words.NumberWord.as_str.Goals as goal

pub unwrap-requires : goal.unwrap-requires
unwrap-requires c = read_as_text _ _ _ _ c.from_utf8.ensures.cases (number_utf8 _ c.args.self.formed)
