use Rattle.burr_text.proofs.NameBytes.{IsUtf8-name, IsOk-unless}
use Rattle.burr_text.proofs.name.Name.new.Goals as goal

pub unwrap-text-requires : goal.unwrap-text-requires
unwrap-text-requires c = IsOk-unless _ _ _ _ c.from_utf8.ensures.cases (IsUtf8-name _ c.requires)
