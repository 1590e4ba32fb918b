use Rattle.burr_container.proofs.NameTests.{name_test}
use Rattle.burr_container.proofs.fitting.is_name_text.Goals as goal

pub returns : goal.returns
returns c = name_test _ _ c.is_name.ensures.0 c.is_name.ensures.1
