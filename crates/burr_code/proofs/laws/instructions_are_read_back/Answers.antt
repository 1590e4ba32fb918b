-- At the bytes of an instruction stands that one.
use Rattle.burr_code.proofs.Common.Reading.{stands_at_its_bytes}
use Rattle.burr_code.proofs.laws.instructions_are_read_back.Goals as goal

pub returns : goal.returns
returns c = stands_at_its_bytes
