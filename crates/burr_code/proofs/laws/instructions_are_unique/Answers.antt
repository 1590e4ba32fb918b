-- What bytes begin with, and what stands at a place, is one instruction at most.
use Rattle.burr_code.proofs.Common.Reading.{one_begins, one_stands_at}
use Rattle.burr_code.proofs.laws.instructions_are_unique.Goals as goal

pub returns-clause-begins : goal.returns-clause-begins
returns-clause-begins c = one_begins

pub returns-clause-stands : goal.returns-clause-stands
returns-clause-stands c = one_stands_at
