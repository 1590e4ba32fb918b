-- Bytes are one plan's or have one fault.
use Rattle.burr_container.proofs.Common.Containers.{one_plan, no_fault_of_plan, one_fault}
use Rattle.burr_container.proofs.Common.Judging.Containers.{fault_or_plan}
use Rattle.burr_container.proofs.laws.containers_are_unique.Goals as goal

pub returns-clause-one_plan : goal.returns-clause-one_plan
returns-clause-one_plan c = one_plan

pub returns-clause-fault_or_plan : goal.returns-clause-fault_or_plan
returns-clause-fault_or_plan c = fault_or_plan

pub returns-clause-no_fault_of_plan : goal.returns-clause-no_fault_of_plan
returns-clause-no_fault_of_plan c = no_fault_of_plan

pub returns-clause-one_fault : goal.returns-clause-one_fault
returns-clause-one_fault c = one_fault
