-- The status that goes with a fault.
use Rattle.burr_judge.specs.declared.status.Status.{Status}
use Rattle.burr_judge.specs.declared.status.Status.TheVariants as statuses
use Rattle.burr_c.specs.declared.printed.CallFault.{CallFault}
use Rattle.burr_c.specs.declared.printed.CallFault.TheVariants as faults

-- the status of a fault
abbrev pub status_of_fault : CallFault → Status
status_of_fault faults.TooLong = statuses.Failed
status_of_fault faults.Memory = statuses.Memory
