use Rattle.burr_step.proofs.DriveLines.{drive_lines_are_short, one_drive_line}
use Rattle.burr_step.proofs.laws.drive_lines_are_short.Goals as goal

pub returns : goal.returns
returns c = record { short = drive_lines_are_short; one = one_drive_line }
