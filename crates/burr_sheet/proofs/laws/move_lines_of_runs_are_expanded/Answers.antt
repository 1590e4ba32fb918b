use Rattle.burr_sheet.proofs.LinesOfRuns.{lines_of_runs_are_of_motions}
use Rattle.burr_sheet.proofs.laws.move_lines_of_runs_are_expanded.Goals as goal

pub returns : goal.returns
returns c = lines_of_runs_are_of_motions
