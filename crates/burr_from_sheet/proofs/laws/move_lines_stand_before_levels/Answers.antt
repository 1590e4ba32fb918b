use Rattle.burr_from_sheet.proofs.BeforeLevels.{move_lines_before}
use Rattle.burr_from_sheet.proofs.laws.move_lines_stand_before_levels.Goals as goal

pub returns : goal.returns
returns c = move_lines_before
