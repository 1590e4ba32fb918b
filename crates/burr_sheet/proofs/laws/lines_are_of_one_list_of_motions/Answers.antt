use Rattle.burr_sheet.proofs.LineByLine.{one_list_of_motions}
use Rattle.burr_sheet.proofs.laws.lines_are_of_one_list_of_motions.Goals as goal

pub returns : goal.returns
returns c = one_list_of_motions
