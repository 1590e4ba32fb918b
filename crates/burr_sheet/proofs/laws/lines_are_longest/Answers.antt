use Rattle.burr_sheet.proofs.LongestLines.{lines_are_longest}
use Rattle.burr_sheet.proofs.laws.lines_are_longest.Goals as goal

pub returns : goal.returns
returns c = lines_are_longest
