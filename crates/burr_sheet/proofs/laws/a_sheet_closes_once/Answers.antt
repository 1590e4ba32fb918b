use Rattle.burr_sheet.proofs.ClosingLines.{ends_in_closing, closes_in_one_line}
use Rattle.burr_sheet.proofs.OneClosing.{closes_once}
use Rattle.burr_sheet.proofs.laws.a_sheet_closes_once.Goals as goal

pub returns : goal.returns
returns c = record { ends = ends_in_closing; line = closes_in_one_line; once = closes_once }
