-- How far a sheet is, by its fields.
use Rattle.std.specs.Prelude.{Option, Some, None, false}
use Rattle.burr_sheet.specs.declared.sheet.GrowingLine.{GrowingLine}
use Rattle.burr_sheet.specs.declared.sheet.Sheet.TheInside.{Inside}
use Rattle.burr_sheet.specs.Rules.SheetText.{MoveLine}
use Rattle.burr_sheet.specs.Views.SheetUnderWay.{UnderWay, move_line_of}

-- the growing line of the code, which no aside has ended
abbrev pub growing_of : Option GrowingLine → Option MoveLine
growing_of None = None
growing_of (Some l) = Some (move_line_of l false)

-- what the fields of the code's sheet tell
abbrev pub under_way : Inside → UnderWay
under_way s = record {
  names = s.names;
  growing = growing_of s.growing;
  lines = s.lines;
  level = s.level;
  levels = s.levels.items;
  motions = s.motions;
  failed = s.failed;
}
