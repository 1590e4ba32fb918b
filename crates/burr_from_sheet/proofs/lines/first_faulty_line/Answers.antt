use Rattle.burr_from_sheet.proofs.FaultyLines.{all_are_not, first_are, some_byte}
use Rattle.burr_from_sheet.proofs.lines.first_faulty_line.Goals as goal

pub loop-faulty-init : goal.loop-faulty-init
loop-faulty-init c = record {
  apart = some_byte c.args.assembly.now c.args.lines.now c.requires;
  good = first_are c.args.assembly.now c.args.lines.now;
  faulty = all_are_not c.args.assembly.now c.args.lines.now c.requires;
}
