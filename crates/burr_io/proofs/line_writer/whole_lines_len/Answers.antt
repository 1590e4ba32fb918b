use Rattle.std.proofs.Common.{inl}
use Rattle.burr_io.proofs.Flushing.{IsCutAtLines-last}
use Rattle.burr_io.proofs.line_writer.whole_lines_len.Goals as goal

pub returns-in-Some-clause-goes : goal.returns-in-Some-clause-goes
returns-in-Some-clause-goes c =
    let found = c.in-Some.ensures in
    inl (IsCutAtLines-last c.args.full.now c.in-Some.end found.0 found.1 found.2)
