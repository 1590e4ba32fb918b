use Rattle.std.proofs.Common.{inl, inr}
use Rattle.burr_program.specs.ListEnds.{PairEnds}
use Rattle.burr_program.proofs.JudgedLines.{pair_told}
use Rattle.burr_program.proofs.Results.{all_kept}
use Rattle.burr_program.proofs.commands.judge.judge_line.Goals as goal

pub returns-in-Ok : goal.returns-in-Ok
returns-in-Ok g c =
    inr (c.in-Some.ensures, inl (all_kept PairEnds _ _ c.into_bytes.result.items c.in-Ok.status c.new-said.ensures c.into_bytes.ensures (pair_told c.judge_pair-done.result c.in-Ok.status c.judge_pair-done.ensures c.in-Ok.ensures)))
