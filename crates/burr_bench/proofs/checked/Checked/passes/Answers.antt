use Rattle.std.proofs.Common.{rules, sym}
use Rattle.burr_code.specs.PieceSets.{IsInSet}
use Rattle.burr_assembly.specs.Rules.Homes.{homes_of}
use Rattle.burr_bench.specs.Ways.{PassesRest}
use Rattle.burr_text.proofs.Common.Tests.{yes_of, no_of, yes_iff, no_iff, one_more_number}
use Rattle.burr_bench.proofs.Stepping.Ways.{passes_of_pieces}
use Rattle.burr_bench.proofs.checked.Checked.passes.Goals as goal
use Rattle.burr_bench.proofs.checked.Checked.passes.Goals.{else-is_in_set-via-then-is_in_set+else-not-passes_rest, else-is_in_set-via-else-is_in_set}

pub returns-then-not-passes_rest : goal.returns-then-not-passes_rest
returns-then-not-passes_rest g c = no_iff (λ passes. no_of c.if-not-passes_rest.ensures (passes c.loop-piece.piece (rw (sym c.grip.ensures) (yes_of c.if-is_in_set.ensures))))

pub loop-piece-preserved : goal.loop-piece-preserved
loop-piece-preserved g c =
    one_more_number
    (λ p. IsInSet c.args.self.now.state.grip p → PassesRest c.args.way (homes_of c.args.self.now.assembly) c.args.self.now.state.places c.args.self.now.state.tray c.args.self.now.state.grip p)
    c.loop-piece.piece c.loop-piece.invariant
    (elim c.else-is_in_set.branch [
      | else-is_in_set-via-then-is_in_set+else-not-passes_rest w ↦ λ bit. yes_of w.if-not-passes_rest.ensures
      | else-is_in_set-via-else-is_in_set w ↦ λ bit. absurd (no_of w.if-is_in_set.ensures (rw c.grip.ensures bit))
    ])

pub returns : goal.returns
returns g c =
    yes_iff
    (passes_of_pieces c.args.way (homes_of c.args.self.now.assembly) c.args.self.now.state.places c.args.self.now.state.tray c.args.self.now.state.grip c.loop-piece.piece (search rules) c.loop-piece.invariant)
