use Rattle.std.proofs.Common.{rules, sym}
use Rattle.burr_code.specs.PieceSets.{IsInSet}
use Rattle.burr_assembly.specs.Rules.Homes.{homes_of}
use Rattle.burr_bench.specs.Ways.{PassesPiece}
use Rattle.burr_text.proofs.Common.Tests.{yes_of, no_of, yes_iff, no_iff, one_more_number}
use Rattle.burr_bench.proofs.Stepping.Ways.{passes_of_each, barred, near_start}
use Rattle.burr_bench.proofs.checked.Checked.passes_rest.Goals as goal
use Rattle.burr_bench.proofs.checked.Checked.passes_rest.Goals.{else-not-is_in_set-via-then-not-is_in_set+else-not-passes_piece, else-not-is_in_set-via-else-not-is_in_set}

pub passes_piece-requires-clause-near : goal.passes_piece-requires-clause-near
passes_piece-requires-clause-near g c =
    rw c.setting_out-from.ensures (near_start c.args.self.now c.args.way c.args.piece c.in-Some.offset c.requires.sets_out c.requires.gripped c.in-Some.ensures.offset c.in-Some.ensures.near)

pub returns-then-not-passes_piece : goal.returns-then-not-passes_piece
returns-then-not-passes_piece g c =
    no_iff
    (barred c.args.way (homes_of c.args.self.now.assembly) c.args.self.now.state.places c.args.self.now.state.tray c.args.self.now.state.grip c.args.piece c.in-Some.offset c.loop-other.other
    c.in-Some.ensures.offset (rw (sym c.grip.ensures) (no_of c.if-not-is_in_set.ensures)) (rw (sym c.query-query.ensures, sym c.setting_out-from.ensures) (no_of c.if-not-passes_piece.ensures)))

pub loop-other-preserved : goal.loop-other-preserved
loop-other-preserved g c =
    one_more_number
    (λ q. (¬ IsInSet c.args.self.now.state.grip q) → PassesPiece c.query-query.result (homes_of c.args.self.now.assembly) c.args.self.now.state.places c.args.self.now.state.tray c.args.piece c.setting_out-from.result q)
    c.loop-other.other c.loop-other.invariant
    (elim c.else-not-is_in_set.branch [
      | else-not-is_in_set-via-then-not-is_in_set+else-not-passes_piece w ↦ λ rest. yes_of w.if-not-passes_piece.ensures
      | else-not-is_in_set-via-else-not-is_in_set w ↦ λ rest. absurd (rest (rw (sym c.grip.ensures) (yes_of w.if-not-is_in_set.ensures)))
    ])

pub returns : goal.returns
returns g c =
    yes_iff
    (passes_of_each c.args.way (homes_of c.args.self.now.assembly) c.args.self.now.state.places c.args.self.now.state.tray c.args.self.now.state.grip c.loop-other.other c.args.piece c.in-Some.offset c.in-Some.ensures.offset
    (search rules) (rw (sym c.query-query.ensures, sym c.setting_out-from.ensures) c.loop-other.invariant))
