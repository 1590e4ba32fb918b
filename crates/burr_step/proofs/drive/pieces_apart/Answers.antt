use Rattle.std.proofs.Common.{Some, ap, subst, ◌∙◌, arith}
use Rattle.burr_text.proofs.Common.Tests.{yes_of, no_of}
use Rattle.burr_state.specs.Rules.Bench.{BenchState}
use Rattle.burr_state.specs.Views.Work.{Work}
use Rattle.burr_step.specs.Views.Driving.{AreApart}
use Rattle.burr_step.proofs.ApartSets.{all_apart, one_apart, one_together}
use Rattle.burr_step.proofs.drive.pieces_apart.Goals as goal
use Rattle.burr_step.proofs.drive.pieces_apart.Goals.{then-is_apart, else-is_apart}

pub loop-piece-preserved : goal.loop-piece-preserved
loop-piece-preserved c = elim c.if-is_apart.branch [
  | then-is_apart w ↦
      rw w.apart-is (one_apart c.state-state.result.now.places c.loop-piece.piece c.loop-piece.apart (omega arith)
      (c.place.ensures.place ∙ ap Some (yes_of w.if-is_apart.ensures)) c.loop-piece.invariant)
  | else-is_apart w ↦
      rw w.apart-is (one_together c.state-state.result.now.places c.loop-piece.piece c.loop-piece.apart c.place.result c.place.ensures.place
      (no_of w.if-is_apart.ensures) c.loop-piece.invariant)
]

pub returns : goal.returns
returns c =
    subst (λ (s : BenchState). AreApart s c.loop-piece.apart) (c.state-state.ensures ∙ ap (λ (w : Work). w.state) c.bench.ensures)
    (all_apart c.state-state.result.now c.loop-piece.piece c.loop-piece.apart (omega arith) c.loop-piece.invariant)
