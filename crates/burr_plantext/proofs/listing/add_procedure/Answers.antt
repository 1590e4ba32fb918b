-- The procedure is that of the plan.
use Rattle.std.proofs.Common.{◌≡◌, ◌++◌}
use Rattle.std.proofs.lemmas.Result.{on_ok_weaker}
use Rattle.burr_plantext.specs.Views.Parts.{exit_text}
use Rattle.burr_plantext.proofs.Blocks.{procedure_added}
use Rattle.burr_plantext.proofs.PlanSteps.{exit_of_procedure, no_exit, exit_added}
use Rattle.burr_plantext.proofs.listing.add_procedure.Goals as goal
use Rattle.burr_plantext.proofs.listing.add_procedure.Goals.{in-Some+in_ok-add_exit, in_default}

pub add_exit-requires : goal.add_exit-requires
add_exit-requires c =
    exit_of_procedure c.args.container.now c.args.i c.exit.result c.in-Some.exit c.requires.plan c.requires.procedure c.exit.ensures c.in-Some.is

pub returns : goal.returns
returns c =
    on_ok_weaker c.add_code.result
    (λ says p q is here.
    let headed = c.add_head.new.text.items in
    let exited : c.match-exit.text.items ≡ headed ++ exit_text q.exit =
    (elim c.match-exit.branch [
      | in-Some+in_ok-add_exit w ↦
          rw w.text-is
          (exit_added p.pieces q.parameters q.results c.exit.result w.in-Some.exit q.exit headed _ (c.exit.ensures p q is here) w.in-Some.is w.in_ok-add_exit.ensures)
      | in_default w ↦
          rw w.text-is
          (no_exit p.pieces q.parameters q.results c.exit.result q.exit headed (c.exit.ensures p q is here) w.in_default.not-Some)
    ]) in
    procedure_added c.args.places p c.args.i q c.args.text.now.items headed c.match-exit.text.items c.add_code.new.text.items (c.in_ok-add_head.ensures p q is here) exited (says p q is here)) c.add_code.ensures
