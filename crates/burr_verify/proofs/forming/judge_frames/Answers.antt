-- Label by label, after the exit frame.
use Rattle.std.proofs.Common.{arith}
use Rattle.std.proofs.lemmas.Result.{err_from_is_err_and}
use Rattle.burr_verify.specs.Rules.Judging.{judging_entry, nothing}
use Rattle.burr_verify.specs.Views.Forming.{judging_label}
use Rattle.burr_verify.proofs.Before.{checks_exit, checks_label, one_framed, part_refuses}
use Rattle.burr_verify.proofs.LabelPlaces.{as_many_here}
use Rattle.burr_frames.proofs.Common.Heres.{element_at}
use Rattle.burr_verify.proofs.JudgedOn.{after_exit, judged_end, judged_on, judged_stop, judging_from, label_joins, no_labels}
use Rattle.burr_verify.proofs.forming.judge_frames.Goals as goal

pub returns-in_err-judge_exit : goal.returns-in_err-judge_exit
returns-in_err-judge_exit c =
    let e = err_from_is_err_and c.from_residual.result c.from_residual.ensures.1 in
    rw (e.1, e.2)
    (λ p here is at. part_refuses (checks_exit c.args.procedure.number here.exit) _ (c.in_err-judge_exit.ensures p here is at)
    (judging_entry c.args.procedure.number here.parameters here.labels nothing))

pub loop-label-init : goal.loop-label-init
loop-label-init c =
    λ p here is at. after_exit c.args.procedure.number here.parameters here.exit here.labels (c.in_ok-judge_exit.ensures p here is at)

pub returns-in_err-judge_frame : goal.returns-in_err-judge_frame
returns-in_err-judge_frame c =
    let e = err_from_is_err_and c.from_residual-in_err-judge_frame.result c.from_residual-in_err-judge_frame.ensures.1 in
    rw (e.1, e.2)
    (λ p here is at.
    (let many = as_many_here c.args.procedure.container.now c.args.procedure.number c.label_count-label-end.result c.label_count-label-end.ensures.plan p here is at in
    let label = element_at here.labels c.loop-label.label (omega (arith, many, c.loop-label-test.true)) in
    judged_stop (judging_from c.args.procedure.number here.parameters) (judging_label c.args.procedure.number here.parameters)
    (label_joins c.args.procedure.number here.parameters) here.labels c.loop-label.label label.0 (one_framed c.args.procedure.number here) _
    (checks_label c.args.procedure.number here.parameters c.loop-label.label label.0) label.1
    (c.in_err-judge_frame.ensures p here is at label.0 label.1) (c.loop-label.invariant p here is at)))

pub loop-label-preserved : goal.loop-label-preserved
loop-label-preserved c =
    λ p here is at.
    (let many = as_many_here c.args.procedure.container.now c.args.procedure.number c.label_count-label-end.result c.label_count-label-end.ensures.plan p here is at in
    let label = element_at here.labels c.loop-label.label (omega (arith, many, c.loop-label-test.true)) in
    judged_on (judging_from c.args.procedure.number here.parameters) (judging_label c.args.procedure.number here.parameters)
    (label_joins c.args.procedure.number here.parameters) here.labels c.loop-label.label label.0 (one_framed c.args.procedure.number here)
    (checks_label c.args.procedure.number here.parameters c.loop-label.label label.0) label.1
    (c.in_ok-judge_frame.ensures p here is at label.0 label.1) (c.loop-label.invariant p here is at))

pub returns : goal.returns
returns c =
    λ p here is at.
    (let many = as_many_here c.args.procedure.container.now c.args.procedure.number c.label_count-label-end.result c.label_count-label-end.ensures.plan p here is at in
    judged_end (judging_from c.args.procedure.number here.parameters) (judging_label c.args.procedure.number here.parameters)
    (label_joins c.args.procedure.number here.parameters) here.labels c.loop-label.label (one_framed c.args.procedure.number here)
    (omega (arith, many, c.loop-label-test.false)) (no_labels c.args.procedure.number here.parameters c.loop-label.label)
    (c.loop-label.invariant p here is at))
