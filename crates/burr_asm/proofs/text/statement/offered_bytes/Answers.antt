use Rattle.std.proofs.Common.{◌≡◌, ◌∙◌, true}
use Rattle.burr_plantext.specs.Rules.Checks.{is_known}
use Rattle.burr_asm.proofs.StatementBytes.{all_known, front_unknown, last_bytes, last_fits, last_known, one_more, refused}
use Rattle.burr_asm.proofs.Words.{cut_shorter}
use Rattle.burr_asm.proofs.text.statement.offered_bytes.Goals as goal

pub returns-in_err-put_label : goal.returns-in_err-put_label
returns-in_err-put_label c =
    refused _ c.from_residual.result c.in_err-put_label.field-0.0 (is_known c.args.labels.now c.in-Some.name.now) (all_known c.args.labels.now c.args.names.now) c.args.line c.from_residual.ensures.1 c.in_err-put_label.ensures
    (front_unknown c.args.labels.now c.args.names.now c.loop-name.bytes.items c.in-Some.more.now c.loop-name.rest.now c.in-Some.name.now c.in-Some.ensures c.loop-name.invariant)

pub loop-name-preserved : goal.loop-name-preserved
loop-name-preserved c =
    rw c.in_ok-put_label.ensures.2 (one_more c.args.labels.now c.args.names.now c.loop-name.bytes.items c.in-Some.more.now c.loop-name.rest.now c.in-Some.name.now c.in-Some.ensures c.in_ok-put_label.ensures.0 c.in_ok-put_label.ensures.1 c.loop-name.invariant)

pub returns-in_err-put_label-2 : goal.returns-in_err-put_label-2
returns-in_err-put_label-2 c =
    let same = last_known c.args.labels.now c.args.names.now c.loop-name.bytes.items c.loop-name.rest.now c.in_default.ensures c.loop-name.invariant in
    refused _ c.from_residual-in_err-put_label-2.result c.in_err-put_label-2.field-0.0 (is_known c.args.labels.now c.loop-name.rest.now) (all_known c.args.labels.now c.args.names.now) c.args.line c.from_residual-in_err-put_label-2.ensures.1 c.in_err-put_label-2.ensures (λ e. same ∙ e)

pub returns : goal.returns
returns c =
    let known : all_known c.args.labels.now c.args.names.now ≡ true = last_known c.args.labels.now c.args.names.now c.loop-name.bytes.items c.loop-name.rest.now c.in_default.ensures c.loop-name.invariant ∙ c.in_ok-put_label-2.ensures.0 in (
      known,
      last_fits c.args.labels.now c.args.names.now c.loop-name.bytes.items c.loop-name.rest.now c.in_default.ensures c.loop-name.invariant ∙ c.in_ok-put_label-2.ensures.1,
      c.in_ok-put_label-2.ensures.2 ∙ last_bytes c.args.labels.now c.args.names.now c.loop-name.bytes.items c.loop-name.rest.now c.in_default.ensures c.loop-name.invariant,
    )

pub loop-name-smaller : goal.loop-name-smaller
loop-name-smaller c = cut_shorter _ _ _ c.in-Some.ensures
