-- The next form is written.
use Rattle.std.proofs.Common.{◌++◌, ◌+◌, drop, arith, [], sym, ap, ◌∙◌}
use Rattle.std.specs.List.{flat_map}
use Rattle.burr_forms.specs.Rules.Forms.{Form}
use Rattle.burr_container.specs.Rules.Spelling.{form_bytes}
use Rattle.burr_container.proofs.Written.{next_of, one_more}
use Rattle.burr_container.proofs.writing.add_forms.Goals as goal

pub loop-form-preserved : goal.loop-form-preserved
loop-form-preserved c =
    let forms = c.args.forms.now in
    let i = c.loop-form.form-index in
    let item = c.form-item.result in
    let bytes_of = form_bytes c.args.live.now in
    let next = next_of bytes_of i forms item (omega arith) ∙ ap (λ (f : Form). bytes_of f ++ flat_map bytes_of (drop (i + 1) forms)) (sym c.form-item.is) in
    rw c.in_ok-add_form.ensures
    (one_more [] c.loop-form.bytes.items (bytes_of item) (flat_map bytes_of (drop (i + 1) forms)) _ _ c.loop-form.invariant next)
