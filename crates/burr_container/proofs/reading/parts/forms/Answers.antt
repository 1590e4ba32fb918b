-- Forms stand after their count, as many as it says.
use Rattle.std.proofs.Common.{◌*◌, ap, ◌∙◌, ℕ}
use Rattle.std.proofs.lemmas.Result.{err_from_is_err_and}
use Rattle.burr_container.proofs.Chains.{at_most, count_most}
use Rattle.burr_container.proofs.FormsRead.{forms_at, forms_fail}
use Rattle.burr_container.proofs.reading.parts.forms.Goals as goal

pub returns-in_err-bytes-clause-reads : goal.returns-in_err-bytes-clause-reads
returns-in_err-bytes-clause-reads c =
    let p = err_from_is_err_and c.from_residual-in_err-bytes.result c.from_residual-in_err-bytes.ensures.1 in
    rw (p.1, p.2)
    (forms_fail c.args.most c.args.live c.args.cursor.now c.count_within.new.cursor c.in_ok-count.count _ (at_most c.args.most c.args.cursor.now c.count_within.new.cursor c.in_ok-count.count c.in_ok-count.ensures)
    (rw (← c.form_size.ensures.size) c.in_err-bytes.ensures.taken))

pub returns-clause-reads : goal.returns-clause-reads
returns-clause-reads c =
    let took = c.in_ok-bytes.ensures in
    forms_at c.args.most c.args.live c.args.cursor.now c.count_within.new.cursor c.bytes.new.self c.in_ok-count.count c.in_ok-bytes.bytes.now
    (at_most c.args.most c.args.cursor.now c.count_within.new.cursor c.in_ok-count.count c.in_ok-count.ensures) (took.taken.0 ∙ ap (λ (n : ℕ). c.in_ok-count.count * n) c.form_size.ensures.size) took.small took.taken.1

pub returns-clause-few : goal.returns-clause-few
returns-clause-few c = count_most c.args.most c.args.cursor.now c.count_within.new.cursor c.in_ok-count.count c.in_ok-count.ensures
