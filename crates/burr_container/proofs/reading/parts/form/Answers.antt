-- As many bytes as a form has are a form.
use Rattle.std.proofs.Common.{◌∙◌}
use Rattle.burr_container.proofs.FormsRead.{form_at}
use Rattle.burr_container.proofs.reading.parts.form.Goals as goal

pub returns-clause-reads : goal.returns-clause-reads
returns-clause-reads c =
    let took = c.in_ok-bytes.ensures in
    form_at c.args.live c.args.cursor.now c.bytes.new.self c.in_ok-bytes.bytes.now (took.taken.0 ∙ c.form_size.ensures.size) took.small took.taken.1
