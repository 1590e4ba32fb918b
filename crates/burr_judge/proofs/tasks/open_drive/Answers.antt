use Rattle.burr_judge.proofs.Common.Results.{bytes_refused, judged_refused, text_refused, on_text, on_accepted, on_container, wants_memory}
use Rattle.std.proofs.Common.{◌∙◌, refl, inl, subst}
use Rattle.std.proofs.lemmas.Result.{err_from_is_err_and}
use Rattle.burr_io.specs.Sink.{Takes}
use Rattle.burr_step.specs.Views.Driving.{IsReady}
use Rattle.burr_judge.specs.DriveEnds.{FailsInReady, ready_text}
use Rattle.burr_judge.specs.Faults.{output_failed}
use Rattle.burr_judge.proofs.Dialogued.{broken, digest_is_of, opened_is, put_whole}
use Rattle.burr_judge.proofs.tasks.open_drive.Goals as goal

pub returns-in_err-tables-clause-puts : goal.returns-in_err-tables-clause-puts
returns-in_err-tables-clause-puts g c =
    let p = err_from_is_err_and c.from_residual.result c.from_residual.ensures.1 in
    rw p.1 (text_refused c.in_err-tables.ensures.err p.2)

pub returns-in_err-container-clause-puts : goal.returns-in_err-container-clause-puts
returns-in_err-container-clause-puts g c =
    let p = err_from_is_err_and c.from_residual-in_err-container.result c.from_residual-in_err-container.ensures.1 in
    rw p.1 (on_text c.in_ok-tables.ensures.ok (bytes_refused c.in_err-container.ensures p.2))

pub returns-in_err-accepted-clause-puts : goal.returns-in_err-accepted-clause-puts
returns-in_err-accepted-clause-puts g c =
    let p = err_from_is_err_and c.from_residual-in_err-accepted.result c.from_residual-in_err-accepted.ensures.1 in
    rw p.1 (on_container c.in_ok-tables.ensures.ok c.in_ok-container.ensures (judged_refused c.in_err-accepted.ensures.err p.2))

pub returns-in_err-digest-clause-puts : goal.returns-in_err-digest-clause-puts
returns-in_err-digest-clause-puts g c =
    let p = err_from_is_err_and c.from_residual-in_err-digest.result c.from_residual-in_err-digest.ensures.1 in
    rw p.1 (wants_memory p.2)

pub returns-in_err-put_ready-clause-puts : goal.returns-in_err-put_ready-clause-puts
returns-in_err-put_ready-clause-puts g c =
    let p = err_from_is_err_and c.from_residual-in_err-put_ready.result c.from_residual-in_err-put_ready.ensures.1 in
    let is = digest_is_of c.args.text.now (c.deref.ensures ∙ c.in_ok-digest.ensures) refl in
    rw p.1 (on_container c.in_ok-tables.ensures.ok c.in_ok-container.ensures (on_accepted c.in_ok-accepted.ensures.ok c.in_ok-accepted.ensures.accepted
    (broken output_failed (inl (refl, subst (FailsInReady g.W.Sink c.args.sink.now c.put_ready.new.sink) is c.in_err-put_ready.ensures.err)) p.2)))

pub returns-clause-puts : goal.returns-clause-puts
returns-clause-puts g c =
    let ready = ready_text c.args.text.now c.args.bytes.now in
    let put = c.in_ok-put_ready.ensures.ok in
    let is = digest_is_of c.args.text.now (c.deref.ensures ∙ c.in_ok-digest.ensures) refl in
    on_container c.in_ok-tables.ensures.ok c.in_ok-container.ensures (on_accepted c.in_ok-accepted.ensures.ok c.in_ok-accepted.ensures.accepted
    (record {
      done = (ready, (refl, refl), put_whole g.W.Sink c.args.sink.now c.put_ready.new.sink ready c.requires.fresh put.1 (subst (Takes g.W.Sink c.args.sink.now.sink c.put_ready.new.sink.sink) is put.0));
      stops = tt;
    }))

pub returns-clause-opens : goal.returns-clause-opens
returns-clause-opens g c = opened_is IsReady c.in_ok-tables.ensures.ok c.in_ok-container.ensures c.in_ok-accepted.ensures.ok c.in_ok-accepted.ensures.accepted c.in_ok-drive.ensures
