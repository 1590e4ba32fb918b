-- One more is restored.
use Rattle.std.proofs.Common.{◌-◌, ◌+◌, ◌∙◌, ap, drop, arith}
use Rattle.burr_container.specs.Views.Refs.{forms_of}
use Rattle.burr_container.proofs.Restored.{form_there, form_added, forms_whole}
use Rattle.burr_container.proofs.restoring.forms.Goals as goal

pub of-requires : goal.of-requires
of-requires c =
    let list = c.args.list.now in
    let k = c.loop.counter in
    form_there list.live (forms_of list) (list.count - k) (list.count - (k + 1)) c.loop.forms.items c.loop.rest.now (omega (arith, c.loop-test.true))
    c.loop.invariant

pub loop-preserved : goal.loop-preserved
loop-preserved c =
    let list = c.args.list.now in
    let k = c.loop.counter in
    let rest = c.loop.rest.now in
    form_added list.live (forms_of list) (list.count - k) (list.count - (k + 1)) c.loop.forms.items c.push.new.self.items rest c.after-rest.result.now
    c.of.result (omega (arith, c.loop-test.true)) c.in_ok-push.ensures.items c.of.ensures
    (c.after-rest.ensures ∙ ap (λ n. drop n rest) c.form_size-size.ensures.size) c.loop.invariant

pub after-rest-requires : goal.after-rest-requires
after-rest-requires c =
    let list = c.args.list.now in
    let k = c.loop.counter in
    rw c.form_size-size.ensures.size
    (form_there list.live (forms_of list) (list.count - k) (list.count - (k + 1)) c.loop.forms.items c.loop.rest.now (omega (arith, c.loop-test.true))
    c.loop.invariant)

pub returns : goal.returns
returns c =
    let list = c.args.list.now in
    forms_whole list.live (forms_of list) (list.count - c.loop.counter) c.loop.forms.items c.loop.rest.now (omega (arith, c.loop-test.false)) c.loop.invariant
