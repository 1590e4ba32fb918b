-- Form n is read where it stands.
use Rattle.std.proofs.Common.{◌≡◌, ◌*◌, ◌∙◌, ap, drop, ℕ, List}
use Rattle.burr_container.specs.Rules.Plans.{over_symbols}
use Rattle.burr_container.specs.Rules.Spelling.{form_size}
use Rattle.burr_container.specs.Views.Decoding.{form_in}
use Rattle.burr_container.proofs.PlaceWalk.{nth_form}
use Rattle.burr_container.proofs.lists.FormList.form.Goals as goal

pub returns-clause-form : goal.returns-clause-form
returns-clause-form c =
    let run = c.args.self.now in
    let there : c.after.result.now ≡ drop (c.args.n * form_size run.live) run.bytes.now =
    c.after.ensures ∙ ap (λ (k : ℕ). drop (c.args.n * k) run.bytes.now) c.form_size.ensures.size in
    nth_form run.live run.count c.args.n run.bytes.now c.form_of.result c.requires
    (c.form_of.ensures.form ∙ ap (λ (b : List ℕ). over_symbols run.live (form_in run.live b)) there)
