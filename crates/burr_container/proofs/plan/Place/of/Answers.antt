-- The three forms stand one after the other.
use Rattle.std.proofs.Common.{rules, ◌≡◌, ◌+◌, ◌∙◌, ap, drop, ℕ, List}
use Rattle.std.specs.Prelude.{false, slice_index, ◌==◌}
use Rattle.burr_forms.specs.Rules.Forms.{Form}
use Rattle.burr_container.specs.Views.Decoding.{form_in}
use Rattle.burr_container.proofs.PlaceWalk.{place_parts}
use Rattle.burr_container.proofs.plan.Place.of.Goals as goal

pub returns : goal.returns
returns c =
    let live = c.args.live.now in
    let bytes = c.args.bytes.now in
    let form : List ℕ → Form = form_in live in
    let lies : (slice_index bytes 0 == 255) ≡ false = search rules in
    let size = c.form_size-size.ensures.size in
    place_parts live bytes c.of-x.result c.of-y.result c.of-z.result lies (c.of-x.ensures ∙ ap form c.after.ensures)
    (c.of-y.ensures ∙ ap form (c.after-2.ensures ∙ ap (λ (k : ℕ). drop (1 + k) bytes) size))
    (c.of-z.ensures ∙ ap form (c.after-3.ensures ∙ ap (λ (k : ℕ). drop (1 + k + k) bytes) size))
