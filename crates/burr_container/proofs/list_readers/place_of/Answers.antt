-- The three forms stand one after the other.
use Rattle.std.proofs.Common.{rules, ◌≡◌, ◌+◌, ◌∙◌, ap, drop, ℕ, List}
use Rattle.std.specs.Prelude.{false, slice_index, ◌==◌}
use Rattle.burr_forms.specs.Rules.Forms.{Form}
use Rattle.burr_container.specs.Rules.Plans.{over_symbols}
use Rattle.burr_container.specs.Views.Decoding.{form_in}
use Rattle.burr_container.proofs.PlaceWalk.{place_told}
use Rattle.burr_container.proofs.list_readers.place_of.Goals as goal

pub returns-clause-place : goal.returns-clause-place
returns-clause-place c =
    let live = c.args.live.now in
    let bytes = c.args.bytes.now in
    let form : List ℕ → Form = λ (b : List ℕ). over_symbols live (form_in live b) in
    let lies : (slice_index bytes 0 == 255) ≡ false = search rules in
    let size = c.form_size-size.ensures.size in
    place_told live bytes c.form_of-x.result c.form_of-y.result c.form_of-z.result lies
    (c.form_of-x.ensures.form ∙ ap form c.after.ensures)
    (c.form_of-y.ensures.form ∙ ap form (c.after-2.ensures ∙ ap (λ (k : ℕ). drop (1 + k) bytes) size))
    (c.form_of-z.ensures.form ∙ ap form (c.after-3.ensures ∙ ap (λ (k : ℕ). drop (1 + k + k) bytes) size))
