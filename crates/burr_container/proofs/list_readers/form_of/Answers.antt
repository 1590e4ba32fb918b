-- The next number is put in its place; after the last one the form is whole.
use Rattle.std.proofs.Common.{rules, ◌≡◌, ◌∙◌, arith}
use Rattle.std.specs.Prelude.{FitsSigned}
use Rattle.std.specs.Int.{w32, w64}
use Rattle.std.proofs.lemmas.Int.{to_z-of_z}
use Rattle.std.proofs.lemmas.List.Elements.{All-set}
use Rattle.burr_forms.specs.Rules.Forms.{IsSmall}
use Rattle.burr_container.specs.Views.Decoding.{form_in, live_count}
use Rattle.burr_container.proofs.Forms.{put_next, form_read}
use Rattle.burr_container.proofs.list_readers.form_of.Goals as goal

pub loop-symbol-preserved : goal.loop-symbol-preserved
loop-symbol-preserved c =
    let fits : FitsSigned w64 c.signed_at.result = search rules in
    rw (to_z-of_z w64 c.signed_at.result fits) (
      put_next c.loop-symbol.symbol c.loop-symbol.coefs c.args.bytes.now c.signed_at.result (omega (arith, c.live_count-count.ensures.few)) c.loop-symbol.invariant.0 c.signed_at.ensures.number,
      All-set IsSmall c.loop-symbol.coefs c.loop-symbol.symbol c.signed_at.result c.signed_at.ensures.small c.loop-symbol.invariant.1,
    )

pub returns-clause-form : goal.returns-clause-form
returns-clause-form c =
    let narrow : FitsSigned w32 c.read_i32.result = search rules in
    let wide : FitsSigned w64 c.from.result = search rules in
    let constant : c.from.result ≡ (form_in c.args.live.now c.args.bytes.now).constant = c.from.ensures ∙ to_z-of_z w32 c.read_i32.result narrow ∙ c.read_i32.ensures in
    let all : c.loop-symbol.symbol ≡ live_count c.args.live.now = omega (arith, c.live_count-count.ensures.count) in
    rw (to_z-of_z w64 c.from.result wide)
    (form_read c.args.live.now c.args.bytes.now c.from.result c.loop-symbol.symbol c.loop-symbol.coefs constant all c.loop-symbol.invariant.0)
