-- The coefficients are small, since they stay as they are.
use Rattle.std.proofs.Common.{rules, ◌≡◌, ◌∙◌, ap, arith, w32, w64, FitsSigned, to_z, of_z, to_z-of_z}
use Rattle.std.specs.Prelude.{pos, ◌+ℤ◌, ◌≤ℤ◌}
use Rattle.std.proofs.lemmas.Int.{ints}
use Rattle.burr_forms.specs.Rules.Forms.{Form}
use Rattle.burr_container.proofs.Common.Slots.{test_of_le}
use Rattle.burr_frames.proofs.forms.can_raise.Goals as goal

pub returns-then-constant : goal.returns-then-constant
returns-then-constant c =
    let k = c.form.inside.constant in
    let same : k ≡ c.args.form.now.constant = ap (λ (f : Form). f.constant) c.form.view_is in
    let k_fits : FitsSigned w64 k = search rules in
    let n_fits : FitsSigned w64 c.from.result = search rules in
    let k_is = to_z-of_z k_fits in
    let n_is = to_z-of_z n_fits in
    let narrow : FitsSigned w32 c.args.number = search rules in
    let n_same = c.from.ensures ∙ to_z-of_z narrow in
    let fits : FitsSigned w64 (to_z w64 (of_z w64 k) +ℤ to_z w64 (of_z w64 c.from.result)) = search rules in
    let is = to_z-of_z fits in
    let above = c.if-constant.true in (
      λ below. ((omega (arith, ints, same, k_is, n_is, n_same, is, above), omega (arith, ints, same, k_is, n_is, n_same, is, below)), c.requires.small.1),
      λ small.
          let below : to_z w64 (of_z w64 (to_z w64 (of_z w64 k) +ℤ to_z w64 (of_z w64 c.from.result))) ≤ℤ pos 1099511627776 =
          omega (arith, ints, same, k_is, n_is, n_same, is, small.0.1) in
          test_of_le _ _ below,
    )
