-- Small forms have room.
use Rattle.std.proofs.Common.{sym, ◌∙◌, subst, pos, neg_ℤ}
use Rattle.burr_forms.specs.Rules.Forms.{Form, plus_form, times}
use Rattle.burr_forms.specs.Views.Wides.{IsWideForm}
use Rattle.burr_forms.specs.Views.Results.{IsFormOf}
use Rattle.burr_forms.proofs.Widths.{small_is_wide, minus_one_is_small}
use Rattle.burr_forms.proofs.form.Form.sub.Goals as goal

pub add_times-requires-clause-wide : goal.add_times-requires-clause-wide
add_times-requires-clause-wide c = subst IsWideForm (sym c.of-sum.ensures) (small_is_wide c.args.self.now c.requires.small)

pub add_times-requires-clause-factor : goal.add_times-requires-clause-factor
add_times-requires-clause-factor c = minus_one_is_small

pub returns : goal.returns
returns c =
    let same = c.add_times.ensures ∙ (λ i. plus_form (c.of-sum.ensures i) (times (neg_ℤ (pos 1)) c.args.other.now)) in
    subst (λ (f : Form). IsFormOf c.form.result f) same c.form.ensures
