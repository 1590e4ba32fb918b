use Rattle.std.proofs.Common.{◌∙◌, ap, sym, subst}
use Rattle.burr_forms.specs.Rules.Forms.{values}
use Rattle.burr_forms.specs.Views.Searching.{AllBounded}
use Rattle.burr_forms.proofs.RowValues.{values_bounded}
use Rattle.burr_forms.proofs.condition.passes.Goals as goal

pub ask-requires-clause-bounded : goal.ask-requires-clause-bounded
ask-requires-clause-bounded g c =
    let are = c.as_slice-2.ensures.value ∙ c.bring.ensures ∙ ap (values c.args.point.now.items) c.wanted_forms.ensures in
    subst AllBounded (sym are) (values_bounded c.args.point.now.items (g.C.Asking.wanted (g.C.Asking.subject c.args.condition.now)) c.requires.small c.requires.near c.requires.few)
