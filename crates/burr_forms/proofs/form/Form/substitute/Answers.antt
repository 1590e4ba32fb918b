-- Each turn adds the argument of one symbol.
use Rattle.std.proofs.Common.{rules, ◌≡◌, ◌<◌, ◌≤◌, ◌+◌, ap, sym, ◌∙◌, subst, length, slice_index_or, pos, FitsSigned, w64, to_z-of_z}
use Rattle.burr_forms.specs.Rules.Forms.{Form, number, AllSmall, times, plus_form}
use Rattle.burr_forms.specs.Views.Results.{IsFormOf}
use Rattle.burr_forms.proofs.Values.{small_at}
use Rattle.burr_forms.proofs.Substituting.{IsUnderWay, begins, goes_on, ends, has_room}
use Rattle.burr_forms.proofs.form.Form.substitute.Goals as goal

pub loop-symbol-init : goal.loop-symbol-init
loop-symbol-init c =
    let fits : FitsSigned w64 c.self.inside.constant = search rules in
    let made : c.of_number-sum.result ≡ number c.self.inside.constant = simp to_z-of_z at c.of_number-sum.ensures in
    let same = made ∙ ap (λ (f : Form). number f.constant) c.self.view_is in
    subst (λ (s : Form). IsUnderWay 0 s c.args.self.now c.args.arguments.now) (sym same) (begins c.args.self.now c.args.arguments.now c.requires.small)

pub add_times-requires-clause-wide : goal.add_times-requires-clause-wide
add_times-requires-clause-wide c = has_room c.loop-symbol.symbol c.loop-symbol.sum c.args.self.now c.args.arguments.now c.loop-symbol.invariant c.loop-symbol-test.true

pub add_times-requires-clause-factor : goal.add_times-requires-clause-factor
add_times-requires-clause-factor c =
    let fits : FitsSigned w64 (slice_index_or c.self.inside.coefs c.loop-symbol.symbol (pos 0)) = search rules in
    let small : AllSmall c.self.inside.coefs = subst (λ (f : Form). AllSmall f.coefs) (sym c.self.view_is) c.requires.small.1 in
    let inside : c.loop-symbol.symbol < length c.self.inside.coefs = search rules in
    simp to_z-of_z (small_at c.loop-symbol.symbol c.self.inside.coefs (pos 0) small inside)

pub loop-symbol-preserved : goal.loop-symbol-preserved
loop-symbol-preserved c =
    let fits : FitsSigned w64 (slice_index_or c.self.inside.coefs c.loop-symbol.symbol (pos 0)) = search rules in
    let d = c.index-arguments-symbol.result in
    let added : c.add_times.new.self ≡ plus_form c.loop-symbol.sum (times (slice_index_or c.self.inside.coefs c.loop-symbol.symbol (pos 0)) (slice_index_or c.args.arguments.now c.loop-symbol.symbol d)) = simp to_z-of_z at c.add_times.ensures in
    let known : c.loop-symbol.symbol < length c.args.arguments.now = search rules in
    let inside : c.loop-symbol.symbol < length c.args.self.now.coefs = subst (λ (f : Form). c.loop-symbol.symbol < length f.coefs) c.self.view_is (search rules) in
    let same = added ∙ (λ i. plus_form c.loop-symbol.sum (times (slice_index_or (c.self.view_is i).coefs c.loop-symbol.symbol (pos 0)) (slice_index_or c.args.arguments.now c.loop-symbol.symbol d))) in
    subst (λ (s : Form). IsUnderWay (c.loop-symbol.symbol + 1) s c.args.self.now c.args.arguments.now) (sym same)
    (goes_on c.loop-symbol.symbol c.loop-symbol.sum c.args.self.now c.args.arguments.now (pos 0) d c.loop-symbol.invariant c.requires.small c.requires.arguments_small inside known)

pub returns : goal.returns
returns c =
    let few : length c.args.self.now.coefs ≤ c.loop-symbol.symbol = subst (λ (f : Form). length f.coefs ≤ c.loop-symbol.symbol) c.self.view_is (search rules) in
    let same = ends c.loop-symbol.symbol c.loop-symbol.sum c.args.self.now c.args.arguments.now c.loop-symbol.invariant few in
    subst (λ (f : Form). IsFormOf c.form.result f) same c.form.ensures
