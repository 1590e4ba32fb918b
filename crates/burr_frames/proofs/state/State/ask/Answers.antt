-- The checks in their order, and the symbol more.
use Rattle.std.proofs.Common.{rules, ◌≡◌, ◌∙◌, ap, sym, subst, inl, inr, ℤ, FitsSigned, w16, to_z, of_z, to_z-of_z}
use Rattle.std.proofs.lemmas.Result.{err_from_is_err_and}
use Rattle.burr_text.proofs.Common.Tests.{yes_of, no_of}
use Rattle.burr_frames.specs.Rules.Verdicts.{Breaks, FallsThrough, falls_through}
use Rattle.burr_container.specs.Rules.Plans.{Range}
use Rattle.burr_forms.specs.Rules.Points.{IsRange}
use Rattle.burr_frames.specs.Rules.States.{AbstractState}
use Rattle.burr_frames.specs.Rules.ControlRules.{HasRoomForSymbols}
use Rattle.burr_frames.specs.Rules.QuestionRules.{with_symbol, asked}
use Rattle.burr_frames.specs.Views.Changes.{at_cost}
use Rattle.burr_frames.proofs.Paying.{paying_on, paying_breaks}
use Rattle.burr_frames.proofs.state.State.ask.Goals as goal

-- there is room for a symbol of this range
abbrev HasRoomFor : AbstractState → Range → Type 0
HasRoomFor s range = HasRoomForSymbols (with_symbol range.0 range.1 s)

-- the range as the code hands it on
handed : (low high : ℤ) → FitsSigned w16 low → FitsSigned w16 high
    → ◌≡◌ {A = Range} (to_z w16 (of_z w16 low), to_z w16 (of_z w16 high)) (low, high)
handed low high low_fits high_fits = λ i. (to_z-of_z low_fits i, to_z-of_z high_fits i)

pub add_symbol-requires-clause-range : goal.add_symbol-requires-clause-range
add_symbol-requires-clause-range c =
    let low_fits : FitsSigned w16 c.args.low = search rules in
    let high_fits : FitsSigned w16 c.args.high = search rules in
    subst IsRange (sym (handed c.args.low c.args.high low_fits high_fits)) c.requires

pub returns-then-is_full-clause-verdict : goal.returns-then-is_full-clause-verdict
returns-then-is_full-clause-verdict c = inl (no_of c.if-is_full.ensures, ap Breaks c.plain.ensures)

pub returns-then-not-has_room_for_symbol-clause-verdict :
    goal.returns-then-not-has_room_for_symbol-clause-verdict
returns-then-not-has_room_for_symbol-clause-verdict c =
    let low_fits : FitsSigned w16 c.args.low = search rules in
    let high_fits : FitsSigned w16 c.args.high = search rules in
    let same = handed c.args.low c.args.high low_fits high_fits in
    let none = no_of c.if-not-has_room_for_symbol.ensures in
    inr (
      yes_of c.if-is_full.ensures,
      inl (λ room. none (subst (HasRoomFor c.args.self.now) (sym same) room), ap Breaks c.plain-then-not-has_room_for_symbol.ensures),
    )

pub returns-in_err-cost-clause-verdict : goal.returns-in_err-cost-clause-verdict
returns-in_err-cost-clause-verdict c =
    let low_fits : FitsSigned w16 c.args.low = search rules in
    let high_fits : FitsSigned w16 c.args.high = search rules in
    let same = handed c.args.low c.args.high low_fits high_fits in
    let low = c.args.low in
    let high = c.args.high in
    let r = err_from_is_err_and c.from_residual.result c.from_residual.ensures.1 in
    rw (r.1, r.2)
    (inr (
      yes_of c.if-is_full.ensures,
      inr (
        subst (HasRoomFor c.args.self.now) same (yes_of c.if-not-has_room_for_symbol.ensures),
        paying_breaks c.args.self.now c.in_err-cost.field-0.0 (λ paid. falls_through (asked low high paid)) c.in_err-cost.ensures,
      ),
    ))

pub returns-clause-verdict : goal.returns-clause-verdict
returns-clause-verdict c =
    let low_fits : FitsSigned w16 c.args.low = search rules in
    let high_fits : FitsSigned w16 c.args.high = search rules in
    let same = handed c.args.low c.args.high low_fits high_fits in
    let s = c.args.self.now in
    let low = c.args.low in
    let high = c.args.high in
    let cost = c.in_ok-cost.cost in
    let changed : c.add_symbol.new.self ≡ asked low high (at_cost cost s) =
    c.add_symbol.ensures ∙ (λ i. asked (same i).0 (same i).1 (c.set_cost.ensures i)) in
    inr (
      yes_of c.if-is_full.ensures,
      inr (
        subst (HasRoomFor s) same (yes_of c.if-not-has_room_for_symbol.ensures),
        paying_on s cost (λ paid. falls_through (asked low high paid)) (FallsThrough c.add_symbol.new.self) c.in_ok-cost.ensures
            (ap FallsThrough changed),
      ),
    )
