-- Where there is no state after, and what it is where there is one.
use Rattle.std.proofs.Common.{rules, ℕ, All, Option, ◌≡◌, ◌<◌, ◌≤◌, ◌∙◌, ◌+◌, ◌-◌, ◌++◌, take, ap, sym, subst, List, length, drop, map, inl, inr, arith}
use Rattle.std.specs.Prelude.{reverse}
use Rattle.std.proofs.lemmas.List.{reverse-reverse, length-append, length-take-le}
use Rattle.std.proofs.lemmas.List.Elements.{All-append}
use Rattle.std.proofs.lemmas.Result.{err_from_is_err_and}
use Rattle.burr_forms.specs.Rules.Points.{AreRanges}
use Rattle.burr_forms.specs.Rules.Forms.{Form, IsSmallForm, AllSmallForms, substituted}
use Rattle.burr_frames.specs.Rules.States.{AbstractState}
use Rattle.burr_frames.specs.Views.StateViews.{IsSmallSlot}
use Rattle.burr_frames.specs.Rules.FramedPlans.{FramedExit}
use Rattle.burr_frames.specs.Rules.SpaceRules.{AllSmallPlaces}
use Rattle.burr_frames.specs.Rules.ControlRules.{symbols_from, result_symbols, substituted_places}
use Rattle.burr_frames.proofs.Offsets.{small_reversed}
use Rattle.burr_frames.proofs.After.{too_many_ranges, too_many_guards, has_room, large_places, large_guards, small_after, small_joined, small_left, operands_left}
use Rattle.burr_frames.proofs.CallArguments.{left_many}
use Rattle.burr_frames.proofs.state.State.after_call.Goals as goal

abbrev ranges_in : AbstractState → ℕ
ranges_in s = length s.ranges

abbrev guards_in : AbstractState → ℕ
guards_in s = length s.guards

abbrev results_in : FramedExit → ℕ
results_in exit = length exit.results

abbrev exit_guards : FramedExit → List Form
exit_guards exit = exit.guards

pub returns-in_default : goal.returns-in_default
returns-in_default c =
    let s = c.args.self.now in
    let arguments = c.args.arguments.now in
    inl (
      too_many_ranges s arguments (drop (length arguments) s.operands) c.args.exit.now c.in_default.ensures,
      c.plain.ensures,
    )

pub returns-in_err-guards : goal.returns-in_err-guards
returns-in_err-guards c =
    let s = c.args.self.now in
    let exit = c.args.exit.now in
    let arguments = c.args.arguments.now in
    let below = drop (length arguments) s.operands in
    let results : c.as_slice.result.now ≡ result_symbols s exit =
    c.as_slice.ensures.value ∙ c.symbols_from-results.ensures.symbols
    ∙ (λ i. symbols_from ((c.len-3.ensures.value ∙ ap ranges_in c.self.view_is) i) ((c.len-4.ensures.value ∙ ap results_in c.exit.view_is) i)) in
    let made : c.as_slice-5.result.now ≡ arguments ++ result_symbols s exit =
    c.as_slice-5.ensures.value ∙ c.joined-symbols.ensures ∙ (λ i. arguments ++ results i) in
    let guards : c.as_slice-4.result.now ≡ exit.guards = c.as_slice-4.ensures.value ∙ ap exit_guards c.exit.view_is in
    let few : length s.guards + length exit.guards ≤ 8 = search rules in
    let p = err_from_is_err_and c.from_residual-in_err-guards.result c.from_residual-in_err-guards.ensures.1 in
    rw p.1
    (inr (
      has_room s arguments below exit c.in-Some.ensures.1 few,
      large_guards s arguments below exit
          (λ small. c.in_err-guards.ensures (subst AllSmallForms (λ i. map (substituted (sym made i)) (sym guards i)) small)),
      p.2,
    ))

pub invariant_of-result : goal.invariant_of-result
invariant_of-result c = record {
  ranges = subst AreRanges (sym c.in-Some.ensures.0) c.in-Some.ensures.2;
  guards =
      subst AllSmallForms (sym c.joined.ensures)
      (All-append IsSmallForm c.as_slice-6.result.now c.as_slice-7.result.now
      (subst AllSmallForms (sym c.as_slice-6.ensures.value) c.self.invariant.guards)
      (subst AllSmallForms (sym c.as_slice-7.ensures.value) c.in_ok-guards.ensures.1));
  slots = subst (λ (slots : List (Option Form)). All IsSmallSlot slots) (sym c.copied_slots.ensures) c.self.invariant.slots;
  operands =
      small_reversed (reverse c.joined-2.result.items)
      (subst AllSmallForms (sym (reverse-reverse c.joined-2.result.items))
      (small_left c.self.inside.operands.items c.deref.result.now (c.len-5.result - length c.args.arguments.now) _ _ c.self.invariant.operands c.deref.ensures.0
      (subst AllSmallForms (sym c.as_slice-8.ensures.value) c.symbols_from-results.ensures.small) c.joined-2.ensures));
  places = c.in_ok-places.ensures.1;
  cost = c.self.invariant.cost;
}

pub returns : goal.returns
returns c =
    let s = c.args.self.now in
    let exit = c.args.exit.now in
    let arguments = c.args.arguments.now in
    let below = drop (length arguments) s.operands in
    let results : c.as_slice.result.now ≡ result_symbols s exit =
    c.as_slice.ensures.value ∙ c.symbols_from-results.ensures.symbols
    ∙ (λ i. symbols_from ((c.len-3.ensures.value ∙ ap ranges_in c.self.view_is) i) ((c.len-4.ensures.value ∙ ap results_in c.exit.view_is) i)) in
    let made : c.as_slice-5.result.now ≡ arguments ++ result_symbols s exit =
    c.as_slice-5.ensures.value ∙ c.joined-symbols.ensures ∙ (λ i. arguments ++ results i) in
    let few : length s.guards + length exit.guards ≤ 8 = search rules in
    let made_first : c.as_slice-3.result.now ≡ arguments ++ result_symbols s exit =
    c.as_slice-3.ensures.value ∙ c.joined-symbols.ensures ∙ (λ i. arguments ++ results i) in
    let guards : c.in_ok-guards.guards.items ≡ map (substituted (arguments ++ result_symbols s exit)) exit.guards =
    c.in_ok-guards.ensures.0
    ∙ (λ i. map (substituted (made i)) ((c.as_slice-4.ensures.value ∙ ap exit_guards c.exit.view_is) i)) in
    let places : c.in_ok-places.places.items ≡ substituted_places (arguments ++ result_symbols s exit) exit.places =
    c.in_ok-places.ensures.0
    ∙ (λ i. substituted_places (made_first i) ((c.as_slice-2.ensures.value ∙ ap (λ (e : FramedExit). e.places) c.exit.view_is) i)) in
    let ranges = c.in-Some.ensures.0 in
    let all_guards : c.joined.result.items ≡ s.guards ++ map (substituted (arguments ++ result_symbols s exit)) exit.guards =
    c.joined.ensures
    ∙ (λ i. (c.as_slice-6.ensures.value ∙ ap (λ (t : AbstractState). t.guards) c.self.view_is) i ++ (c.as_slice-7.ensures.value ∙ guards) i) in
    let slots = c.copied_slots.ensures ∙ ap (λ (t : AbstractState). t.slots) c.self.view_is in
    let operands : reverse c.joined-2.result.items ≡ reverse (result_symbols s exit) ++ below =
    operands_left (length arguments) c.self.inside.operands.items s.operands (result_symbols s exit) _
    (ap (λ (t : AbstractState). t.operands) c.self.view_is)
    (c.joined-2.ensures ∙ (λ i. take (c.len-5.ensures.value i - length arguments) (c.deref.ensures.0 i) ++ (c.as_slice-8.ensures.value ∙ sym c.as_slice.ensures.value ∙ results) i)) in
    let tray = ap (λ (e : FramedExit). e.tray) c.exit.view_is in
    let grip = ap (λ (e : FramedExit). e.grip) c.exit.view_is in
    let cost = ap (λ (t : AbstractState). t.cost) c.self.view_is in
    let guards_small : AllSmallForms s.guards = subst (λ (t : AbstractState). AllSmallForms t.guards) c.self.view_is c.self.invariant.guards in (
      λ i. record {
        ranges = ranges i;
        guards = all_guards i;
        slots = slots i;
        operands = operands i;
        places = places i;
        tray = tray i;
        grip = grip i;
        cost = cost i;
      },
      has_room s arguments below exit c.in-Some.ensures.1 few,
      small_after s arguments below exit guards_small (subst AllSmallPlaces places c.in_ok-places.ensures.1) (subst AllSmallForms guards c.in_ok-guards.ensures.1),
    )

-- What the calls ask for

pub symbols_from-results-requires : goal.symbols_from-results-requires
symbols_from-results-requires c =
    omega (
      arith,
      c.in-Some.ensures.1.0,
      length-append c.args.self.now.ranges c.args.exit.now.results,
      c.len-3.ensures.value ∙ ap ranges_in c.self.view_is,
      c.len-4.ensures.value ∙ ap results_in c.exit.view_is,
    )

pub joined-symbols-requires : goal.joined-symbols-requires
joined-symbols-requires c =
    omega (
      arith,
      c.requires.few,
      ap (length {A = Form}) c.as_slice.ensures.value,
      c.symbols_from-results.ensures.many,
      c.len-4.ensures.value ∙ ap results_in c.exit.view_is,
    )

pub places_with-requires-clause-small_places : goal.places_with-requires-clause-small_places
places_with-requires-clause-small_places c = subst AllSmallPlaces (sym c.as_slice-2.ensures.value) c.exit.invariant.places

pub places_with-requires-clause-small : goal.places_with-requires-clause-small
places_with-requires-clause-small c =
    small_joined c.args.arguments.now c.as_slice.result.now c.joined-symbols.result.items c.as_slice-3.result.now c.requires.small
    (subst AllSmallForms (sym c.as_slice.ensures.value) c.symbols_from-results.ensures.small) c.joined-symbols.ensures c.as_slice-3.ensures.value

pub guards_with-requires-clause-small_guards : goal.guards_with-requires-clause-small_guards
guards_with-requires-clause-small_guards c = subst AllSmallForms (sym c.as_slice-4.ensures.value) c.exit.invariant.guards

pub guards_with-requires-clause-small : goal.guards_with-requires-clause-small
guards_with-requires-clause-small c =
    small_joined c.args.arguments.now c.as_slice.result.now c.joined-symbols.result.items c.as_slice-5.result.now c.requires.small
    (subst AllSmallForms (sym c.as_slice.ensures.value) c.symbols_from-results.ensures.small) c.joined-symbols.ensures c.as_slice-5.ensures.value

pub joined-requires-2 : goal.joined-requires-2
joined-requires-2 c =
    let left = left_many (length c.args.arguments.now) c.self.inside.operands.items c.args.self.now.operands (ap (λ (t : AbstractState). t.operands) c.self.view_is) in
    let most =
    length-take-le (c.len-5.result - length c.args.arguments.now) c.deref.result.now
    (omega (arith, c.len-5.ensures.value, ap (length {A = Form}) c.deref.ensures.0)) in
    omega (
      arith,
      c.requires.room,
      left,
      most,
      c.len-5.ensures.value,
      ap (length {A = Form}) c.as_slice-8.ensures.value,
      c.symbols_from-results.ensures.many,
      c.len-4.ensures.value ∙ ap results_in c.exit.view_is,
    )

pub returns-then-len-gt-MOST_STATE_GUARDS : goal.returns-then-len-gt-MOST_STATE_GUARDS
returns-then-len-gt-MOST_STATE_GUARDS c =
    let s = c.args.self.now in
    let arguments = c.args.arguments.now in
    let more : 8 < length s.guards + length c.args.exit.now.guards = omega (
      arith,
      c.if-len-gt-MOST_STATE_GUARDS.true,
      c.len.ensures.value ∙ ap guards_in c.self.view_is,
      c.len-2.ensures.value ∙ ap (λ (guards : List Form). length guards) (ap exit_guards c.exit.view_is),
    ) in
    inl (
      too_many_guards s arguments (drop (length arguments) s.operands) c.args.exit.now more,
      c.plain-then-len-gt-MOST_STATE_GUARDS.ensures,
    )

pub returns-in_err-places : goal.returns-in_err-places
returns-in_err-places c =
    let s = c.args.self.now in
    let exit = c.args.exit.now in
    let arguments = c.args.arguments.now in
    let below = drop (length arguments) s.operands in
    let results : c.as_slice.result.now ≡ result_symbols s exit =
    c.as_slice.ensures.value ∙ c.symbols_from-results.ensures.symbols
    ∙ (λ i. symbols_from ((c.len-3.ensures.value ∙ ap ranges_in c.self.view_is) i) ((c.len-4.ensures.value ∙ ap results_in c.exit.view_is) i)) in
    let made : c.as_slice-3.result.now ≡ arguments ++ result_symbols s exit =
    c.as_slice-3.ensures.value ∙ c.joined-symbols.ensures ∙ (λ i. arguments ++ results i) in
    let places : c.as_slice-2.result.now ≡ exit.places = c.as_slice-2.ensures.value ∙ ap (λ (e : FramedExit). e.places) c.exit.view_is in
    let few : length s.guards + length exit.guards ≤ 8 = omega (
      arith,
      c.if-len-gt-MOST_STATE_GUARDS.false,
      c.len.ensures.value ∙ ap guards_in c.self.view_is,
      c.len-2.ensures.value ∙ ap (λ (guards : List Form). length guards) (ap exit_guards c.exit.view_is),
    ) in
    let p = err_from_is_err_and c.from_residual.result c.from_residual.ensures.1 in
    rw p.1
    (inr (
      has_room s arguments below exit c.in-Some.ensures.1 few,
      large_places s arguments below exit
          (λ small. c.in_err-places.ensures (subst AllSmallPlaces (λ i. substituted_places (sym made i) (sym places i)) small)),
      p.2,
    ))
