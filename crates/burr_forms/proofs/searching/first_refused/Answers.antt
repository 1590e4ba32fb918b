-- The search goes on from a point where the condition holds or a guard is negative.
use Rattle.std.proofs.Common.{◌≡◌, refl, sym, ap, ◌∙◌, ◌-◌, length, inl, inr, arith}
use Rattle.burr_forms.specs.Rules.Conditions.{region}
use Rattle.burr_forms.specs.Views.Rising.{following}
use Rattle.burr_forms.specs.Views.Searching.{steps_of}
use Rattle.burr_forms.proofs.Counts.{told_as, failed_as, here_as, looks_as, counts_first, counts_next, counts_end, counts_fail, promised_as, kept_as}
use Rattle.burr_forms.proofs.Search.{stands_first, at_many, at_near, at_few, fewer_after, fails_here, next_at, now_after, ended, put_back}
use Rattle.burr_forms.proofs.Cutting.{throughout_others, throughout_guards, fails_alike, counted_alike}
use Rattle.burr_forms.proofs.searching.first_refused.Goals as goal

pub loop-cutting-init : goal.loop-cutting-init
loop-cutting-init g c = (
  refl,
  record {
    carries = record {
      at = stands_first _ _ _ c.requires.ranges c.lowest_point-point.ensures;
      signs_after = inl c.new-signs.ensures;
      after = inl c.new-row.ensures;
    };
    counts = counts_first _ _ _ _ _ _ c.lowest_point-point.ensures c.requires.room;
  },
)

pub bring-requires-clause-near : goal.bring-requires-clause-near
bring-requires-clause-near g c = at_near _ _ _ c.requires.ranges c.loop-cutting.invariant.1.carries.at

pub bring-requires-clause-few : goal.bring-requires-clause-few
bring-requires-clause-few g c = at_few _ _ _ c.requires.few c.loop-cutting.invariant.1.carries.at

pub bring-requires-clause-after : goal.bring-requires-clause-after
bring-requires-clause-after g c = c.loop-cutting.invariant.1.carries.signs_after

pub passes-requires-clause-near : goal.passes-requires-clause-near
passes-requires-clause-near g c = at_near _ _ _ c.requires.ranges c.loop-cutting.invariant.1.carries.at

pub passes-requires-clause-few : goal.passes-requires-clause-few
passes-requires-clause-few g c = at_few _ _ _ c.requires.few c.loop-cutting.invariant.1.carries.at

pub passes-requires-clause-promised : goal.passes-requires-clause-promised
passes-requires-clause-promised g c =
    promised_as g.C.Asking.Subject g.C.Asking.Promised g.C.Asking.wanted _ _ c.loop-cutting.invariant.0
    (region c.args.ranges.now c.cutting_guards-cutting.result.now) c.bring.new.row.items c.loop-cutting.point.items
    (throughout_others c.args.ranges.now c.args.guards.now c.cutting_guards-cutting.result.now c.cutting_guards-cutting.ensures.alike _ c.requires.promised)
    c.loop-cutting.invariant.1.carries.at.inside c.bring.ensures

pub returns-then-not-passes-clause-found : goal.returns-then-not-passes-clause-found
returns-then-not-passes-clause-found g c =
    let searches = c.loop-cutting.invariant.1 in
    let failed = failed_as g.C.Asking.Subject g.C.Asking.Says g.C.Asking.Counts g.C.Asking.wanted g.C.Asking.most _ _
    c.loop-cutting.invariant.0 c.bring.new.row.items c.loop-cutting.point.items c.if-not-passes.ensures.told in
    fails_alike c.args.ranges.now c.args.guards.now c.cutting_guards-cutting.result.now c.cutting_guards-cutting.ensures.alike _ _
    (fails_here _ _ _ _ searches.carries.at c.bring.ensures failed)

pub returns-then-not-passes-clause-kept : goal.returns-then-not-passes-clause-kept
returns-then-not-passes-clause-kept g c =
    kept_as g.C.Asking.Subject g.C.Asking.wanted (g.C.Asking.Kept c.passes.new.condition) _ _
    c.loop-cutting.invariant.0 c.loop-cutting.point.items c.if-not-passes.ensures.kept

pub returns-then-not-passes-clause-counted : goal.returns-then-not-passes-clause-counted
returns-then-not-passes-clause-counted g c =
    let searches = c.loop-cutting.invariant.1 in
    let failed = failed_as g.C.Asking.Subject g.C.Asking.Says g.C.Asking.Counts g.C.Asking.wanted g.C.Asking.most _ _
    c.loop-cutting.invariant.0 c.bring.new.row.items c.loop-cutting.point.items c.if-not-passes.ensures.told in
    let looks = looks_as g.C.Asking.Subject g.C.Asking.Says g.C.Asking.Counts g.C.Asking.wanted g.C.Asking.most _ _
    c.loop-cutting.invariant.0 c.bring.new.row.items c.loop-cutting.point.items _ _ c.if-not-passes.ensures.counted in
    counted_alike c.args.ranges.now c.args.guards.now c.cutting_guards-cutting.result.now c.cutting_guards-cutting.ensures.alike _ _ _ _ c.requires.ranges
    (counts_fail _ _ _ _ _ _ _ _ _ searches.counts searches.carries.at.inside _ c.bring.ensures looks.2 failed looks.3)

pub advance-requires : goal.advance-requires
advance-requires g c = record { places = ap (λ xs. length xs) c.as_mut_slice.ensures.value ∙ at_many _ _ _ c.loop-cutting.invariant.1.carries.at }

pub returns-in_err-advance-clause-found : goal.returns-in_err-advance-clause-found
returns-in_err-advance-clause-found g c =
    let searches = c.loop-cutting.invariant.1 in
    let told = told_as g.C.Asking.Subject g.C.Asking.Says g.C.Asking.Counts g.C.Asking.wanted g.C.Asking.most _ _
    c.loop-cutting.invariant.0 c.bring.new.row.items c.loop-cutting.point.items c.if-not-passes.ensures.told in
    let end = ap (following c.args.ranges.now) (sym c.as_mut_slice.ensures.value) ∙ c.in_err-advance.ensures in
    rw c.from_residual.ensures (throughout_guards c.args.ranges.now c.args.guards.now c.cutting_guards-cutting.result.now c.cutting_guards-cutting.ensures.alike _
    (ended _ _ _ _ searches.carries.at c.bring.ensures c.requires.ranges told end))

pub returns-in_err-advance-clause-counted : goal.returns-in_err-advance-clause-counted
returns-in_err-advance-clause-counted g c =
    let searches = c.loop-cutting.invariant.1 in
    let told = told_as g.C.Asking.Subject g.C.Asking.Says g.C.Asking.Counts g.C.Asking.wanted g.C.Asking.most _ _
    c.loop-cutting.invariant.0 c.bring.new.row.items c.loop-cutting.point.items c.if-not-passes.ensures.told in
    let looks = looks_as g.C.Asking.Subject g.C.Asking.Says g.C.Asking.Counts g.C.Asking.wanted g.C.Asking.most _ _
    c.loop-cutting.invariant.0 c.bring.new.row.items c.loop-cutting.point.items _ _ c.if-not-passes.ensures.counted in
    let end = ap (following c.args.ranges.now) (sym c.as_mut_slice.ensures.value) ∙ c.in_err-advance.ensures in
    counted_alike c.args.ranges.now c.args.guards.now c.cutting_guards-cutting.result.now c.cutting_guards-cutting.ensures.alike _ _ _ _ c.requires.ranges
    (counts_end _ _ _ _ _ _ _ _ _ searches.counts searches.carries.at.inside _ c.bring.ensures looks.2 told looks.3 end)

pub loop-cutting-smaller-then-branch-last : goal.loop-cutting-smaller-then-branch-last
loop-cutting-smaller-then-branch-last g c =
    let up = put_back _ _ _ _ _ _ c.requires.ranges c.loop-cutting.invariant.1.carries.at c.as_mut_slice.ensures.value c.in_ok-advance.ensures in
    fewer_after _ _ c.requires.ranges _ _ c.loop-cutting.invariant.1.carries.at up.follows

pub loop-cutting-preserved-then-branch-last : goal.loop-cutting-preserved-then-branch-last
loop-cutting-preserved-then-branch-last g c =
    let searches = c.loop-cutting.invariant.1 in
    let told = told_as g.C.Asking.Subject g.C.Asking.Says g.C.Asking.Counts g.C.Asking.wanted g.C.Asking.most _ _
    c.loop-cutting.invariant.0 c.bring.new.row.items c.loop-cutting.point.items c.if-not-passes.ensures.told in
    let looks = looks_as g.C.Asking.Subject g.C.Asking.Says g.C.Asking.Counts g.C.Asking.wanted g.C.Asking.most _ _
    c.loop-cutting.invariant.0 c.bring.new.row.items c.loop-cutting.point.items _ _ c.if-not-passes.ensures.counted in
    let up = put_back _ _ _ _ _ _ c.requires.ranges c.loop-cutting.invariant.1.carries.at c.as_mut_slice.ensures.value c.in_ok-advance.ensures in (
      c.if-not-passes.ensures.same ∙ c.loop-cutting.invariant.0,
      record {
        carries = record {
          at = next_at _ _ _ _ searches.carries.at c.bring.ensures _ c.requires.ranges told up.follows;
          signs_after = inl c.clear.ensures;
          after = inl c.clear-then-branch-last.ensures;
        };
        counts = counts_next _ _ _ _ _ _ _ _ _ searches.counts searches.carries.at.inside _ c.bring.ensures looks.2 told looks.3
            _ c.requires.ranges looks.1 up.follows;
      },
    )

pub loop-cutting-smaller : goal.loop-cutting-smaller
loop-cutting-smaller g c =
    let up = put_back _ _ _ _ _ _ c.requires.ranges c.loop-cutting.invariant.1.carries.at c.as_mut_slice.ensures.value c.in_ok-advance.ensures in
    fewer_after _ _ c.requires.ranges _ _ c.loop-cutting.invariant.1.carries.at up.follows

pub loop-cutting-preserved : goal.loop-cutting-preserved
loop-cutting-preserved g c =
    let searches = c.loop-cutting.invariant.1 in
    let told = told_as g.C.Asking.Subject g.C.Asking.Says g.C.Asking.Counts g.C.Asking.wanted g.C.Asking.most _ _
    c.loop-cutting.invariant.0 c.bring.new.row.items c.loop-cutting.point.items c.if-not-passes.ensures.told in
    let here = here_as g.C.Asking.Subject g.C.Asking.Says g.C.Asking.Counts g.C.Asking.wanted g.C.Asking.most _ _
    c.loop-cutting.invariant.0 c.bring.new.row.items c.loop-cutting.point.items _ c.if-not-passes.ensures.here in
    let looks = looks_as g.C.Asking.Subject g.C.Asking.Says g.C.Asking.Counts g.C.Asking.wanted g.C.Asking.most _ _
    c.loop-cutting.invariant.0 c.bring.new.row.items c.loop-cutting.point.items _ _ c.if-not-passes.ensures.counted in
    let up = put_back _ _ _ _ _ _ c.requires.ranges c.loop-cutting.invariant.1.carries.at c.as_mut_slice.ensures.value c.in_ok-advance.ensures in
    let last : c.in_ok-advance.field-0 ≡ length c.args.ranges.now - 1 = omega (arith, c.if-branch-last.false, c.saturating_sub-last.ensures) in (
      c.if-not-passes.ensures.same ∙ c.loop-cutting.invariant.0,
      record {
        carries = record {
          at = next_at _ _ _ _ searches.carries.at c.bring.ensures _ c.requires.ranges told up.follows;
          signs_after = now_after _ _ _ _ _ _ _ up last
              (c.steps_along-sign_steps.ensures ∙ ap (λ k. steps_of k c.cutting_guards-cutting.result.now) c.saturating_sub-last.ensures) (inr c.bring.ensures);
          after = now_after _ _ _ _ _ _ _ up last
              (c.steps_along-steps.ensures ∙ ap (λ k. steps_of k c.wanted_forms.result.now) c.saturating_sub-last.ensures ∙ ap (steps_of (length c.args.ranges.now - 1)) c.wanted_forms.ensures)
              here;
        };
        counts = counts_next _ _ _ _ _ _ _ _ _ searches.counts searches.carries.at.inside _ c.bring.ensures looks.2 told looks.3
            _ c.requires.ranges looks.1 up.follows;
      },
    )
