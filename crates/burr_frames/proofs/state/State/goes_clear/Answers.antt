-- A piece off the bench, a pair in each other's way, and neither.
use Rattle.std.proofs.Common.{rules, ◌≤◌, ◌+◌, ◌*◌, ◌^◌, ℕ, ℤ, List, ◌∙◌, length, take, inl, refl, sym, subst, ap, arith}
use Rattle.std.specs.Prelude.{All}
use Rattle.std.proofs.lemmas.Result.{err_from_is_err_and}
use Rattle.burr_assembly.specs.Rules.Homes.{homes_of}
use Rattle.burr_blocking.proofs.Common.Counts.{none_more}
use Rattle.burr_forms.specs.Rules.Forms.{Form}
use Rattle.burr_forms.specs.Rules.Conditions.{Region}
use Rattle.burr_forms.specs.Rules.Points.{box_size}
use Rattle.burr_forms.specs.Views.Rising.{count_in}
use Rattle.burr_frames.specs.declared.clearing.TrayPiece.{TrayPiece}
use Rattle.burr_frames.specs.Views.Clearing.{Asked, HasOffset, IsNoneOf, gripped_pieces, left_pieces, offsets_in}
use Rattle.burr_frames.specs.Rules.Verdicts.{Breaks}
use Rattle.burr_frames.proofs.Common.Sizes.{count-le}
use Rattle.burr_frames.proofs.GripLooks.{no_looks_off_bench, looks_of_search, counted_more}
use Rattle.burr_frames.proofs.MoveVerdicts.{on_bench_of_forms, off_bench_of_forms, is_search, none_in_way, first_in_way}
use Rattle.burr_frames.proofs.TrayPairs.{homed_places, gripped_known, left_known, none_of_left, few_pieces}
use Rattle.burr_frames.proofs.state.State.goes_clear.Goals as goal

-- a search over at most 4,096 points has room to count
has_room : (count : ℕ) (ranges : List (ℤ × ℤ)) → count ≤ 2 ^ 40 → box_size ranges ≤ 4096
    → count + 256 * count_in ranges ≤ 2 ^ 61
has_room count ranges few small = let points = count-le ranges in omega (arith, few, small, points)

pub returns-in_err-stays_within-clause-verdict : goal.returns-in_err-stays_within-clause-verdict
returns-in_err-stays_within-clause-verdict g c =
    let forms = c.as_slice.ensures.value ∙ c.put_offsets.ensures.offsets ∙ (λ i. offsets_in (c.tray-tray.ensures i) (c.places-places.ensures.places i)) in
    let failing = c.in_err-stays_within.ensures in
    let p = err_from_is_err_and c.from_residual.result c.from_residual.ensures.1 in
    rw (p.1, p.2) (inl (failing.0, off_bench_of_forms c.args.self.now c.as_slice.result.now failing.0 forms failing.1, ap Breaks failing.2))

pub returns-in_err-stays_within-clause-counted : goal.returns-in_err-stays_within-clause-counted
returns-in_err-stays_within-clause-counted g c =
    let s = c.args.self.now in
    let forms = c.as_slice.ensures.value ∙ c.put_offsets.ensures.offsets ∙ (λ i. offsets_in (c.tray-tray.ensures i) (c.places-places.ensures.places i)) in
    let failing = c.in_err-stays_within.ensures in (
      0,
      no_looks_off_bench (homes_of c.args.looks.now.assembly) s s.places c.args.query failing.0
          (off_bench_of_forms s c.as_slice.result.now failing.0 forms failing.1),
      none_more c.args.looks.now,
    )

pub first_refused-requires-clause-room : goal.first_refused-requires-clause-room
first_refused-requires-clause-room g c =
    let same = ap (λ (r : Region). r.ranges) c.region-here.ensures.points in
    has_room c.args.looks.now.count c.region-here.result.ranges.now c.requires.room (subst (λ (rs : List (ℤ × ℤ)). box_size rs ≤ 4096) (sym same) c.requires.points)

pub invariant_of-clearing : goal.invariant_of-clearing
invariant_of-clearing g c =
    let tray = c.tray-tray.result in
    let grip = c.grip.result in
    let assembly = c.args.looks.now.assembly in
    let places = c.places-places.result.now in
    let forms = c.as_slice-2.ensures.value ∙ c.put_offsets.ensures.offsets in
    let homed = homed_places assembly c.assembly.result.now places c.min-homed.result c.from.result
    (c.from.ensures ∙ c.piece_count.ensures.count) c.assembly.ensures (c.min-homed.ensures) in
    let gripped = c.as_slice-3.ensures.value ∙ c.put_pieces.ensures.gripped ∙ ap (gripped_pieces tray grip) homed in
    let left = c.as_slice-4.ensures.value ∙ c.put_pieces.ensures.left ∙ ap (left_pieces tray grip) homed in
    let known = λ (pieces : List TrayPiece). subst (λ (fs : List Form). All (HasOffset assembly (length fs)) pieces) (sym forms) in
    record {
      gripped_known = subst (All (HasOffset assembly (length c.as_slice-2.result.now))) (sym gripped)
          (known _ (gripped_known assembly tray grip places));
      left_known = subst (All (HasOffset assembly (length c.as_slice-2.result.now))) (sym left)
          (known _ (left_known assembly tray grip places));
      others = subst (All (IsNoneOf c.as_slice-4.result.now)) (sym gripped)
          (subst (λ (ps : List TrayPiece). All (IsNoneOf ps) (gripped_pieces tray grip (take (length (homes_of assembly)) places))) (sym left)
          (none_of_left assembly tray grip places));
      few = subst (λ (ps : List TrayPiece). length ps + length c.as_slice-4.result.now ≤ 32) (sym gripped)
          (subst (λ (ps : List TrayPiece). length (gripped_pieces tray grip (take (length (homes_of assembly)) places)) + length ps ≤ 32) (sym left)
          (few_pieces assembly tray grip places c.places-places.ensures.few));
    }

pub returns-in-None : goal.returns-in-None
returns-in-None g c =
    let assembly = c.args.looks.now.assembly in
    let s = c.args.self.now in
    let is = is_search assembly _ s _ _ _ _ _ _ _ _ _ c.region-here.ensures.points (c.as_slice-2.ensures.value ∙ c.put_offsets.ensures.offsets)
    (c.as_slice-3.ensures.value ∙ c.put_pieces.ensures.gripped) (c.as_slice-4.ensures.value ∙ c.put_pieces.ensures.left)
    (c.from.ensures ∙ c.piece_count.ensures.count) c.assembly.ensures c.min-homed.ensures c.tray-tray.ensures c.grip.ensures c.places-places.ensures.places in
    let forms = c.as_slice.ensures.value ∙ c.put_offsets.ensures.offsets ∙ (λ i. offsets_in (c.tray-tray.ensures i) (c.places-places.ensures.places i)) in
    let on = on_bench_of_forms s c.as_slice.result.now forms c.in_ok-stays_within.ensures in
    let made = c.in-None.ensures.counted in
    record {
      verdict = none_in_way assembly s s.places c.args.query c.args.rule _ is on c.in-None.ensures.found;
      counted = (
        made.0,
        looks_of_search assembly s s.places c.args.query _ made.0 is on made.1,
        search (counted_more c.args.looks.now c.first_refused.new.condition.looks.now made.0 (ap (λ (a : Asked). a.assembly) c.in-None.ensures.same) made.2, ap (λ (a : Asked). a.counter) c.in-None.ensures.same, rules),
      );
    }

pub returns-in-Some : goal.returns-in-Some
returns-in-Some g c =
    let assembly = c.args.looks.now.assembly in
    let s = c.args.self.now in
    let is = is_search assembly _ s _ _ _ _ _ _ _ _ _ c.region-here.ensures.points (c.as_slice-2.ensures.value ∙ c.put_offsets.ensures.offsets)
    (c.as_slice-3.ensures.value ∙ c.put_pieces.ensures.gripped) (c.as_slice-4.ensures.value ∙ c.put_pieces.ensures.left)
    (c.from.ensures ∙ c.piece_count.ensures.count) c.assembly.ensures c.min-homed.ensures c.tray-tray.ensures c.grip.ensures c.places-places.ensures.places in
    let forms = c.as_slice.ensures.value ∙ c.put_offsets.ensures.offsets ∙ (λ i. offsets_in (c.tray-tray.ensures i) (c.places-places.ensures.places i)) in
    let on = on_bench_of_forms s c.as_slice.result.now forms c.in_ok-stays_within.ensures in
    let made = c.in-Some.ensures.counted in
    record {
      verdict = first_in_way assembly s s.places c.args.query c.args.rule _ is on c.in-Some.point.items
          c.first_refused.new.condition.found _ c.in-Some.ensures.found c.in-Some.ensures.kept refl;
      counted = (
        made.0,
        looks_of_search assembly s s.places c.args.query _ made.0 is on made.1,
        search (counted_more c.args.looks.now c.first_refused.new.condition.looks.now made.0 (ap (λ (a : Asked). a.assembly) c.in-Some.ensures.same) made.2, ap (λ (a : Asked). a.counter) c.in-Some.ensures.same, rules),
      );
    }
