use Rattle.std.proofs.Common.{◌≡◌, ◌∙◌, ◌≤◌, ◌<◌, ◌+◌, ℕ, List, length, get_or, take, ap, subst, sym, arith}
use Rattle.std.proofs.lemmas.List.Elements.{All-get_or}
use Rattle.burr_voxels.specs.Grid.{origin, minus}
use Rattle.burr_voxels.specs.Near.{IsWithin}
use Rattle.burr_blocking.specs.Views.Boxes.{IsInBox, row_of, column_of}
use Rattle.burr_blocking.specs.Views.Bits.{AreNext, or_both, joined_from}
use Rattle.burr_blocking.proofs.Hulls.{fits_minus}
use Rattle.burr_blocking.proofs.Marks.{is_box_of, box_reach, box_low}
use Rattle.burr_blocking.proofs.Made.{AreMade, made_both, made_all, made_rows, made_short, box_last, box_rows, box_fits, whole_rows, in_rows}
use Rattle.burr_blocking.proofs.row_tables.PairRowsPairAnswers.build.Goals as goal

pub sub-requires : goal.sub-requires
sub-requires c = fits_minus c.around-other_hull.result.greatest c.around-hull.result.greatest c.around-other_hull.ensures.small.far c.around-hull.ensures.small.far

pub row-last-requires : goal.row-last-requires
row-last-requires c =
    let e = c.displacements_to-extent.result in
    let hull = c.around-hull.result in
    let other = c.around-other_hull.result in
    let ps = c.args.cells.now in
    let qs = c.args.others.now in
    let box = is_box_of e hull other ps qs c.displacements_to-extent.ensures c.around-hull.ensures.small c.around-other_hull.ensures.small c.around-hull.ensures.holds c.around-other_hull.ensures.holds in
    in_rows e c.sub.result (subst (IsInBox e) (sym c.sub.ensures) (box_last e hull other ps qs box))

pub rows_from-requires-clause-inside : goal.rows_from-requires-clause-inside
rows_from-requires-clause-inside c =
    let e = c.displacements_to-extent.result in
    let hull = c.around-hull.result in
    let other = c.around-other_hull.result in
    let ps = c.args.cells.now in
    let qs = c.args.others.now in
    let box = is_box_of e hull other ps qs c.displacements_to-extent.ensures c.around-hull.ensures.small c.around-other_hull.ensures.small c.around-hull.ensures.holds c.around-other_hull.ensures.holds in
    box_reach e hull other ps qs box

pub rows_from-requires-clause-rows : goal.rows_from-requires-clause-rows
rows_from-requires-clause-rows c =
    let e = c.displacements_to-extent.result in
    let hull = c.around-hull.result in
    let other = c.around-other_hull.result in
    let ps = c.args.cells.now in
    let qs = c.args.others.now in
    let box = is_box_of e hull other ps qs c.displacements_to-extent.ensures c.around-hull.ensures.small c.around-other_hull.ensures.small c.around-hull.ensures.holds c.around-other_hull.ensures.holds in
    let last : c.row-last.result ≡ row_of e (minus other.greatest hull.greatest) = c.row-last.ensures.value ∙ ap (row_of e) c.sub.ensures in
    box_rows e hull other ps qs c.row-last.result box last

pub sub-low-requires : goal.sub-low-requires
sub-low-requires c =
    fits_minus c.around-other_hull.result.least (get_or c.args.cells.now c.loop-i.i origin) c.around-other_hull.ensures.small.near (All-get_or (IsWithin 79) c.args.cells.now c.loop-i.i origin (omega (arith, c.loop-i-test.true)) c.requires.near)

pub sub-further-requires : goal.sub-further-requires
sub-further-requires c =
    fits_minus c.around-other_hull.result.least (get_or c.args.cells.now c.last_in_row-also.result origin) c.around-other_hull.ensures.small.near (All-get_or (IsWithin 79) c.args.cells.now c.last_in_row-also.result origin c.last_in_row-also.ensures.inside c.requires.near)

pub row-requires : goal.row-requires
row-requires c =
    let e = c.displacements_to-extent.result in
    let hull = c.around-hull.result in
    let other = c.around-other_hull.result in
    let ps = c.args.cells.now in
    let qs = c.args.others.now in
    let box = is_box_of e hull other ps qs c.displacements_to-extent.ensures c.around-hull.ensures.small c.around-other_hull.ensures.small c.around-hull.ensures.holds c.around-other_hull.ensures.holds in
    let low : IsInBox e c.sub-low.result = subst (IsInBox e) (sym c.sub-low.ensures) (box_low e hull other ps qs c.loop-i.i origin box (omega (arith, c.loop-i-test.true))) in
    in_rows e c.sub-low.result low

pub column-requires-clause-from : goal.column-requires-clause-from
column-requires-clause-from c =
    let e = c.displacements_to-extent.result in
    let hull = c.around-hull.result in
    let other = c.around-other_hull.result in
    let ps = c.args.cells.now in
    let qs = c.args.others.now in
    let box = is_box_of e hull other ps qs c.displacements_to-extent.ensures c.around-hull.ensures.small c.around-other_hull.ensures.small c.around-hull.ensures.holds c.around-other_hull.ensures.holds in
    let low : IsInBox e c.sub-low.result = subst (IsInBox e) (sym c.sub-low.ensures) (box_low e hull other ps qs c.loop-i.i origin box (omega (arith, c.loop-i-test.true))) in
    low.x_from

pub column-requires-clause-to : goal.column-requires-clause-to
column-requires-clause-to c =
    let e = c.displacements_to-extent.result in
    let hull = c.around-hull.result in
    let other = c.around-other_hull.result in
    let ps = c.args.cells.now in
    let qs = c.args.others.now in
    let box = is_box_of e hull other ps qs c.displacements_to-extent.ensures c.around-hull.ensures.small c.around-other_hull.ensures.small c.around-hull.ensures.holds c.around-other_hull.ensures.holds in
    let low : IsInBox e c.sub-low.result = subst (IsInBox e) (sym c.sub-low.ensures) (box_low e hull other ps qs c.loop-i.i origin box (omega (arith, c.loop-i-test.true))) in
    low.x_to

pub column-requires-in-loop-i-clause-from : goal.column-requires-in-loop-i-clause-from
column-requires-in-loop-i-clause-from c =
    let e = c.displacements_to-extent.result in
    let hull = c.around-hull.result in
    let other = c.around-other_hull.result in
    let ps = c.args.cells.now in
    let qs = c.args.others.now in
    let box = is_box_of e hull other ps qs c.displacements_to-extent.ensures c.around-hull.ensures.small c.around-other_hull.ensures.small c.around-hull.ensures.holds c.around-other_hull.ensures.holds in
    let also : IsInBox e c.sub-further.result = subst (IsInBox e) (sym c.sub-further.ensures) (box_low e hull other ps qs c.last_in_row-also.result origin box c.last_in_row-also.ensures.inside) in
    also.x_from

pub column-requires-in-loop-i-clause-to : goal.column-requires-in-loop-i-clause-to
column-requires-in-loop-i-clause-to c =
    let e = c.displacements_to-extent.result in
    let hull = c.around-hull.result in
    let other = c.around-other_hull.result in
    let ps = c.args.cells.now in
    let qs = c.args.others.now in
    let box = is_box_of e hull other ps qs c.displacements_to-extent.ensures c.around-hull.ensures.small c.around-other_hull.ensures.small c.around-hull.ensures.holds c.around-other_hull.ensures.holds in
    let also : IsInBox e c.sub-further.result = subst (IsInBox e) (sym c.sub-further.ensures) (box_low e hull other ps qs c.last_in_row-also.result origin box c.last_in_row-also.ensures.inside) in
    also.x_to

pub join-requires-clause-fits : goal.join-requires-clause-fits
join-requires-clause-fits c =
    let e = c.displacements_to-extent.result in
    let hull = c.around-hull.result in
    let other = c.around-other_hull.result in
    let ps = c.args.cells.now in
    let qs = c.args.others.now in
    let box = is_box_of e hull other ps qs c.displacements_to-extent.ensures c.around-hull.ensures.small c.around-other_hull.ensures.small c.around-hull.ensures.holds c.around-other_hull.ensures.holds in
    let last : c.row-last.result ≡ row_of e (minus other.greatest hull.greatest) = c.row-last.ensures.value ∙ ap (row_of e) c.sub.ensures in
    let i = c.loop-i.i in
    let lt : i < length ps = omega (arith, c.loop-i-test.true) in
    let first : c.row.result ≡ row_of e (minus other.least (get_or ps i origin)) = c.row.ensures.value ∙ ap (row_of e) c.sub-low.ensures in
    let room = box_fits e hull other ps qs i c.row.result c.row-last.result origin box lt first last in
    omega (arith, room, c.in_ok-other_rows.ensures.0, c.in_ok-other_rows.other_rows.ok.0, c.loop-i.invariant.1, c.loop-i.rows.ok.0, ap length c.deref-in-loop-i.ensures.value, ap length c.deref_mut.ensures.value)

pub loop-i-preserved : goal.loop-i-preserved
loop-i-preserved c =
    let e = c.displacements_to-extent.result in
    let hull = c.around-hull.result in
    let other = c.around-other_hull.result in
    let ps = c.args.cells.now in
    let qs = c.args.others.now in
    let box = is_box_of e hull other ps qs c.displacements_to-extent.ensures c.around-hull.ensures.small c.around-other_hull.ensures.small c.around-hull.ensures.holds c.around-other_hull.ensures.holds in
    let last : c.row-last.result ≡ row_of e (minus other.greatest hull.greatest) = c.row-last.ensures.value ∙ ap (row_of e) c.sub.ensures in
    let i = c.loop-i.i in
    let lt : i < length ps = omega (arith, c.loop-i-test.true) in
    let first : c.row.result ≡ row_of e (minus other.least (get_or ps i origin)) = c.row.ensures.value ∙ ap (row_of e) c.sub-low.ensures in
    let room = box_fits e hull other ps qs i c.row.result c.row-last.result origin box lt first last in
    let old = c.loop-i.rows.items in
    let source = c.in_ok-other_rows.other_rows.items in
    let new = c.join.new.rows in
    let m = c.last_in_row-also.result in
    let columns : c.column.result ≡ column_of e (minus other.least (get_or ps i origin)) = c.column.ensures.value ∙ ap (column_of e) c.sub-low.ensures in
    let further : c.column-in-loop-i.result ≡ column_of e (minus other.least (get_or ps m origin)) = c.column-in-loop-i.ensures.value ∙ ap (column_of e) c.sub-further.ensures in
    let fits : c.row.result + length source ≤ length old = omega (arith, room, c.in_ok-other_rows.ensures.0, c.in_ok-other_rows.other_rows.ok.0, c.loop-i.invariant.1, c.loop-i.rows.ok.0) in
    let join : List ℕ → List ℕ → List ℕ = joined_from (or_both c.column.result c.column-in-loop-i.result) c.row.result in
    let new_is : new ≡ join old source = c.join.ensures ∙ ap (λ (rs : List ℕ). join rs c.deref-in-loop-i.result.now) c.deref_mut.ensures.value ∙ ap (λ (rs : List ℕ). join old rs) c.deref-in-loop-i.ensures.value in
    let more = made_both e hull other old source ps qs i m c.row.result c.column.result c.column-in-loop-i.result box lt c.last_in_row-also.ensures first columns further fits c.in_ok-other_rows.ensures.1 c.loop-i.invariant.2 in
    let made : AreMade e new (take (m + 1) ps) qs = subst (λ (rs : List ℕ). AreMade e rs (take (m + 1) ps) qs) (sym new_is) more in
    let size : length new ≡ length old = c.join.auto.rows ∙ ap length c.deref_mut.ensures.value in (
      omega (arith, c.last_in_row-also.ensures.inside),
      c.loop-i.invariant.1,
      subst (λ (rs : List ℕ). AreMade e rs (take (m + 1) ps) qs) (sym (whole_rows c.loop-i.rows.len new old _ (omega (arith, c.loop-i.rows.ok.0)) size)) made,
    )

pub invariant_of-result : goal.invariant_of-result
invariant_of-result c =
    let e = c.displacements_to-extent.result in
    let hull = c.around-hull.result in
    let other = c.around-other_hull.result in
    let ps = c.args.cells.now in
    let qs = c.args.others.now in
    let box = is_box_of e hull other ps qs c.displacements_to-extent.ensures c.around-hull.ensures.small c.around-other_hull.ensures.small c.around-hull.ensures.holds c.around-other_hull.ensures.holds in
    record {
      sides = (c.wide.ensures.count, c.deep.ensures.count, c.high.ensures.count);
      whole = c.loop-i.invariant.1;
      short = made_short e hull other c.loop-i.rows.items ps qs box (made_all e c.loop-i.rows.items ps qs c.loop-i.i (omega (arith, c.loop-i-test.false)) c.loop-i.invariant.2);
    }

pub returns : goal.returns
returns c =
    let e = c.displacements_to-extent.result in
    let hull = c.around-hull.result in
    let other = c.around-other_hull.result in
    let ps = c.args.cells.now in
    let qs = c.args.others.now in
    let box = is_box_of e hull other ps qs c.displacements_to-extent.ensures c.around-hull.ensures.small c.around-other_hull.ensures.small c.around-hull.ensures.holds c.around-other_hull.ensures.holds in
    made_rows e hull other c.loop-i.rows.items ps qs box (made_all e c.loop-i.rows.items ps qs c.loop-i.i (omega (arith, c.loop-i-test.false)) c.loop-i.invariant.2)

pub join-requires-clause-next : goal.join-requires-clause-next
join-requires-clause-next c =
    let source = c.in_ok-other_rows.other_rows.items in
    let rows : c.deref-in-loop-i.result.now ≡ c.deref.result.now = c.deref-in-loop-i.ensures.value ∙ sym c.deref.ensures.value in
    subst (λ (ns : List ℕ). AreNext c.deref-in-loop-i.result.now ns) (sym c.deref-in-loop-i-2.ensures.value) (subst (λ (rs : List ℕ). AreNext rs c.in_ok-next.next.items) (sym rows) c.in_ok-next.ensures.1)
