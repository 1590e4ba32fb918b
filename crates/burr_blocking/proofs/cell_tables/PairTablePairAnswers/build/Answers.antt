use Rattle.std.proofs.Common.{◌≡◌, ◌++◌, ◌+◌, ◌<◌, ◌∙◌, ℕ, Bool, List, length, take, ap, subst, sym, get_or, arith}
use Rattle.std.specs.List.{All}
use Rattle.std.proofs.lemmas.List.{take-append-le, take_all}
use Rattle.std.proofs.lemmas.List.Elements.{All-get_or}
use Rattle.burr_voxels.specs.Grid.{origin}
use Rattle.burr_voxels.specs.Near.{IsWithin}
use Rattle.burr_blocking.specs.Views.Boxes.{IsInBox, place_of, size_of}
use Rattle.burr_blocking.specs.Views.Tables.{SetsMarks}
use Rattle.burr_blocking.proofs.Hulls.{fits_minus}
use Rattle.burr_blocking.proofs.Marks.{is_box_of, box_reach, box_inside, box_low, box_room, adds_places, IsSoFar, so_far_more, so_far_all}
use Rattle.burr_blocking.proofs.cell_tables.PairTablePairAnswers.build.Goals as goal

-- a slice that is as long as what it was written over
whole_slice : (n : ℕ) (new old rest : List Bool) → n ≡ length old → length new ≡ length old → take n (new ++ rest) ≡ new
whole_slice n new old rest all same =
    take-append-le n new rest (omega (arith, all, same)) ∙ take_all n new (omega (arith, all, same))

pub places_from-requires-clause-inside : goal.places_from-requires-clause-inside
places_from-requires-clause-inside c =
    let e = c.displacements_to-extent.result in
    let hull = c.around-hull.result in
    let other = c.around-other_hull.result in
    let ps = c.args.cells.now in
    let qs = c.args.others.now in
    let box = is_box_of e hull other ps qs c.displacements_to-extent.ensures c.around-hull.ensures.small c.around-other_hull.ensures.small c.around-hull.ensures.holds c.around-other_hull.ensures.holds in
    box_reach e hull other ps qs box

pub sub-requires : goal.sub-requires
sub-requires c =
    fits_minus c.around-other_hull.result.least (get_or c.args.cells.now c.loop-cell.cell-index origin) c.around-other_hull.ensures.small.near (All-get_or (IsWithin 79) c.args.cells.now c.loop-cell.cell-index origin (omega arith) c.requires.near)

pub place-requires : goal.place-requires
place-requires c =
    let e = c.displacements_to-extent.result in
    let hull = c.around-hull.result in
    let other = c.around-other_hull.result in
    let ps = c.args.cells.now in
    let qs = c.args.others.now in
    let box = is_box_of e hull other ps qs c.displacements_to-extent.ensures c.around-hull.ensures.small c.around-other_hull.ensures.small c.around-hull.ensures.holds c.around-other_hull.ensures.holds in
    subst (IsInBox e) (sym c.sub.ensures) (box_low e hull other ps qs c.loop-cell.cell-index origin box (omega arith))

pub mark-requires : goal.mark-requires
mark-requires c =
    let e = c.displacements_to-extent.result in
    let hull = c.around-hull.result in
    let other = c.around-other_hull.result in
    let ps = c.args.cells.now in
    let qs = c.args.others.now in
    let box = is_box_of e hull other ps qs c.displacements_to-extent.ensures c.around-hull.ensures.small c.around-other_hull.ensures.small c.around-hull.ensures.holds c.around-other_hull.ensures.holds in
    let first = c.place.ensures.value ∙ ap (place_of e) c.sub.ensures in
    let room = box_room e hull other ps qs c.loop-cell.cell-index c.place.result origin c.deref.result.now box (omega arith) first (c.deref.ensures.value ∙ c.in_ok-places.ensures) in
    let size : length c.deref_mut.result.now ≡ size_of e = ap length c.deref_mut.ensures.value ∙ c.loop-cell.invariant.size in
    subst (λ (n : ℕ). All (λ (place : ℕ). c.place.result + place < n) c.deref.result.now) (sym size) room

pub loop-cell-preserved : goal.loop-cell-preserved
loop-cell-preserved c =
    let e = c.displacements_to-extent.result in
    let hull = c.around-hull.result in
    let other = c.around-other_hull.result in
    let ps = c.args.cells.now in
    let qs = c.args.others.now in
    let box = is_box_of e hull other ps qs c.displacements_to-extent.ensures c.around-hull.ensures.small c.around-other_hull.ensures.small c.around-hull.ensures.holds c.around-other_hull.ensures.holds in
    let old = c.loop-cell.marks.items in
    let new = c.mark.new.marks in
    let i = c.loop-cell.cell-index in
    let lt : i < length ps = omega arith in
    let first = c.place.ensures.value ∙ ap (place_of e) c.sub.ensures in
    let size : length new ≡ length old = c.mark.auto.marks ∙ ap length c.deref_mut.ensures.value in
    let sets : SetsMarks old new c.place.result c.deref.result.now = subst (λ (ms : List Bool). SetsMarks ms new c.place.result c.deref.result.now) c.deref_mut.ensures.value c.mark.ensures in
    let adds = adds_places e old new (get_or ps i origin) other.least hull.greatest qs c.place.result c.deref.result.now box.corner (box_low e hull other ps qs i origin box lt) (box_inside e hull other ps qs i origin box lt) (box_reach e hull other ps qs box) first (c.deref.ensures.value ∙ c.in_ok-places.ensures) sets in
    let more = so_far_more e old new ps qs i origin lt size adds c.loop-cell.invariant in
    subst (λ (ms : List Bool). IsSoFar e ms (take (i + 1) ps) qs) (sym (whole_slice c.loop-cell.marks.len new old _ (omega (arith, c.loop-cell.marks.ok.0)) size)) more

pub returns : goal.returns
returns c = so_far_all c.displacements_to-extent.result c.loop-cell.marks.items c.args.cells.now c.args.others.now c.loop-cell.cell-index (omega arith) c.loop-cell.invariant
