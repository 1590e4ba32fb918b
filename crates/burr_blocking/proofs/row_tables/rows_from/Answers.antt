use Rattle.std.proofs.Common.{◌≡◌, ◌∙◌, ◌<◌, ◌+◌, ℕ, List, length, get_or, take, ap, subst, sym, arith}
use Rattle.std.proofs.lemmas.List.Elements.{All-get_or}
use Rattle.burr_voxels.specs.Grid.{origin}
use Rattle.burr_voxels.specs.Near.{IsWithin}
use Rattle.burr_blocking.specs.Views.Boxes.{row_of, column_of}
use Rattle.burr_blocking.specs.Views.Bits.{SetsBit}
use Rattle.burr_blocking.specs.Views.PairBits.{AreBitsFrom}
use Rattle.burr_blocking.proofs.Hulls.{fits_minus}
use Rattle.burr_blocking.proofs.Made.{bits_more, bits_all, whole_rows}
use Rattle.burr_blocking.proofs.row_tables.rows_from.Goals as goal

pub sub-way-requires : goal.sub-way-requires
sub-way-requires c =
    fits_minus (get_or c.args.cells.now c.loop-cell.cell-index origin) c.args.corner (All-get_or (IsWithin 79) c.args.cells.now c.loop-cell.cell-index origin (omega arith) c.requires.near) c.requires.corner

pub loop-cell-preserved : goal.loop-cell-preserved
loop-cell-preserved c =
    let e = c.args.extent in
    let corner = c.args.corner in
    let cells = c.args.cells.now in
    let i = c.loop-cell.cell-index in
    let lt : i < length cells = omega arith in
    let old = c.loop-cell.rows.items in
    let new = c.set_bit.new.rows in
    let size : length new ≡ length old = c.set_bit.auto.rows ∙ ap length c.deref_mut.ensures.value in
    let sets : SetsBit old new c.row.result c.column.result = subst (λ (rs : List ℕ). SetsBit rs new c.row.result c.column.result) c.deref_mut.ensures.value c.set_bit.ensures in
    let more : AreBitsFrom e new corner (take (i + 1) cells) = bits_more e old new corner cells i c.row.result c.column.result origin lt (c.row.ensures.value ∙ ap (row_of e) c.sub-way.ensures) (c.column.ensures.value ∙ ap (column_of e) c.sub-way.ensures) sets c.loop-cell.invariant.1 in (
      c.loop-cell.invariant.0,
      subst (λ (rs : List ℕ). AreBitsFrom e rs corner (take (i + 1) cells)) (sym (whole_rows c.loop-cell.rows.len new old _ (omega (arith, c.loop-cell.rows.ok.0)) size)) more,
    )

pub returns : goal.returns
returns c = (c.loop-cell.invariant.0, bits_all c.args.extent c.loop-cell.rows.items c.args.corner c.args.cells.now c.loop-cell.cell-index (omega arith) c.loop-cell.invariant.1)
