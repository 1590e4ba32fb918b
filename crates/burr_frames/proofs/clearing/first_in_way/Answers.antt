-- One piece more is clear or not, and none is left.
use Rattle.std.proofs.Common.{◌∙◌, List, sym, subst, arith}
use Rattle.std.proofs.lemmas.List.{drop_all, length-map}
use Rattle.burr_text.proofs.Common.Tests.{yes_of, no_of}
use Rattle.burr_voxels.specs.Grid.{minus}
use Rattle.burr_voxels.specs.Near.{IsWithin}
use Rattle.burr_code.proofs.Common.Near.{near_difference}
use Rattle.burr_frames.specs.declared.clearing.TrayPiece.{TrayPiece}
use Rattle.burr_frames.specs.Views.Clearing.{TrayPair, row_of}
use Rattle.burr_frames.proofs.PairsLeft.{PairsLeft, clear_here, not_clear_here, none_left}
use Rattle.burr_frames.proofs.clearing.first_in_way.Goals as goal

pub clears-requires-clause-near : goal.clears-requires-clause-near
clears-requires-clause-near g c =
    subst (IsWithin 512) (sym c.sub-displacement.ensures)
    (near_difference c.offset_of-offset.result c.offset_of.result c.offset_of-offset.ensures.near c.offset_of.ensures.near)

pub returns-then-not-clears : goal.returns-then-not-clears
returns-then-not-clears g c =
    let is = c.sub-displacement.ensures ∙ (λ i. minus (c.offset_of-offset.ensures.value i) (c.offset_of.ensures.value i)) in
    let stop = not_clear_here c.args.query c.args.values.now c.args.piece c.args.left.now c.loop-other.other-index _
    c.loop-other-test.true c.args.looks.now c.loop-other.looks c.loop-other.invariant c.clears.new.self _ is
    (no_of c.if-not-clears.ensures.answer) c.clears.ensures.counted in
    let row = length-map {B = TrayPair} c.args.left.now (λ (other : TrayPiece). (c.args.piece, other)) in
    let within = stop.2 in
    record { found = stop.0; counted = (stop.1, omega (arith, row, within), stop.3, stop.4) }

pub loop-other-preserved : goal.loop-other-preserved
loop-other-preserved g c =
    clear_here c.args.query c.args.values.now c.args.piece c.args.left.now c.loop-other.other-index _ c.loop-other-test.true
    c.args.looks.now c.loop-other.looks c.loop-other.invariant c.clears.new.self _
    (c.sub-displacement.ensures ∙ (λ i. minus (c.offset_of-offset.ensures.value i) (c.offset_of.ensures.value i)))
    (yes_of c.if-not-clears.ensures.answer) c.clears.ensures.counted

pub returns : goal.returns
returns g c =
    let all = row_of c.args.piece c.args.left.now in
    let assembly = c.args.looks.now.assembly in
    let stop = none_left assembly c.args.query c.args.values.now all c.args.looks.now c.loop-other.looks
    (subst (λ (rest : List TrayPiece). PairsLeft assembly c.args.query c.args.values.now all (row_of c.args.piece rest)
    c.args.looks.now c.loop-other.looks)
    (drop_all c.loop-other.other-index c.args.left.now c.loop-other-test.false) c.loop-other.invariant) in
    let row = length-map {B = TrayPair} c.args.left.now (λ (other : TrayPiece). (c.args.piece, other)) in
    let within = stop.2 in
    record { found = stop.0; counted = (stop.1, omega (arith, row, within), stop.3, stop.4) }
