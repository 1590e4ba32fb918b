-- One gripped piece more is clear of all that are left or not, and no gripped piece is left.
use Rattle.std.proofs.Common.{List, length, subst, arith}
use Rattle.std.proofs.lemmas.List.{drop_all}
use Rattle.burr_assembly.specs.Rules.Text.{Assembly}
use Rattle.burr_frames.specs.declared.clearing.TrayPiece.{TrayPiece}
use Rattle.burr_frames.specs.Rules.Looks.{pairs_of}
use Rattle.burr_frames.specs.Views.Clearing.{HasOffset, IsNoneOf}
use Rattle.burr_frames.proofs.Common.Sizes.{pairs-le}
use Rattle.burr_frames.proofs.PairsLeft.{PairsLeft, piece_here, others_here, pairs_room, row_clear_here, row_not_clear_here, none_left}
use Rattle.burr_frames.proofs.clearing.first_pair.Goals as goal

abbrev no_piece : TrayPiece
no_piece = record { piece = 0; number = 0 }

pub first_in_way-requires : goal.first_in_way-requires
first_in_way-requires g c =
    let n = length c.args.values.now in
    let few = c.requires.few in
    record {
      piece = piece_here c.args.query c.args.values.now c.args.gripped.now c.args.left.now c.loop-piece.piece-index no_piece
          c.loop-piece-test.true c.args.looks.now c.loop-piece.looks c.loop-piece.invariant
          (λ (a : Assembly) (piece : TrayPiece). HasOffset a n piece) c.requires.gripped;
      left = others_here c.args.query c.args.values.now c.args.gripped.now c.args.left.now c.loop-piece.piece-index no_piece
          c.loop-piece-test.true c.args.looks.now c.loop-piece.looks c.loop-piece.invariant n c.requires.left;
      others = piece_here c.args.query c.args.values.now c.args.gripped.now c.args.left.now c.loop-piece.piece-index no_piece
          c.loop-piece-test.true c.args.looks.now c.loop-piece.looks c.loop-piece.invariant
          (λ (a : Assembly) (piece : TrayPiece). IsNoneOf c.args.left.now piece) c.requires.others;
      few = omega (arith, few);
      reach = c.requires.reach;
      room = pairs_room c.args.query c.args.values.now c.args.gripped.now c.args.left.now c.loop-piece.piece-index no_piece
          c.loop-piece-test.true c.args.looks.now c.loop-piece.looks c.loop-piece.invariant c.requires.few c.requires.room;
    }

pub returns-in-Some : goal.returns-in-Some
returns-in-Some g c =
    let stop = row_not_clear_here c.args.query c.args.values.now c.args.gripped.now c.args.left.now c.loop-piece.piece-index _
    c.loop-piece-test.true c.args.looks.now c.loop-piece.looks c.loop-piece.invariant c.first_in_way.new.looks _ (
      c.in-Some.ensures.found,
      c.in-Some.ensures.counted.0,
      c.in-Some.ensures.counted.1,
      c.in-Some.ensures.counted.2,
      c.in-Some.ensures.counted.3,
    ) in
    let few = pairs-le c.args.gripped.now c.args.left.now c.requires.few in
    let within = stop.2 in
    record { found = stop.0; counted = (stop.1, omega (arith, few, within), stop.3, stop.4) }

pub loop-piece-preserved : goal.loop-piece-preserved
loop-piece-preserved g c =
    row_clear_here c.args.query c.args.values.now c.args.gripped.now c.args.left.now c.loop-piece.piece-index _
    c.loop-piece-test.true c.args.looks.now c.loop-piece.looks c.loop-piece.invariant c.first_in_way.new.looks (
      c.in_default.ensures.found,
      c.in_default.ensures.counted.0,
      c.in_default.ensures.counted.1,
      c.in_default.ensures.counted.2,
      c.in_default.ensures.counted.3,
    )

pub returns : goal.returns
returns g c =
    let all = pairs_of c.args.gripped.now c.args.left.now in
    let assembly = c.args.looks.now.assembly in
    let stop = none_left assembly c.args.query c.args.values.now all c.args.looks.now c.loop-piece.looks
    (subst (λ (rest : List TrayPiece). PairsLeft assembly c.args.query c.args.values.now all (pairs_of rest c.args.left.now)
    c.args.looks.now c.loop-piece.looks)
    (drop_all c.loop-piece.piece-index c.args.gripped.now c.loop-piece-test.false) c.loop-piece.invariant) in
    let few = pairs-le c.args.gripped.now c.args.left.now c.requires.few in
    let within = stop.2 in
    record { found = stop.0; counted = (stop.1, omega (arith, few, within), stop.3, stop.4) }
