-- One piece more: in another tray, gripped, or left in the tray.
use Rattle.std.proofs.Common.{◌∙◌, ◌+◌, ℕ, List, [], ◌∷◌, ◌++◌, refl, sym, ap, arith}
use Rattle.std.specs.Prelude.{map}
use Rattle.std.proofs.lemmas.List.{append-nil}
use Rattle.burr_text.proofs.Common.Tests.{yes_of, no_of}
use Rattle.burr_frames.specs.Rules.Looks.{gripped_in, left_in}
use Rattle.burr_frames.specs.declared.clearing.TrayPiece.{TrayPiece}
use Rattle.burr_frames.specs.Views.Clearing.{piece_in}
use Rattle.burr_frames.proofs.TrayPairs.{few_of_tray}
use Rattle.burr_frames.proofs.TrayRows.{number-le, one_counted, none_counted, step_past, step_here, step_room, left_first, left_past, gripped_first, gripped_past, piece_is}
use Rattle.burr_frames.proofs.clearing.put_pieces.Goals.{then-is_in_set, else-is_in_set}
use Rattle.burr_frames.proofs.clearing.put_pieces.Goals as goal

pub loop-piece-preserved-then-not-is_in : goal.loop-piece-preserved-then-not-is_in
loop-piece-preserved-then-not-is_in c =
    let f = piece_in c.args.tray c.args.places.now in
    record {
      gripped = step_past (λ (ps : List ℕ). map f (gripped_in c.args.grip ps)) c.args.tray c.loop-piece.piece c.args.places.now
          c.index-places-piece.result c.loop-piece-test.true c.index-places-piece.is c.loop-piece.gripped.items _
          c.loop-piece.invariant.gripped c.if-not-is_in.ensures c.loop-piece.gripped.items refl;
      left = step_past (λ (ps : List ℕ). map f (left_in c.args.grip ps)) c.args.tray c.loop-piece.piece c.args.places.now
          c.index-places-piece.result c.loop-piece-test.true c.index-places-piece.is c.loop-piece.left.items _
          c.loop-piece.invariant.left c.if-not-is_in.ensures c.loop-piece.left.items refl;
      number = c.loop-piece.invariant.number
          ∙ sym (none_counted c.args.tray c.args.places.now c.loop-piece.piece c.index-places-piece.result
          c.loop-piece-test.true c.index-places-piece.is (sym c.if-not-is_in.ensures));
    }

pub overflow_add-number : goal.overflow_add-number
overflow_add-number c =
    let few = number-le c.args.tray c.args.places.now c.loop-piece.piece c.requires.few in
    omega (arith, few, c.loop-piece.invariant.number)

-- the list of the gripped pieces has room
pub push-requires : goal.push-requires
push-requires c =
    let f = piece_in c.args.tray c.args.places.now in
    let k = c.loop-piece.piece in
    let all = few_of_tray c.args.tray c.args.grip c.args.places.now c.requires.few in
    let room = step_room (λ (ps : List ℕ). map f (gripped_in c.args.grip ps)) c.args.tray k c.args.places.now
    c.index-places-piece.result c.loop-piece-test.true c.index-places-piece.is c.loop-piece.gripped.items _
    c.loop-piece.invariant.gripped c.if-not-is_in.ensures (f k ∷ [])
    (ap (map f) (gripped_first c.args.grip k _ (yes_of c.if-is_in_set.ensures))) (omega (arith, all)) in
    (omega arith, omega (arith, room))

-- and that of those that are left
pub push-requires-else-is_in_set : goal.push-requires-else-is_in_set
push-requires-else-is_in_set c =
    let f = piece_in c.args.tray c.args.places.now in
    let k = c.loop-piece.piece in
    let all = few_of_tray c.args.tray c.args.grip c.args.places.now c.requires.few in
    let room = step_room (λ (ps : List ℕ). map f (left_in c.args.grip ps)) c.args.tray k c.args.places.now
    c.index-places-piece.result c.loop-piece-test.true c.index-places-piece.is c.loop-piece.left.items _
    c.loop-piece.invariant.left c.if-not-is_in.ensures (f k ∷ [])
    (ap (map f) (left_first c.args.grip k _ (no_of c.if-is_in_set.ensures))) (omega (arith, all)) in
    (omega arith, omega (arith, room))

pub loop-piece-preserved : goal.loop-piece-preserved
loop-piece-preserved c =
    let k = c.loop-piece.piece in
    let places = c.args.places.now in
    let f = piece_in c.args.tray places in
    let step = λ (F : List ℕ → List TrayPiece). step_here F c.args.tray k places c.index-places-piece.result
    c.loop-piece-test.true c.index-places-piece.is in
    let gripped = step (λ (ps : List ℕ). map f (gripped_in c.args.grip ps)) c.loop-piece.gripped.items _
    c.loop-piece.invariant.gripped c.if-not-is_in.ensures in
    let left = step (λ (ps : List ℕ). map f (left_in c.args.grip ps)) c.loop-piece.left.items _
    c.loop-piece.invariant.left c.if-not-is_in.ensures in
    let counted = ap (λ (n : ℕ). n + 1) c.loop-piece.invariant.number
    ∙ sym (one_counted c.args.tray places k c.index-places-piece.result c.loop-piece-test.true c.index-places-piece.is
    (sym c.if-not-is_in.ensures)) in
    let member = λ (items : List TrayPiece). ap (λ (piece : TrayPiece). items ++ piece ∷ [])
    (piece_is c.args.tray places k _ refl c.loop-piece.invariant.number) in
    elim c.if-is_in_set.branch [
      | then-is_in_set w ↦ record {
        gripped = gripped (f k ∷ []) (ap (map f) (gripped_first c.args.grip k _ (yes_of w.if-is_in_set.ensures)))
            c.if-is_in_set.gripped.items ((λ i. (w.gripped-is i).items) ∙ w.push.ensures.items ∙ member c.loop-piece.gripped.items);
        left = left [] (ap (map f) (left_past c.args.grip k _ (yes_of w.if-is_in_set.ensures)))
            c.if-is_in_set.left.items ((λ i. (w.left-is i).items) ∙ sym (append-nil c.loop-piece.left.items));
        number = counted;
      }
      | else-is_in_set w ↦ record {
        gripped = gripped [] (ap (map f) (gripped_past c.args.grip k _ (no_of w.if-is_in_set.ensures)))
            c.if-is_in_set.gripped.items ((λ i. (w.gripped-is i).items) ∙ sym (append-nil c.loop-piece.gripped.items));
        left = left (f k ∷ []) (ap (map f) (left_first c.args.grip k _ (no_of w.if-is_in_set.ensures)))
            c.if-is_in_set.left.items ((λ i. (w.left-is i).items) ∙ w.push-else-is_in_set.ensures.items ∙ member c.loop-piece.left.items);
        number = counted;
      }
    ]
