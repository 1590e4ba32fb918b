use Rattle.std.proofs.Common.{◌<◌, refl, arith}
use Rattle.burr_plantext.proofs.Common.Cuts.{pieces_cut, pieces_uncut}
use Rattle.burr_plantext.proofs.Common.Pieces.{not_both}
use Rattle.burr_asm.proofs.PieceSets.{set_begins, number_first, no_member, no_pieces, member_few, set_goes_on, set_ends}
use Rattle.burr_asm.proofs.Words.{cut_shorter}
use Rattle.burr_asm.proofs.text.words.piece_set.Goals as goal

pub loop-number-init : goal.loop-number-init
loop-number-init c = set_begins _ _ _ c.args.word.formed c.as_slice.ensures c.if-eq.ensures

pub loop-number-preserved : goal.loop-number-preserved
loop-number-preserved c =
    set_goes_on _ _ _ _ _ c.loop-number.invariant _ _ (pieces_cut _ _ _ _ c.in-Some.ensures) _ _ c.in_ok-parse.ensures.1 c.in_ok-piece.ensures.0 c.in_ok-piece.ensures.1 c.requires _ refl

pub returns : goal.returns
returns c =
    set_ends _ _ _ _ _ c.loop-number.invariant _ _ (pieces_uncut _ _ c.in_default.ensures) _ _ c.in_ok-parse-2.ensures.1 c.in_ok-piece-2.ensures.0 c.in_ok-piece-2.ensures.1 c.requires refl

pub returns-in_err-parse : goal.returns-in_err-parse
returns-in_err-parse c = absurd (not_both _ (number_first _ _ _ _ _ c.loop-number.invariant _ _ (pieces_cut _ _ _ _ c.in-Some.ensures)) c.in_err-parse.ensures)

pub returns-in_err-piece : goal.returns-in_err-piece
returns-in_err-piece c = rw c.from_residual-in_err-piece.ensures (no_member _ _ _ _ _ c.loop-number.invariant _ _ (pieces_cut _ _ _ _ c.in-Some.ensures) _ c.in_ok-parse.ensures.1 c.in_err-piece.ensures)

pub returns-in_err-parse-2 : goal.returns-in_err-parse-2
returns-in_err-parse-2 c = absurd (not_both _ (number_first _ _ _ _ _ c.loop-number.invariant _ _ (pieces_uncut _ _ c.in_default.ensures)) c.in_err-parse-2.ensures)

pub returns-in_err-piece-2 : goal.returns-in_err-piece-2
returns-in_err-piece-2 c = rw c.from_residual-in_err-piece-2.ensures (no_member _ _ _ _ _ c.loop-number.invariant _ _ (pieces_uncut _ _ c.in_default.ensures) _ c.in_ok-parse-2.ensures.1 c.in_err-piece-2.ensures)

pub returns-then-eq : goal.returns-then-eq
returns-then-eq c = no_pieces _ _ _ c.as_slice.ensures c.if-eq.ensures

pub member-requires : goal.member-requires
member-requires c = c.requires

pub member-requires-2 : goal.member-requires-2
member-requires-2 c = c.requires

pub overflow_shl-set : goal.overflow_shl-set
overflow_shl-set c =
    let few : c.in_ok-piece.piece < 32 = member_few c.loop-number.least _ _ _ _ c.in_ok-parse.ensures.1 c.in_ok-piece.ensures.0 c.in_ok-piece.ensures.1 c.requires in
    omega (arith, few)

pub overflow_add-least : goal.overflow_add-least
overflow_add-least c =
    let few : c.in_ok-piece.piece < 32 = member_few c.loop-number.least _ _ _ _ c.in_ok-parse.ensures.1 c.in_ok-piece.ensures.0 c.in_ok-piece.ensures.1 c.requires in
    omega (arith, few)

pub overflow_shl-result : goal.overflow_shl-result
overflow_shl-result c =
    let few : c.in_ok-piece-2.piece < 32 = member_few c.loop-number.least _ _ _ _ c.in_ok-parse-2.ensures.1 c.in_ok-piece-2.ensures.0 c.in_ok-piece-2.ensures.1 c.requires in
    omega (arith, few)

pub loop-number-smaller : goal.loop-number-smaller
loop-number-smaller c = cut_shorter _ _ _ c.in-Some.ensures
