-- A line of the pieces of a frame is judged as by the rules.
use Rattle.std.proofs.Common.{◌≡◌, length, sym, ap, ◌∙◌}
use Rattle.std.specs.Prelude.{vec_len}
use Rattle.std.proofs.lemmas.List.{length-map}
use Rattle.std.proofs.lemmas.Result.{err_from_is_err_and}
use Rattle.burr_container.specs.Rules.Plans.{Frame}
use Rattle.burr_container.specs.Views.OwnedPlaces.{placement_of}
use Rattle.burr_asm.specs.Views.LineWords.{piece_words}
use Rattle.burr_asm.specs.Views.Routines.{with_frame}
use Rattle.burr_asm.proofs.StageFrames.{piece_refused, piece_added, piece_last, other_pieces, are_other, are_same}
use Rattle.burr_asm.proofs.text.stage.in_pieces.Goals as goal

pub returns-then-len-from : goal.returns-then-len-from
returns-then-len-from c =
    let places : vec_len c.frame.inside.places ≡ length c.add_piece.new.frame.places =
    c.frame.inside.places.ok.0 ∙ sym (length-map c.frame.inside.places.items placement_of)
    ∙ ap (λ (f : Frame). length f.places) c.frame.view_is in
    rw c.in-At.is
    (piece_added c.args.frame.now c.add_piece.new.frame c.args.routine.now c.args.pieces (piece_words c.in-At.words) c.args.line c.in_ok-add_piece.ensures
    (are_other c.len.result c.from.result (length c.add_piece.new.frame.places) c.args.pieces (c.len.ensures ∙ places) c.from.ensures c.if-len-from.true))

pub returns : goal.returns
returns c =
    let places : vec_len c.frame.inside.places ≡ length c.add_piece.new.frame.places =
    c.frame.inside.places.ok.0 ∙ sym (length-map c.frame.inside.places.items placement_of)
    ∙ ap (λ (f : Frame). length f.places) c.frame.view_is in
    rw c.in-At.is
    (piece_last c.args.frame.now c.add_piece.new.frame c.args.routine.now c.add_frame.new.self c.args.pieces (piece_words c.in-At.words) c.args.line c.in_ok-add_piece.ensures
    (are_same c.len.result c.from.result (length c.add_piece.new.frame.places) c.args.pieces (c.len.ensures ∙ places) c.from.ensures c.if-len-from.false)
    (c.in_ok-add_frame.ensures ∙ ap (with_frame c.args.routine.now) c.take_frame.ensures))

pub returns-in_err-add_piece : goal.returns-in_err-add_piece
returns-in_err-add_piece c =
    let e = err_from_is_err_and c.from_residual.result c.from_residual.ensures.1 in
    rw (c.in-At.is, e.1, e.2)
    (piece_refused c.args.frame.now c.args.routine.now c.args.routine.now c.args.pieces (piece_words c.in-At.words) c.args.line c.in_err-add_piece.field-0.0 c.in_err-add_piece.ensures)

pub returns-in_default : goal.returns-in_default
returns-in_default c =
    other_pieces c.args.form c.args.frame.now c.args.routine.now c.args.routine.now c.args.pieces c.args.line c.in_default.not-At
