use Rattle.std.proofs.Common.{ap, ◌∙◌}
use Rattle.burr_plantext.specs.Rules.Lines.{at_line}
use Rattle.burr_plantext.specs.Rules.Texts.{words_of}
use Rattle.burr_asm.proofs.LineForms.{mapped, piece_cut, piece_none}
use Rattle.burr_asm.proofs.text.line.PieceWords.parse.Goals as goal

pub returns-in_err-place : goal.returns-in_err-place
returns-in_err-place c = rw c.from_residual-in_err-place.ensures
    (piece_cut (words_of c.args.bytes.now) c.in_ok-piece.piece.bytes.now (words_of c.in_ok-piece.rest.now) c.in_ok-piece.ensures
    ∙ ap (mapped (at_line c.in_ok-piece.piece.bytes.now)) c.in_err-place.ensures)

pub returns : goal.returns
returns c =
    piece_cut (words_of c.args.bytes.now) c.in_ok-piece.piece.bytes.now (words_of c.in_ok-piece.rest.now) c.in_ok-piece.ensures
    ∙ ap (mapped (at_line c.in_ok-piece.piece.bytes.now)) c.in_ok-place.ensures

pub returns-in_err-piece : goal.returns-in_err-piece
returns-in_err-piece c = rw c.from_residual.ensures (piece_none (words_of c.args.bytes.now) c.in_err-piece.ensures)
