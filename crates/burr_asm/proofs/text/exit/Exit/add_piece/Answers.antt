use Rattle.burr_asm.specs.Views.LineWords.{piece_words}
use Rattle.burr_asm.proofs.ExitParts.{piece_added}
use Rattle.burr_asm.proofs.text.exit.Exit.add_piece.Goals as goal

pub returns : goal.returns
returns c = λ version h e is.
    piece_added c.args.self.now version h e is c.symbols-symbols.result (piece_words c.args.words) c.args.line c.lacks_results.result c.add_piece.new.frame c.add_piece.result c.symbols-symbols.ensures c.lacks_results.ensures c.if-lacks_results.false c.add_piece.ensures
