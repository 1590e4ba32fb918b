use Rattle.std.proofs.Common.{ℕ, List, ◌∷◌, sym, subst, ap, ◌∙◌}
use Rattle.std.specs.Prelude.{◌≡◌, Option, Some, None, MatchOption}
use Rattle.burr_plantext.specs.Rules.Lines.{Line, code_line, line_of}
use Rattle.burr_plantext.specs.Rules.Texts.{words_of}
use Rattle.burr_plantext.proofs.Common.Cuts.{pieces_cut, pieces_uncut}
use Rattle.burr_asm.specs.Views.LineWords.{line_words}
use Rattle.burr_asm.proofs.Keywords.{line_alone, line_of_keyword, line_of_no_keyword}
use Rattle.burr_asm.proofs.text.line.LineForm.parse.Goals as goal

pub returns-in_err-of-in-Some : goal.returns-in_err-of-in-Some
returns-in_err-of-in-Some c =
    rw c.from_residual.ensures (ap line_of (pieces_cut 32 _ _ _ c.in-Some.ensures) ∙ line_of_no_keyword c.in-Some.word.now c.in-Some.words.now c.in_err-of-in-Some.ensures)

pub returns-in_ok-of-in-Some : goal.returns-in_ok-of-in-Some
returns-in_ok-of-in-Some c =
    subst (λ (found : Option Line). MatchOption c.with_words.result (found ≡ None) (λ form. found ≡ Some (line_words form)))
    (sym (ap line_of (pieces_cut 32 _ _ _ c.in-Some.ensures) ∙ ap (λ (w : List ℕ). line_of (w ∷ words_of c.in-Some.words.now)) (sym c.in_ok-of-in-Some.ensures) ∙ line_of_keyword c.in_ok-of-in-Some.field-0 (words_of c.in-Some.words.now)))
    c.with_words.ensures

pub returns-in_err-of_word-in-None : goal.returns-in_err-of_word-in-None
returns-in_err-of_word-in-None c = rw c.from_residual-in_err-of_word-in-None.ensures
    (ap line_of (pieces_uncut 32 c.args.bytes.now c.in-None.ensures) ∙ line_alone c.args.bytes.now ∙ ap code_line c.in_err-of_word-in-None.ensures)

pub returns-in_ok-of_word-in-None : goal.returns-in_ok-of_word-in-None
returns-in_ok-of_word-in-None c =
    ap line_of (pieces_uncut 32 c.args.bytes.now c.in-None.ensures) ∙ line_alone c.args.bytes.now ∙ ap code_line c.in_ok-of_word-in-None.ensures
