-- What an exit has cut off are the words of a line, so there is one only where a blank more is left.
use Rattle.std.proofs.Common.{◌≡◌, [], ◌∷◌, ◌++◌, codes, Some, refl, arith}
use Rattle.std.proofs.lemmas.Bool.Decides.{Decides-eqb}
use Rattle.std.proofs.lemmas.Slice.Eq.{strip_prefix_is}
use Rattle.burr_assembly.proofs.PieceCuts.{too_few_words, right_line}
use Rattle.burr_assembly.proofs.text.line.PieceLine.parse.Goals as goal

pub returns-in_err-name : goal.returns-in_err-name
returns-in_err-name c = rw c.from_residual-in_err-name.ensures
    (too_few_words [] _ _ _ c.in_ok-words.ensures.cases.1 refl (omega arith) c.in_err-name.ensures)

pub returns-in_err-shape : goal.returns-in_err-shape
returns-in_err-shape c = rw c.from_residual-in_err-shape.ensures
    (too_few_words (_ ∷ []) _ _ _ c.in_ok-words.ensures.cases.1 (_, c.in_ok-name.ensures, refl) (omega arith) c.in_err-shape.ensures)

pub returns-in_err-orientation : goal.returns-in_err-orientation
returns-in_err-orientation c = rw c.from_residual-in_err-orientation.ensures
    (too_few_words (_ ∷ _ ∷ []) _ _ _ c.in_ok-words.ensures.cases.1 (_, c.in_ok-name.ensures, (_, c.in_ok-shape.ensures, refl)) (omega arith) c.in_err-orientation.ensures)

pub returns-in_err-x : goal.returns-in_err-x
returns-in_err-x c = rw c.from_residual-in_err-x.ensures
    (too_few_words (_ ∷ _ ∷ _ ∷ []) _ _ _ c.in_ok-words.ensures.cases.1 (_, c.in_ok-name.ensures, (_, c.in_ok-shape.ensures, (_, c.in_ok-orientation.ensures, refl))) (omega arith) c.in_err-x.ensures)

pub returns-in_err-y : goal.returns-in_err-y
returns-in_err-y c = rw c.from_residual-in_err-y.ensures
    (too_few_words (_ ∷ _ ∷ _ ∷ _ ∷ []) _ _ _ c.in_ok-words.ensures.cases.1 (_, c.in_ok-name.ensures, (_, c.in_ok-shape.ensures, (_, c.in_ok-orientation.ensures, (_, c.in_ok-x.ensures, refl)))) (omega arith) c.in_err-y.ensures)

pub returns : goal.returns
returns c =
    let is : c.args.bytes.now ≡ codes "piece " ++ c.in_ok-words.words.now =
    strip_prefix_is Decides-eqb c.args.bytes.now (codes "piece ") (Some c.in_ok-words.words) c.in_ok-words.ensures.cases in
    rw c.then_some.ensures
    (right_line _ _ _ _ is (_, c.in_ok-name.ensures, (_, c.in_ok-shape.ensures, (_, c.in_ok-orientation.ensures, (_, c.in_ok-x.ensures, (_, c.in_ok-y.ensures, refl))))) c.is_right.ensures)
