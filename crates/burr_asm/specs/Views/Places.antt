-- Where a piece is said to lie, as the code reads it.
use Rattle.std.specs.Prelude.{ℕ, List, [], ◌∷◌, codes, Option, None, ◌&&◌}
use Rattle.std.specs.Str.{bytes_eq}
use Rattle.burr_plantext.specs.Rules.Written.{is_number, is_form}
use Rattle.burr_plantext.specs.Rules.Operands.{given}
use Rattle.burr_plantext.specs.Rules.Lines.{PlaceWords, Apart, On}

-- `apart`, or a number and three forms
abbrev pub place_line : List (List ℕ) → Option PlaceWords
place_line (word ∷ []) = given (bytes_eq word (codes "apart")) Apart
place_line (tray ∷ x ∷ y ∷ z ∷ []) =
    given (is_number tray && is_form x && is_form y && is_form z) (On tray x y z)
place_line words = None

-- three words
abbrev pub three_words : List ℕ → List ℕ → List ℕ → List ℕ × List ℕ × List ℕ
three_words x y z = (x, y, z)
