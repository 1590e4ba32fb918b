-- What the lines of the code and their words stand for.
use Rattle.std.specs.Prelude.{◌≡◌, ◌≢◌, ℤ, ℕ, List, Option, MatchOption}
use Rattle.std.specs.Fmt.{signed_decimal}
use Rattle.burr_assembly.specs.declared.text.line.TextLine.{TextLine}
use Rattle.burr_assembly.specs.declared.text.line.TextLine.TheVariants as lines
use Rattle.burr_assembly.specs.declared.text.line.PieceLine.{PieceLine}
use Rattle.burr_assembly.specs.Rules.Text.{IsCoordinate}
use Rattle.burr_assembly.specs.Rules.Lines.{LineForm, PieceWords, AssemblyLine, ShapeLine, LayerLine, RowLine, EndLine, PieceLine as PieceForm}

abbrev pub words_of : PieceLine → PieceWords
words_of l = record {
  name = l.name.now;
  shape = l.shape.now;
  orientation = l.orientation.now;
  x = l.x.now;
  y = l.y.now;
  z = l.z.now;
}

abbrev pub form_of : TextLine → LineForm
form_of (lines.Assembly name) = AssemblyLine name.now
form_of (lines.Shape name) = ShapeLine name.now
form_of lines.Layer = LayerLine
form_of (lines.Row marks) = RowLine marks.now
form_of lines.End = EndLine
form_of (lines.Piece words) = PieceForm (words_of words)

-- words stand after the first
abbrev pub HasWords : LineForm → Type 0
HasWords (AssemblyLine name) = Unit {0}
HasWords (ShapeLine name) = Unit {0}
HasWords LayerLine = ⊥
HasWords (RowLine marks) = ⊥
HasWords EndLine = ⊥
HasWords (PieceForm words) = Unit {0}

-- the coordinate that a number is, if it is one
abbrev pub IsCoordinateText : List ℕ → Option ℤ → Type 0
IsCoordinateText number found =
    MatchOption found ((z : ℤ) → IsCoordinate z → number ≢ signed_decimal z) (λ z.
    IsCoordinate z × (number ≡ signed_decimal z))
