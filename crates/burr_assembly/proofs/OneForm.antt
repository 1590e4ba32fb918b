-- A line is of one form.
use Rattle.std.proofs.Common.{◌≡◌, ◌≢◌, ℕ, List, [], ◌∷◌, ◌++◌, get_or, drop, All, refl, sym, ap, ◌∙◌, arith, inl, inr, ◌==◌, if◌then◌else◌}
use Rattle.burr_assembly.specs.Rules.Text.{IsMark}
use Rattle.burr_assembly.specs.Rules.Lines.{LineForm, PieceWords, AssemblyLine, ShapeLine, LayerLine, RowLine, EndLine, PieceLine, form_text, IsLineForm, IsLine}
use Rattle.burr_text.proofs.Common.Cuts.{cut, lacks_blank}
use Rattle.burr_assembly.proofs.Numbers.{number_lacks}

-- the kind of a form, by the first byte of its lines
abbrev kind : LineForm → ℕ
kind (AssemblyLine name) = 0
kind (ShapeLine name) = 1
kind LayerLine = 2
kind (RowLine marks) = 3
kind EndLine = 4
kind (PieceLine w) = 5

-- the kind of a line, by its first byte
abbrev kind_of : List ℕ → ℕ
kind_of bytes = let b = get_or bytes 0 0 in if b == 97 then 0 else (if b == 115 then 1 else (if b == 108 then 2 else (if b == 101 then 4 else (if b == 112 then 5 else 3))))

-- a row begins with a mark
row_kind : (marks : List ℕ) → marks ≢ [] → All IsMark marks → kind_of marks ≡ 3
row_kind [] some h = absurd (some refl)
row_kind (b ∷ marks) some h = elim (h 0 0 (omega arith)) [ inl e ↦ ap (λ (k : ℕ). kind_of (k ∷ [])) e | inr e ↦ ap (λ (k : ℕ). kind_of (k ∷ [])) e ]

-- a line begins as its form says
same_kind : (f : LineForm) → IsLineForm f → kind_of (form_text f) ≡ kind f
same_kind (AssemblyLine name) h = refl
same_kind (ShapeLine name) h = refl
same_kind LayerLine h = refl
same_kind (RowLine marks) h = row_kind marks h.0 h.1
same_kind EndLine h = refl
same_kind (PieceLine w) h = refl

-- the words of a piece's line from the second coordinate on
abbrev from_y : PieceWords → List ℕ
from_y w = w.y ++ 32 ∷ w.z

-- from the first coordinate on
abbrev from_x : PieceWords → List ℕ
from_x w = w.x ++ 32 ∷ from_y w

-- from the orientation on
abbrev from_orientation : PieceWords → List ℕ
from_orientation w = w.orientation ++ 32 ∷ from_x w

-- from the shape on
abbrev from_shape : PieceWords → List ℕ
from_shape w = w.shape ++ 32 ∷ from_orientation w

-- the words of a piece's line are read off it
same_words : (v w : PieceWords) → IsLineForm (PieceLine v) → IsLineForm (PieceLine w) → form_text (PieceLine v) ≡ form_text (PieceLine w) → v ≡ w
same_words v w p q e =
    let name = cut 32 v.name w.name (from_shape v) (from_shape w) (lacks_blank v.name p.name.1) (lacks_blank w.name q.name.1) (ap (drop 6) e) in
    let shape = cut 32 v.shape w.shape (from_orientation v) (from_orientation w) (lacks_blank v.shape p.shape.1) (lacks_blank w.shape q.shape.1) name.1 in
    let orientation = cut 32 v.orientation w.orientation (from_x v) (from_x w) (lacks_blank v.orientation p.orientation.1) (lacks_blank w.orientation q.orientation.1) shape.1 in
    let x = cut 32 v.x w.x (from_y v) (from_y w) (number_lacks v.x p.x) (number_lacks w.x q.x) orientation.1 in
    let y = cut 32 v.y w.y v.z w.z (number_lacks v.y p.y) (number_lacks w.y q.y) x.1 in
    λ i. record { name = name.0 i; shape = shape.0 i; orientation = orientation.0 i; x = x.0 i; y = y.0 i; z = y.1 i }

-- forms of one kind with one text are one
same_form : (f g : LineForm) → IsLineForm f → IsLineForm g → kind f ≡ kind g → form_text f ≡ form_text g → f ≡ g
same_form (AssemblyLine a) (AssemblyLine b) p q k e = ap AssemblyLine (ap (drop 9) e)
same_form (ShapeLine a) (ShapeLine b) p q k e = ap ShapeLine (ap (drop 6) e)
same_form LayerLine LayerLine p q k e = refl
same_form (RowLine a) (RowLine b) p q k e = ap RowLine e
same_form EndLine EndLine p q k e = refl
same_form (PieceLine v) (PieceLine w) p q k e = ap PieceLine (same_words v w p q e)
same_form f g p q k e = absurd (omega arith)

-- a line is of one form
pub one_form : (bytes : List ℕ) (f g : LineForm) → IsLine bytes f → IsLine bytes g → f ≡ g
one_form bytes f g p q = let e = sym p.1 ∙ q.1 in same_form f g p.0 q.0 (sym (same_kind f p.0) ∙ ap kind_of e ∙ same_kind g q.0) e
