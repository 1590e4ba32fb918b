-- Lines that are taken spell an assembly: those so far are the beginning of its text.
use Rattle.std.proofs.Common.{◌≡◌, ◌≢◌, ℕ, ◌+◌, ◌<◌, ◌≤◌, List, [], ◌∷◌, ◌++◌, length, codes, refl, sym, ap, subst, ◌∙◌, append_assoc, arith, length-append, inl, inr}
use Rattle.std.specs.Prelude.{All, AllPairs, Some, None, Result, Ok}
use Rattle.std.specs.List.{flat_map}
use Rattle.std.proofs.lemmas.List.{append-nil, flat_map_more}
use Rattle.std.proofs.lemmas.List.Elements.{All-nil}
use Rattle.burr_assembly.specs.declared.fault.AssemblyFault.{AssemblyFault}
use Rattle.burr_assembly.specs.Rules.Text.{Drawing, Piece, Assembly, layer_text, shape_text, piece_text, text_of, IsPiece, Shares, IsAssembly, IsText}
use Rattle.burr_text.specs.Words.{text_line}
use Rattle.burr_assembly.specs.Rules.Lines.{LineForm, PieceWords, AssemblyLine, ShapeLine, LayerLine, RowLine, EndLine, PieceLine, form_text, IsLineForm}
use Rattle.burr_assembly.specs.Rules.Faults.{Beginning, Blank, Shapes, Drawn, Pieces, FormGives, PieceRule, LineGives, EndGives, TextGives, ends, breaks_off, fails, goes_on, with_layer, gives}
use Rattle.burr_assembly.proofs.Taken.{no_fault, same_ok, needs_ok, looks_ok}
use Rattle.burr_assembly.proofs.Drawings.{row_kept, layer_kept, layer_begins, no_layers, drawn}
use Rattle.burr_assembly.proofs.BeginningParts.{AreShapes, IsDrawn, ArePieces, shape_kept, piece_kept}
use Rattle.burr_assembly.proofs.BeginningTexts.{shapes_text, begun_text, more_text, shape_text_begins, first_layer_text, next_layer_text, row_text_more, shape_text_ends, piece_of, piece_line}

-- the text of the lines so far
abbrev pub beginning_text : Beginning → List ℕ
beginning_text Blank = []
beginning_text (Shapes name shapes) = shapes_text name shapes
beginning_text (Drawn name shapes d begun) = shapes_text name shapes ++ text_line (codes "shape" ∷ d.name ∷ []) ++ flat_map layer_text d.layers ++ begun_text begun
beginning_text (Pieces name shapes pieces) = shapes_text name shapes ++ flat_map piece_text pieces

-- what is known of a beginning that was reached
abbrev pub IsReached : Beginning → Type 0
IsReached Blank = Unit {0}
IsReached (Shapes name shapes) = AreShapes name shapes
IsReached (Drawn name shapes d begun) = IsDrawn name shapes d begun
IsReached (Pieces name shapes pieces) = ArePieces name shapes pieces

-- no line yet
pub reached_blank : IsReached Blank
reached_blank = tt

-- What a line adds to a beginning

-- the next beginning is this one
kept : (next so_far : Beginning) (text : List ℕ) → gives so_far (Ok next) → IsReached so_far → beginning_text so_far ≡ text → IsReached next × (beginning_text next ≡ text)
kept next so_far text e b same = subst (λ (f : Beginning). IsReached f × (beginning_text f ≡ text)) (sym (same_ok (Ok next) refl e)) (b, same)

-- after a line of a form the next beginning is reached, and its text is that of the one before and the line
abbrev Kept : Beginning → LineForm → Beginning → Type 0
Kept so_far form next = IsReached next × (beginning_text next ≡ beginning_text so_far ++ form_text form ++ 10 ∷ [])

-- the name of the assembly
title_keeps : (n : ℕ) (name : List ℕ) (next : Beginning) → FormGives n Blank (AssemblyLine name) (Ok next) → Kept Blank (AssemblyLine name) next
title_keeps n name next rule =
    let r = needs_ok rule in
    kept next (Shapes name []) _ r.1
    (record { title_is = r.0; few = omega arith; each = All-nil _; names = λ i j d before inside. absurd (omega arith) })
    (append-nil (text_line (codes "assembly" ∷ name ∷ [])))

-- a shape begins
shape_keeps : (n : ℕ) (name : List ℕ) (shapes : List Drawing) (shape : List ℕ) (next : Beginning) → AreShapes name shapes → FormGives n (Shapes name shapes) (ShapeLine shape) (Ok next) → Kept (Shapes name shapes) (ShapeLine shape) next
shape_keeps n name shapes shape next b rule =
    let room = needs_ok rule in
    let r = needs_ok room.1 in
    kept next (Drawn name shapes (record { name = shape; layers = [] }) None) _ r.1
    (record { before = b; room = room.0; name = r.0.0; new = r.0.1; rows = no_layers })
    (shape_text_begins (shapes_text name shapes) (form_text (ShapeLine shape)))

-- the first layer begins
first_layer_keeps : (n : ℕ) (name : List ℕ) (shapes : List Drawing) (d : Drawing) (next : Beginning) → IsDrawn name shapes d None → FormGives n (Drawn name shapes d None) LayerLine (Ok next) → Kept (Drawn name shapes d None) LayerLine next
first_layer_keeps n name shapes d next b rule =
    kept next (Drawn name shapes d (Some [])) _ rule
    (record { before = b.before; room = b.room; name = b.name; new = b.new; rows = b.rows })
    (first_layer_text (shapes_text name shapes ++ text_line (codes "shape" ∷ d.name ∷ []) ++ flat_map layer_text d.layers) (codes "layer"))

-- one more layer begins
next_layer_keeps : (n : ℕ) (name : List ℕ) (shapes : List Drawing) (d : Drawing) (rows : List (List ℕ)) (next : Beginning) → IsDrawn name shapes d (Some rows) → FormGives n (Drawn name shapes d (Some rows)) LayerLine (Ok next)
    → Kept (Drawn name shapes d (Some rows)) LayerLine next
next_layer_keeps n name shapes d rows next b rule =
    let r = needs_ok rule in
    let room : length d.layers + 1 < 16 = r.0.1 in
    kept next (Drawn name shapes (with_layer d rows) (Some [])) _ r.1
    (record { before = b.before; room = b.room; name = b.name; new = b.new; rows = layer_begins (d.layers ++ rows ∷ []) (layer_kept d.layers rows b.rows r.0.0) (omega (arith, length-append d.layers (rows ∷ []))) })
    (next_layer_text (shapes_text name shapes ++ text_line (codes "shape" ∷ d.name ∷ [])) (codes "layer") d.layers rows)

-- one more row
row_keeps : (n : ℕ) (name : List ℕ) (shapes : List Drawing) (d : Drawing) (rows : List (List ℕ)) (marks : List ℕ) (next : Beginning) → IsLineForm (RowLine marks) → IsDrawn name shapes d (Some rows)
    → FormGives n (Drawn name shapes d (Some rows)) (RowLine marks) (Ok next) → Kept (Drawn name shapes d (Some rows)) (RowLine marks) next
row_keeps n name shapes d rows marks next form b rule =
    let r = needs_ok rule in
    kept next (Drawn name shapes d (Some (rows ++ marks ∷ []))) _ r.1
    (record { before = b.before; room = b.room; name = b.name; new = b.new; rows = row_kept d.layers rows marks b.rows r.0 form.0 form.1 })
    (row_text_more (shapes_text name shapes ++ text_line (codes "shape" ∷ d.name ∷ []) ++ flat_map layer_text d.layers) rows marks)

-- a shape ends
end_keeps : (n : ℕ) (name : List ℕ) (shapes : List Drawing) (d : Drawing) (rows : List (List ℕ)) (next : Beginning) → IsDrawn name shapes d (Some rows) → FormGives n (Drawn name shapes d (Some rows)) EndLine (Ok next)
    → Kept (Drawn name shapes d (Some rows)) EndLine next
end_keeps n name shapes d rows next b rule =
    let r = needs_ok rule in
    let room : length d.layers < 16 = b.rows.room in
    kept next (Shapes name (shapes ++ with_layer d rows ∷ [])) _ r.1
    (shape_kept name shapes (with_layer d rows) b.before b.room
    (drawn (with_layer d rows) b.name (layer_kept d.layers rows b.rows r.0.0) (omega (arith, length-append d.layers (rows ∷ []))) (omega (arith, length-append d.layers (rows ∷ []))) r.0.1)
    b.new)
    (sym (flat_map_more shape_text (text_line (codes "assembly" ∷ name ∷ [])) shapes (with_layer d rows))
    ∙ shape_text_ends (shapes_text name shapes) (text_line (codes "shape" ∷ d.name ∷ [])) (codes "end") d.layers rows)

-- a piece after these
piece_rule_keeps : (n : ℕ) (name : List ℕ) (shapes : List Drawing) (pieces : List Piece) (w : PieceWords) (next : Beginning) → AreShapes name shapes → 1 ≤ length shapes
    → All (IsPiece shapes) pieces → AllPairs (λ (p q : Piece). p.name ≢ q.name) pieces → AllPairs (λ p q. ¬ Shares shapes p q) pieces
    → PieceRule n name shapes pieces w (Ok next)
    → IsReached next × (beginning_text next ≡ shapes_text name shapes ++ flat_map piece_text pieces ++ form_text (PieceLine w) ++ 10 ∷ [])
piece_rule_keeps n name shapes pieces w next b some each names disjoint rule =
    let room = needs_ok rule in
    let name_is = needs_ok room.1 in
    let shape_is = needs_ok name_is.1 in
    let turn_is = looks_ok shape_is.1 in
    let position_is = looks_ok turn_is.2 in
    let p : Piece = piece_of w turn_is.0 position_is.0 in
    elim position_is.2 [
      | inl h ↦ no_fault h.2
      | inr h ↦ kept next (Pieces name shapes (pieces ++ p ∷ [])) _ h.1
          (piece_kept name shapes pieces p b some room.0 each names disjoint
          (record { name = name_is.0.0; shape = shape_is.0; turn = turn_is.1.0; position = position_is.1.0 }) name_is.0.1 h.0)
          (more_text piece_text (shapes_text name shapes) pieces p (form_text (PieceLine w)) (piece_line w turn_is.0 position_is.0 turn_is.1.1 position_is.1))
    ]

-- the first piece
first_piece_keeps : (n : ℕ) (name : List ℕ) (s : Drawing) (shapes : List Drawing) (w : PieceWords) (next : Beginning) → AreShapes name (s ∷ shapes) → FormGives n (Shapes name (s ∷ shapes)) (PieceLine w) (Ok next)
    → Kept (Shapes name (s ∷ shapes)) (PieceLine w) next
first_piece_keeps n name s shapes w next b rule =
    let k = piece_rule_keeps n name (s ∷ shapes) [] w next b (omega arith) (All-nil _) (λ i j d before inside. absurd (omega arith)) (λ i j d before inside. absurd (omega arith)) rule in
    (k.0, k.1 ∙ first_text (shapes_text name (s ∷ shapes)) (form_text (PieceLine w)))
  where
    first_text : (before words : List ℕ) → before ++ [] ++ words ++ 10 ∷ [] ≡ before ++ words ++ 10 ∷ []
    first_text before words = simp append-nil

-- A line of a form that is taken reaches the next beginning, whose text ends with the line.
pub rule_keeps : (n : ℕ) (so_far next : Beginning) (form : LineForm) → IsLineForm form → IsReached so_far → FormGives n so_far form (Ok next) → IsReached next × (beginning_text next ≡ beginning_text so_far ++ form_text form ++ 10 ∷ [])
rule_keeps n Blank next (AssemblyLine name) is b rule = title_keeps n name next rule
rule_keeps n (Shapes name shapes) next (ShapeLine shape) is b rule = shape_keeps n name shapes shape next b rule
rule_keeps n (Shapes name (s ∷ shapes)) next (PieceLine w) is b rule = first_piece_keeps n name s shapes w next b rule
rule_keeps n (Drawn name shapes d None) next LayerLine is b rule = first_layer_keeps n name shapes d next b rule
rule_keeps n (Drawn name shapes d (Some rows)) next LayerLine is b rule = next_layer_keeps n name shapes d rows next b rule
rule_keeps n (Drawn name shapes d (Some rows)) next (RowLine marks) is b rule = row_keeps n name shapes d rows marks next is b rule
rule_keeps n (Drawn name shapes d (Some rows)) next EndLine is b rule = end_keeps n name shapes d rows next b rule
rule_keeps n (Pieces name shapes pieces) next (PieceLine w) is b rule = piece_rule_keeps n name shapes pieces w next b.before b.shape b.each b.names b.disjoint rule
rule_keeps n so_far next form is b rule = no_fault rule

-- Bytes that are taken as a line reach the next beginning, whose text ends with them.
pub line_keeps : (n : ℕ) (so_far next : Beginning) (bytes : List ℕ) → IsReached so_far → LineGives n so_far bytes (Ok next) → IsReached next × (beginning_text next ≡ beginning_text so_far ++ bytes ++ 10 ∷ [])
line_keeps n so_far next bytes b gives_next =
    let l = looks_ok gives_next in
    let k = rule_keeps n so_far next l.0 l.1.0 b l.2 in
    (k.0, k.1 ∙ ap (λ (words : List ℕ). beginning_text so_far ++ words ++ 10 ∷ []) (sym l.1.1))

-- Whole texts

-- a text may end after two pieces
ends_whole : (name : List ℕ) (shapes : List Drawing) (pieces : List Piece) → ArePieces name shapes pieces → 2 ≤ length pieces → IsAssembly (record { name = name; shapes = shapes; pieces = pieces })
ends_whole name shapes pieces b enough = record {
  name = b.before.title_is;
  shapes = (b.shape, b.before.few);
  pieces = (enough, b.few);
  each_shape = b.before.each;
  each_piece = b.each;
  shape_names = b.before.names;
  piece_names = b.names;
  disjoint = b.disjoint;
}

-- An assembly that is given at the end has the text of the lines.
pub end_is_text : (n : ℕ) (so_far : Beginning) (a : Assembly) → IsReached so_far → EndGives n so_far (Ok a) → IsAssembly a × (text_of a ≡ beginning_text so_far)
end_is_text n Blank a b given = no_fault given
end_is_text n (Shapes name []) a b given = no_fault given
end_is_text n (Shapes name (s ∷ shapes)) a b given = no_fault given
end_is_text n (Drawn name shapes d begun) a b given = no_fault given
end_is_text n (Pieces name shapes pieces) a b given =
    let r = needs_ok given in
    subst (λ (whole : Assembly). IsAssembly whole × (text_of whole ≡ beginning_text (Pieces name shapes pieces))) (sym (same_ok (Ok a) refl r.1)) (ends_whole name shapes pieces b r.0, refl)

-- So the text of the lines is the text of that assembly.
pub end_is_whole : (n : ℕ) (so_far : Beginning) (a : Assembly) → IsReached so_far → EndGives n so_far (Ok a) → IsText (beginning_text so_far) a
end_is_whole n so_far a b given = let whole = end_is_text n so_far a b given in (whole.0, sym whole.1)

-- the text of a line and of the rest after it
text_goes_on : (before next bytes rest text : List ℕ) → next ≡ before ++ bytes ++ 10 ∷ [] → next ++ rest ≡ text → before ++ (bytes ++ 10 ∷ rest) ≡ text
text_goes_on before next bytes rest text e is = regroup before bytes rest ∙ ap (λ t. t ++ rest) (sym e) ∙ is
  where
    regroup : (before bytes rest : List ℕ) → before ++ (bytes ++ 10 ∷ rest) ≡ before ++ bytes ++ 10 ∷ [] ++ rest
    regroup before bytes rest = simp append_assoc

-- by the relation, whatever the answer
sound_at : (n : ℕ) (so_far : Beginning) (rest : List ℕ) (answer : Result Assembly AssemblyFault) (a : Assembly) → answer ≡ Ok a → IsReached so_far → TextGives n so_far rest answer → IsText (beginning_text so_far ++ rest) a
sound_at n so_far rest answer a e b (ends _ _ _ given) =
    let whole = end_is_whole n so_far a b (subst (λ (r : Result Assembly AssemblyFault). EndGives n so_far r) e given) in
    (whole.0, append-nil (beginning_text so_far) ∙ whole.1)
sound_at n so_far rest answer a e b (breaks_off _ _ _ some open_ended) = no_fault (sym e)
sound_at n so_far rest answer a e b (fails _ _ bytes after fault one given) = no_fault (sym e)
sound_at n so_far rest answer a e b (goes_on _ _ next bytes after _ one given more) =
    let k = line_keeps n so_far next bytes b given in
    let whole = sound_at (n + 1) next after answer a e k.0 more in
    (whole.0, text_goes_on (beginning_text so_far) (beginning_text next) bytes after (text_of a) k.1 whole.1)

-- Lines that are taken to the end of the text spell the assembly that is given.
pub text_sound : (n : ℕ) (so_far : Beginning) (rest : List ℕ) (a : Assembly) → IsReached so_far → TextGives n so_far rest (Ok a) → IsText (beginning_text so_far ++ rest) a
text_sound n so_far rest a b given = sound_at n so_far rest (Ok a) a refl b given
