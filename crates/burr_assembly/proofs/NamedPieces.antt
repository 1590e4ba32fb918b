-- The names in a text are those of the pieces that its lines have been.
use Rattle.std.proofs.Common.{◌≡◌, ◌<◌, ◌+◌, ℕ, List, [], ◌∷◌, ◌++◌, length, map, get_or, refl, sym, ap, subst, ◌∙◌, ◌⊎◌, inl, inr, append_assoc, arith}
use Rattle.std.specs.Prelude.{Result, Ok, Err, Some, None}
use Rattle.std.proofs.lemmas.List.{get_or-map, get_or_append_left, get_or_at, length-map, map-append}
use Rattle.burr_text.specs.Lines.{IsUnended}
use Rattle.burr_text.specs.Words.{IsCutAt}
use Rattle.burr_assembly.specs.declared.fault.AssemblyFault.{AssemblyFault}
use Rattle.burr_assembly.specs.declared.fault.AssemblyFault.TheVariants.{A1, A8}
use Rattle.burr_assembly.specs.Rules.Text.{Drawing, Piece, Assembly}
use Rattle.burr_assembly.specs.Rules.Lines.{LineForm, PieceWords, AssemblyLine, ShapeLine, LayerLine, RowLine, EndLine, PieceLine, IsLine}
use Rattle.burr_assembly.specs.Rules.Faults.{Beginning, Blank, Shapes, Drawn, Pieces, LineResult, FormGives, PieceRule, LineGives, EndGives, TextGives, ends, breaks_off, fails, goes_on}
use Rattle.burr_assembly.specs.Rules.PieceNames.{names_in}
use Rattle.burr_assembly.specs.Laws.Texts.{PieceLineIsTold, PieceLineIsNamed, NamesBoth, SharingPiecesAreNamed}
use Rattle.burr_assembly.proofs.Beginnings.{IsReached, reached_blank, beginning_text, line_keeps}
use Rattle.burr_assembly.proofs.Taken.{no_fault, same_ok, needs_ok, looks_ok}
use Rattle.burr_assembly.proofs.OneForm.{one_form}
use Rattle.burr_assembly.proofs.PieceNames.{piece_line_told, name_in_line, names_in-piece, names_in-other}

abbrev name_of : Piece → List ℕ
name_of p = p.name

-- the names of the pieces so far
abbrev names_so_far : Beginning → List (List ℕ)
names_so_far Blank = []
names_so_far (Shapes name shapes) = []
names_so_far (Drawn name shapes d begun) = []
names_so_far (Pieces name shapes pieces) = map name_of pieces

-- the name in a line of a form
abbrev form_names : LineForm → List (List ℕ)
form_names (AssemblyLine name) = []
form_names (ShapeLine name) = []
form_names LayerLine = []
form_names (RowLine marks) = []
form_names EndLine = []
form_names (PieceLine w) = w.name ∷ []

-- A line that is taken adds the name in it

-- a beginning that is given is this one
given : (next so_far : Beginning) (names : List (List ℕ)) → ◌≡◌ {A = LineResult} (Ok next) (Ok so_far) → names_so_far so_far ≡ names → names_so_far next ≡ names
given next so_far names e is = subst (λ (f : Beginning). names_so_far f ≡ names) (sym (same_ok (Ok next) refl e)) is

piece_names : (n : ℕ) (name : List ℕ) (shapes : List Drawing) (pieces : List Piece) (w : PieceWords) (next : Beginning) → PieceRule n name shapes pieces w (Ok next) → names_so_far next ≡ map name_of pieces ++ w.name ∷ []
piece_names n name shapes pieces w next rule =
    let turn = looks_ok (needs_ok (needs_ok (needs_ok rule).1).1).1 in
    let position = looks_ok turn.2 in
    let p : Piece = record { name = w.name; shape = w.shape; turn = turn.0; position = position.0 } in
    elim position.2 [
      | inl h ↦ no_fault h.2
      | inr h ↦ given next (Pieces name shapes (pieces ++ p ∷ [])) (map name_of pieces ++ w.name ∷ []) h.1 (map-append name_of pieces (p ∷ []))
    ]

rule_names : (n : ℕ) (so_far next : Beginning) (form : LineForm) → FormGives n so_far form (Ok next) → names_so_far next ≡ names_so_far so_far ++ form_names form
rule_names n Blank next (AssemblyLine name) rule = given next (Shapes name []) [] (needs_ok rule).1 refl
rule_names n (Shapes name shapes) next (ShapeLine shape) rule = given next (Drawn name shapes (record { name = shape; layers = [] }) None) [] (needs_ok (needs_ok rule).1).1 refl
rule_names n (Shapes name (s ∷ shapes)) next (PieceLine w) rule = piece_names n name (s ∷ shapes) [] w next rule
rule_names n (Drawn name shapes d None) next LayerLine rule = given next (Drawn name shapes d (Some [])) [] rule refl
rule_names n (Drawn name shapes d (Some rows)) next LayerLine rule = given next _ [] (needs_ok rule).1 refl
rule_names n (Drawn name shapes d (Some rows)) next (RowLine marks) rule = given next _ [] (needs_ok rule).1 refl
rule_names n (Drawn name shapes d (Some rows)) next EndLine rule = given next _ [] (needs_ok rule).1 refl
rule_names n (Pieces name shapes pieces) next (PieceLine w) rule = piece_names n name shapes pieces w next rule
rule_names n so_far next form rule = no_fault rule

-- and so it does to the names in a text
line_names : (text line more : List ℕ) (form : LineForm) → IsCutAt 10 text line more → IsLine line form → names_in text ≡ form_names form ++ names_in more
line_names text line more (PieceLine w) cut is = names_in-piece text line more w cut is
line_names text line more (AssemblyLine name) cut is = names_in-other text line more cut (λ w other. let e = one_form line (AssemblyLine name) (PieceLine w) is other in cc)
line_names text line more (ShapeLine name) cut is = names_in-other text line more cut (λ w other. let e = one_form line (ShapeLine name) (PieceLine w) is other in cc)
line_names text line more LayerLine cut is = names_in-other text line more cut (λ w other. let e = one_form line LayerLine (PieceLine w) is other in cc)
line_names text line more (RowLine marks) cut is = names_in-other text line more cut (λ w other. let e = one_form line (RowLine marks) (PieceLine w) is other in cc)
line_names text line more EndLine cut is = names_in-other text line more cut (λ w other. let e = one_form line EndLine (PieceLine w) is other in cc)

-- A fault of two pieces

-- a check that does not answer this holds
past_check : {C Q A : Type 0} → ((¬ C) × A) ⊎ (C × Q) → (A → ⊥) → C × Q
past_check (inl h) other = absurd (other h.1)
past_check (inr h) other = h

-- a search that does not answer this finds something
past_search : {X A : Type 0} {C Q : X → Type 0} → (((x : X) → ¬ C x) × A) ⊎ ((x : X) × C x × Q x) → (A → ⊥) → (x : X) × C x × Q x
past_search (inl h) other = absurd (other h.1)
past_search (inr h) other = h

-- the fault is that of a piece after these and one of them
abbrev IsOfPiece : List Piece → ℕ → ℕ → Type 0
IsOfPiece pieces earlier piece = (earlier < length pieces) × (piece ≡ length pieces)

piece_shares : (n : ℕ) (name : List ℕ) (shapes : List Drawing) (pieces : List Piece) (w : PieceWords) (m earlier piece : ℕ) → PieceRule n name shapes pieces w (Err (A8 m earlier piece)) → IsOfPiece pieces earlier piece
piece_shares n name shapes pieces w m earlier piece rule =
    let turn = past_search (past_check (past_check (past_check rule (λ e. cc)).1 (λ e. cc)).1 (λ e. cc)).1 (λ e. cc) in
    let position = past_search turn.2 (λ e. cc) in
    elim position.2 [
      | inl h ↦ of_first h.0 h.1.inside h.2
      | inr h ↦ no_fault (sym h.1)
    ]
  where
    of_first : (q : ℕ) → q < length pieces → ◌≡◌ {A = LineResult} (Err (A8 m earlier piece)) (Err (A8 n q (length pieces))) → IsOfPiece pieces earlier piece
    of_first q inside e =
        let same : earlier ≡ q = cc in
        let count : piece ≡ length pieces = cc in
        (subst (λ (k : ℕ). k < length pieces) (sym same) inside, count)

-- only a piece's line after pieces has it
line_shares : (n : ℕ) (so_far : Beginning) (bytes : List ℕ) (m earlier piece : ℕ) → LineGives n so_far bytes (Err (A8 m earlier piece))
    → (name : List ℕ) × (shapes : List Drawing) × (pieces : List Piece) × (w : PieceWords) × (so_far ≡ Pieces name shapes pieces) × IsLine bytes (PieceLine w) × IsOfPiece pieces earlier piece
line_shares n so_far bytes m earlier piece gives = let found = past_search gives (λ e. cc) in of_form so_far found.0 found.1 found.2
  where
    of_form : (so_far : Beginning) (form : LineForm) → IsLine bytes form → FormGives n so_far form (Err (A8 m earlier piece))
        → (name : List ℕ) × (shapes : List Drawing) × (pieces : List Piece) × (w : PieceWords) × (so_far ≡ Pieces name shapes pieces) × IsLine bytes (PieceLine w) × IsOfPiece pieces earlier piece
    of_form Blank (AssemblyLine name) is rule = no_fault (sym (past_check rule (λ e. cc)).1)
    of_form (Shapes name shapes) (ShapeLine shape) is rule = no_fault (sym (past_check (past_check rule (λ e. cc)).1 (λ e. cc)).1)
    of_form (Shapes name (s ∷ shapes)) (PieceLine w) is rule = absurd (omega (arith, (piece_shares n name (s ∷ shapes) [] w m earlier piece rule).0))
    of_form (Drawn name shapes d None) LayerLine is rule = no_fault (sym rule)
    of_form (Drawn name shapes d (Some rows)) LayerLine is rule = no_fault (sym (past_check rule (λ e. cc)).1)
    of_form (Drawn name shapes d (Some rows)) (RowLine marks) is rule = no_fault (sym (past_check rule (λ e. cc)).1)
    of_form (Drawn name shapes d (Some rows)) EndLine is rule = no_fault (sym (past_check rule (λ e. cc)).1)
    of_form (Pieces name shapes pieces) (PieceLine w) is rule = (name, shapes, pieces, w, refl, is, piece_shares n name shapes pieces w m earlier piece rule)
    of_form so_far form is rule = absurd (other rule)
      where
        other : ◌≡◌ {A = LineResult} (Err (A8 m earlier piece)) (Err (A1 n)) → ⊥
        other e = cc

-- no end of a text has it
end_differs : (n : ℕ) (so_far : Beginning) (m earlier piece : ℕ) → ¬ EndGives n so_far (Err (A8 m earlier piece))
end_differs n Blank m earlier piece e = cc
end_differs n (Shapes name []) m earlier piece e = cc
end_differs n (Shapes name (s ∷ shapes)) m earlier piece e = cc
end_differs n (Drawn name shapes d begun) m earlier piece e = cc
end_differs n (Pieces name shapes pieces) m earlier piece given = no_fault (sym (past_check given (λ e. cc)).1)

-- The names of the two

-- how far a text is read: the lines so far are a beginning, and their pieces have the first names
record IsNamedTo (text : List ℕ) (so_far : Beginning) (rest : List ℕ) : Type 0 where
  begins : IsReached so_far
  parts : text ≡ beginning_text so_far ++ rest
  names : names_in text ≡ names_so_far so_far ++ names_in rest

-- one more line
goes_named : (text : List ℕ) (n : ℕ) (so_far next : Beginning) (bytes rest : List ℕ) → IsNamedTo text so_far (bytes ++ 10 ∷ rest) → IsUnended bytes → LineGives n so_far bytes (Ok next) → IsNamedTo text next rest
goes_named text n so_far next bytes rest read unended gives =
    let line = looks_ok gives in
    let kept = line_keeps n so_far next bytes read.begins gives in
    record {
      begins = kept.0;
      parts = read.parts ∙ regroup (beginning_text so_far) ∙ ap (λ (t : List ℕ). t ++ rest) (sym kept.1);
      names = read.names ∙ ap (λ (names : List (List ℕ)). names_so_far so_far ++ names) (line_names (bytes ++ 10 ∷ rest) bytes rest line.0 (record { parts = refl; first = unended }) line.1)
          ∙ sym (append_assoc (names_so_far so_far) (form_names line.0) (names_in rest)) ∙ ap (λ (names : List (List ℕ)). names ++ names_in rest) (sym (rule_names n so_far next line.0 line.2));
    }
  where
    regroup : (before : List ℕ) → before ++ (bytes ++ 10 ∷ rest) ≡ before ++ bytes ++ 10 ∷ [] ++ rest
    regroup before = simp append_assoc

-- the line of the piece that shares a cell
names_both : (text : List ℕ) (name : List ℕ) (shapes : List Drawing) (pieces : List Piece) (w : PieceWords) (bytes rest : List ℕ) (earlier piece : ℕ)
    → IsNamedTo text (Pieces name shapes pieces) (bytes ++ 10 ∷ rest) → IsUnended bytes → IsLine bytes (PieceLine w) → IsOfPiece pieces earlier piece
    → NamesBoth text earlier piece (record { name = name; shapes = shapes; pieces = pieces }) w
names_both text name shapes pieces w bytes rest earlier piece read unended is (inside, after) =
    let names : names_in text ≡ map name_of pieces ++ w.name ∷ names_in rest =
    read.names ∙ ap (λ (names : List (List ℕ)). map name_of pieces ++ names) (line_names (bytes ++ 10 ∷ rest) bytes rest (PieceLine w) (record { parts = refl; first = unended }) is) in
    let count : length (map name_of pieces) ≡ length pieces = length-map pieces name_of in
    record {
      title = read.begins.before.title_is;
      shapes = read.begins.before.each;
      pieces = read.begins.each;
      words = is.0;
      begins = (rest, read.parts ∙ ap (λ (line : List ℕ). beginning_text (Pieces name shapes pieces) ++ (line ++ 10 ∷ rest)) is.1);
      is_earlier = omega arith;
      is_next = after;
      first = λ p.
          ap (λ (all : List (List ℕ)). get_or all earlier []) names ∙ get_or_append_left (map name_of pieces) (w.name ∷ names_in rest) [] earlier (subst (λ (k : ℕ). earlier < k) (sym count) inside)
          ∙ get_or-map name_of pieces earlier p [] inside;
      second = ap (λ (all : List (List ℕ)). get_or all piece []) names ∙ get_or_at (map name_of pieces) w.name (names_in rest) [] piece (count ∙ sym after);
    }

-- by the relation, whatever the answer
named_at : (text : List ℕ) (m earlier piece n : ℕ) (so_far : Beginning) (rest : List ℕ) (answer : Result Assembly AssemblyFault) → answer ≡ Err (A8 m earlier piece) → IsNamedTo text so_far rest → TextGives n so_far rest answer
    → (so_far : Assembly) × (next : PieceWords) × NamesBoth text earlier piece so_far next
named_at text m earlier piece n so_far rest answer e read (ends _ _ _ given) = absurd (end_differs n so_far m earlier piece (subst (λ (r : Result Assembly AssemblyFault). EndGives n so_far r) e given))
named_at text m earlier piece n so_far rest answer e read (breaks_off _ _ _ some unended) = cc
named_at text m earlier piece n so_far rest answer e read (fails _ _ bytes more fault unended given) =
    let same : fault ≡ A8 m earlier piece = cc in
    let is = line_shares n so_far bytes m earlier piece (subst (λ (f : AssemblyFault). LineGives n so_far bytes (Err f)) same given) in
    let name = is.0 in
    let shapes = is.1 in
    let pieces = is.2 in
    let w = is.3 in
    (record { name = name; shapes = shapes; pieces = pieces }, w, names_both text name shapes pieces w bytes more earlier piece (subst (λ (f : Beginning). IsNamedTo text f (bytes ++ 10 ∷ more)) is.4 read) unended is.5 is.6)
named_at text m earlier piece n so_far rest answer e read (goes_on _ _ next bytes more _ unended given after) =
    named_at text m earlier piece (n + 1) next more answer e (goes_named text n so_far next bytes more read unended given) after

pub sharing_pieces_are_named : SharingPiecesAreNamed
sharing_pieces_are_named text n earlier piece gives = named_at text n earlier piece 1 Blank text (Err (A8 n earlier piece)) refl (record { begins = reached_blank; parts = refl; names = refl }) gives

pub piece_line_is_told : PieceLineIsTold
piece_line_is_told = piece_line_told

pub piece_line_is_named : PieceLineIsNamed
piece_line_is_named = name_in_line
