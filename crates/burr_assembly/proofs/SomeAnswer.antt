-- Every text gives an answer.
use Rattle.std.proofs.Common.{◌≡◌, ◌≢◌, ℕ, zero, suc, ◌+◌, ◌<◌, List, [], ◌∷◌, ◌++◌, length, Some, None, Result, Ok, Err, slice_index_or, ◌⊎◌, inl, inr, refl, ap, sym, ◌∙◌, subst, length-append, arith}
use Rattle.burr_assembly.specs.declared.fault.AssemblyFault.{AssemblyFault}
use Rattle.burr_assembly.specs.declared.fault.AssemblyFault.TheVariants.{A1, A7, A8}
use Rattle.burr_assembly.specs.Rules.Text.{Drawing, Piece, Assembly}
use Rattle.burr_assembly.specs.Rules.Lines.{LineForm, PieceWords, AssemblyLine, ShapeLine, LayerLine, RowLine, EndLine, PieceLine, IsLine}
use Rattle.burr_assembly.specs.Rules.Faults.{Beginning, Blank, Shapes, Drawn, Pieces, LineResult, gives, PieceRule, FormGives, LineGives, EndGives, TextGives, ends, breaks_off, fails, goes_on, IsFirstSharing, IsPositionOf, with_layer}
use Rattle.burr_text.specs.Lines.{IsUnended}
use Rattle.burr_text.proofs.Common.Decisions.{Decided, decided_and, decided_not, decide_same, decide_below, decide_at_most}
use Rattle.burr_assembly.proofs.Readings.{IsNameOf, decide_turn_name, decide_position_text, decide_line}
use Rattle.burr_assembly.proofs.Conditions.{decide_name, decide_shape_name, decide_piece_name, decide_finished_layer, decide_row, decide_cell_count, decide_first_sharing}

-- where a decided condition holds there is an answer, and so there is one in any case
some_needs : {A C : Type 0} (v : A) (P : A → Type 0) → Decided C → (C → (x : A) × P x) → (x : A) × (((¬ C) × (x ≡ v)) ⊎ (C × P x))
some_needs v P (inr h) f = (v, inl (h, refl))
some_needs v P (inl c) f = ((f c).0, inr (c, (f c).1))

-- the same where a value is looked for
some_looks : {A B : Type 0} (IsSo : B → Type 0) (v : A) (P : B → A → Type 0) → Decided ((b : B) × IsSo b) → ((b : B) → (x : A) × P b x) → (x : A) × ((((b : B) → ¬ IsSo b) × (x ≡ v)) ⊎ ((b : B) × IsSo b × P b x))
some_looks IsSo v P (inr h) f = (v, inl ((λ b so. h (b, so)), refl))
some_looks IsSo v P (inl found) f = ((f found.0).0, inr (found.0, found.1, (f found.0).1))

-- the same where a value that is so gives an answer at once, and there is one too where none is so
some_found : {A B : Type 0} (IsSo : B → Type 0) (v : B → A) (P : A → Type 0) → Decided ((b : B) × IsSo b) → (x : A) × P x → (x : A) × (((b : B) × IsSo b × (x ≡ v b)) ⊎ (((b : B) → ¬ IsSo b) × P x))
some_found IsSo v P (inl found) f = (v found.0, inl (found.0, found.1, refl))
some_found IsSo v P (inr h) f = (f.0, inr ((λ b so. h (b, so)), f.1))

-- a piece after these gives an answer
some_piece_answer : (n : ℕ) (name : List ℕ) (shapes : List Drawing) (pieces : List Piece) (w : PieceWords) → (answer : LineResult) × PieceRule n name shapes pieces w answer
some_piece_answer n name shapes pieces w =
    some_needs _ _ (decide_below (length pieces) 32) λ room.
    some_needs _ _ (decided_and (decide_name w.name) (decided_not (decide_piece_name pieces w.name))) λ named.
    some_needs _ _ (decide_shape_name shapes w.shape) λ shaped.
    some_looks (IsNameOf w.orientation) _ _ (decide_turn_name w.orientation) λ t.
    some_looks (IsPositionOf w) _ _ (decide_position_text w.x w.y w.z) λ position.
    let p : Piece = record { name = w.name; shape = w.shape; turn = t; position = position } in
    some_found (IsFirstSharing shapes pieces p) (λ q. Err (A8 n q (length pieces))) (gives (Pieces name shapes (pieces ++ p ∷ []))) (decide_first_sharing shapes pieces p) (Ok (Pieces name shapes (pieces ++ p ∷ [])), refl)

-- a line of a form gives an answer after a beginning
some_form_answer : (n : ℕ) (so_far : Beginning) (form : LineForm) → (answer : LineResult) × FormGives n so_far form answer
some_form_answer n Blank (AssemblyLine name) = some_needs _ _ (decide_name name) (λ h. (Ok (Shapes name []), refl))
some_form_answer n (Shapes name shapes) (ShapeLine shape) =
    some_needs _ _ (decide_below (length shapes) 32) λ room.
    some_needs _ _ (decided_and (decide_name shape) (decided_not (decide_shape_name shapes shape))) λ named.
    (Ok (Drawn name shapes (record { name = shape; layers = [] }) None), refl)
some_form_answer n (Drawn name shapes d None) LayerLine = (Ok (Drawn name shapes d (Some [])), refl)
some_form_answer n (Drawn name shapes d (Some rows)) LayerLine =
    some_needs _ _ (decided_and (decide_finished_layer d.layers rows) (decide_below (length d.layers + 1) 16)) (λ h. (Ok (Drawn name shapes (with_layer d rows) (Some [])), refl))
some_form_answer n (Drawn name shapes d (Some rows)) (RowLine marks) =
    some_needs _ _ (decide_row d.layers rows marks) (λ h. (Ok (Drawn name shapes d (Some (rows ++ marks ∷ []))), refl))
some_form_answer n (Drawn name shapes d (Some rows)) EndLine =
    some_needs _ _ (decided_and (decide_finished_layer d.layers rows) (decide_cell_count (with_layer d rows))) (λ h. (Ok (Shapes name (shapes ++ with_layer d rows ∷ [])), refl))
some_form_answer n (Shapes name (s ∷ shapes)) (PieceLine w) = some_piece_answer n name (s ∷ shapes) [] w
some_form_answer n (Pieces name shapes pieces) (PieceLine w) = some_piece_answer n name shapes pieces w
some_form_answer n so_far form = (Err (A1 n), refl)

-- a line gives an answer after a beginning
some_line_answer : (n : ℕ) (so_far : Beginning) (bytes : List ℕ) → (answer : LineResult) × LineGives n so_far bytes answer
some_line_answer n so_far bytes = some_looks (IsLine bytes) (Err (A1 n)) (λ form. FormGives n so_far form) (decide_line bytes) (λ form. some_form_answer n so_far form)

-- the end of a text gives an answer after a beginning
some_end_answer : (n : ℕ) (so_far : Beginning) → (answer : Result Assembly AssemblyFault) × EndGives n so_far answer
some_end_answer n Blank = (Err (A1 n), refl)
some_end_answer n (Shapes name []) = (Err (A1 n), refl)
some_end_answer n (Shapes name (s ∷ shapes)) = (Err (A7 n), refl)
some_end_answer n (Drawn name shapes d begun) = (Err (A1 n), refl)
some_end_answer n (Pieces name shapes pieces) =
    some_needs _ _ (decide_at_most 2 (length pieces)) (λ h. (Ok (record { name = name; shapes = shapes; pieces = pieces }), refl))

-- the text is a line with its end, and a rest
abbrev IsLineAndRest : List ℕ → Type 0
IsLineAndRest text = (bytes rest : List ℕ) × IsUnended bytes × (text ≡ bytes ++ 10 ∷ rest)

-- the empty text holds no end of a line
unended_nil : IsUnended []
unended_nil h = at h.0 h.1
  where
    at : (k : ℕ) → k < 0 → ⊥
    at k l = omega arith

-- a byte that is no end of a line, before bytes that hold none, makes bytes that hold none
unended_more : (b : ℕ) (bytes : List ℕ) → b ≢ 10 → IsUnended bytes → IsUnended (b ∷ bytes)
unended_more b bytes other unended h = by_place h.0 h.1 h.2
  where
    by_place : (k : ℕ) → k < length (b ∷ bytes) → slice_index_or (b ∷ bytes) k 10 ≡ 10 → ⊥
    by_place zero l e = other e
    by_place (suc k) l e = unended (k, omega arith, e)

-- a text holds no end of a line, or is a line with its end and a rest
cut_line : (text : List ℕ) → IsUnended text ⊎ IsLineAndRest text
cut_line [] = inl unended_nil
cut_line (b ∷ text) = join (decide_same b 10) (cut_line text)
  where
    join : Decided (b ≡ 10) → IsUnended text ⊎ IsLineAndRest text → IsUnended (b ∷ text) ⊎ IsLineAndRest (b ∷ text)
    join (inl e) d = inr ([], text, unended_nil, ap (λ c. c ∷ text) e)
    join (inr other) (inl unended) = inl (unended_more b text other unended)
    join (inr other) (inr t) = inr (b ∷ t.0, t.1, unended_more b t.0 other t.2, ap (λ s. b ∷ s) t.3)

-- an unended text gives an answer
some_unended_answer : (n : ℕ) (so_far : Beginning) (text : List ℕ) → IsUnended text → (answer : Result Assembly AssemblyFault) × TextGives n so_far text answer
some_unended_answer n so_far [] unended =
    let end = some_end_answer n so_far in
    (end.0, ends n so_far end.0 end.1)
some_unended_answer n so_far (b ∷ text) unended = (Err (A1 n), breaks_off n so_far (b ∷ text) some unended)
  where
    some : b ∷ text ≢ []
    some e = cc

-- the rest after a line is shorter than the text
shorter_rest : (size : ℕ) (text bytes rest : List ℕ) → text ≡ bytes ++ 10 ∷ rest → length text < suc size → length rest < size
shorter_rest size text bytes rest e small =
    let all : length text ≡ length bytes + length (10 ∷ rest) = ap length e ∙ length-append bytes (10 ∷ rest) in
    omega arith

-- a line with its end, whose rest gives an answer after any beginning, gives an answer with it
some_more_answer : (n : ℕ) (so_far : Beginning) (bytes rest : List ℕ) → IsUnended bytes → ((next : Beginning) → (answer : Result Assembly AssemblyFault) × TextGives (n + 1) next rest answer) → (given : LineResult) → LineGives n so_far bytes given
    → (answer : Result Assembly AssemblyFault) × TextGives n so_far (bytes ++ 10 ∷ rest) answer
some_more_answer n so_far bytes rest unended more (Err fault) line = (Err fault, fails n so_far bytes rest fault unended line)
some_more_answer n so_far bytes rest unended more (Ok next) line = ((more next).0, goes_on n so_far next bytes rest (more next).0 unended line (more next).1)

-- every text below a size gives an answer
some_sized_answer : (size n : ℕ) (so_far : Beginning) (text : List ℕ) → length text < size → (answer : Result Assembly AssemblyFault) × TextGives n so_far text answer
some_sized_answer zero n so_far text small =
    let none : ⊥ = omega arith in
    absurd none
some_sized_answer (suc size) n so_far text small = by_line (some_sized_answer size (n + 1)) (cut_line text)
  where
    by_line : ((next : Beginning) (rest : List ℕ) → length rest < size → (answer : Result Assembly AssemblyFault) × TextGives (n + 1) next rest answer) → IsUnended text ⊎ IsLineAndRest text
        → (answer : Result Assembly AssemblyFault) × TextGives n so_far text answer
    by_line more (inl unended) = some_unended_answer n so_far text unended
    by_line more (inr t) =
        let line = some_line_answer n so_far t.0 in
        let with_line = some_more_answer n so_far t.0 t.1 t.2 (λ next. more next t.1 (shorter_rest size text t.0 t.1 t.3 small)) line.0 line.1 in
        (with_line.0, subst (λ s. TextGives n so_far s with_line.0) (sym t.3) with_line.1)

-- every text gives an answer
pub some_text_answer : (n : ℕ) (so_far : Beginning) (text : List ℕ) → (answer : Result Assembly AssemblyFault) × TextGives n so_far text answer
some_text_answer n so_far text = some_sized_answer (length text + 1) n so_far text (omega arith)
