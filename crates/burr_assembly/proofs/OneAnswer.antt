-- A text gives one answer.
use Rattle.std.proofs.Common.{◌≡◌, ◌≢◌, ℕ, ◌+◌, ◌<◌, ◌≤◌, ◌⊎◌, List, [], ◌∷◌, ◌++◌, length, Contains, Result, Ok, Err, Some, None, refl, sym, ap, subst, ◌∙◌, arith, inl, inr, length-append}
use Rattle.std.proofs.lemmas.Bool.{cases_order}
use Rattle.burr_voxels.specs.declared.cell.Cell.{Cell}
use Rattle.burr_voxels.proofs.Common.Naming.{same_axes}
use Rattle.burr_assembly.specs.declared.fault.AssemblyFault.{AssemblyFault}
use Rattle.burr_assembly.specs.declared.fault.AssemblyFault.TheVariants.{A1, A2, A3, A4, A5, A6, A7, A8}
use Rattle.burr_text.specs.Names.{IsName}
use Rattle.burr_assembly.specs.Rules.Text.{Drawing, Turn, Piece, Assembly, turn_name, IsTurn, IsShapeName, IsPieceName}
use Rattle.burr_assembly.specs.Rules.Lines.{LineForm, PieceWords, AssemblyLine, ShapeLine, LayerLine, RowLine, EndLine, PieceLine, IsLine}
use Rattle.burr_assembly.specs.Rules.Faults.{Beginning, Blank, Shapes, Drawn, Pieces, LineResult, gives, IsFinishedLayer, IsRow, with_layer, HasCellCount, IsFirstSharing, IsPositionOf, PieceRule, FormGives, LineGives, EndGives, TextGives, ends, breaks_off, fails, goes_on}
use Rattle.burr_text.specs.Lines.{IsUnended}
use Rattle.burr_text.proofs.Common.Cuts.{cut, lacks, contains_cut}
use Rattle.burr_assembly.proofs.Numbers.{one_position}
use Rattle.burr_assembly.proofs.OneForm.{one_form}

-- the turns of one name are one
pub one_turn : (bytes : List ℕ) (t u : Turn) → bytes ≡ turn_name t → bytes ≡ turn_name u → t ≡ u
one_turn bytes t u p q = let h = same_axes t.x t.y t.z u.x u.y u.z (sym p ∙ q) in λ i. record { x = h.0 i; y = h.1 i; z = h.2 i }

-- a check gives one answer where what follows it does
one_needs : {A : Type 0} (C : Type 0) (v : A) (P : A → Type 0) (x y : A) → ((¬ C) × (x ≡ v)) ⊎ (C × P x) → ((¬ C) × (y ≡ v)) ⊎ (C × P y) → ((x y : A) → P x → P y → x ≡ y) → x ≡ y
one_needs C v P x y (inl p) (inl q) one = p.1 ∙ sym q.1
one_needs C v P x y (inl p) (inr q) one = absurd (p.0 q.0)
one_needs C v P x y (inr p) (inl q) one = absurd (q.0 p.0)
one_needs C v P x y (inr p) (inr q) one = one x y p.1 q.1

-- so does the last check
one_check : {A : Type 0} (C : Type 0) (v w x y : A) → ((¬ C) × (x ≡ v)) ⊎ (C × (x ≡ w)) → ((¬ C) × (y ≡ v)) ⊎ (C × (y ≡ w)) → x ≡ y
one_check C v w x y p q = one_needs C v (λ x. x ≡ w) x y p q λ x y p q. p ∙ sym q

-- and a search for what there is at most one of
one_search : {A B : Type 0} (C : B → Type 0) (v : A) → ((b c : B) → C b → C c → b ≡ c) → (P : B → A → Type 0) (x y : A) → (((b : B) → ¬ C b) × (x ≡ v)) ⊎ ((b : B) × C b × P b x)
    → (((b : B) → ¬ C b) × (y ≡ v)) ⊎ ((b : B) × C b × P b y) → ((b : B) (x y : A) → P b x → P b y → x ≡ y) → x ≡ y
one_search C v only P x y (inl p) (inl q) one = p.1 ∙ sym q.1
one_search C v only P x y (inl p) (inr q) one = absurd (p.0 q.0 q.1)
one_search C v only P x y (inr p) (inl q) one = absurd (q.0 p.0 p.1)
one_search C v only P x y (inr p) (inr q) one = one p.0 x y p.2 (subst (λ b. P b y) (only q.0 p.0 q.1 p.1) q.2)

-- the earliest of the pieces that shares a cell is one
one_first : (shapes : List Drawing) (pieces : List Piece) (p : Piece) (q r : ℕ) → IsFirstSharing shapes pieces p q → IsFirstSharing shapes pieces p r → q ≡ r
one_first shapes pieces p q r f g = elim (cases_order q r) [ inl e ↦ e | inr (inl l) ↦ absurd (g.first q l f.shares) | inr (inr l) ↦ absurd (f.first r l g.shares) ]

-- what a piece gives that may stand but for the cells of the others
abbrev Stands : ℕ → List ℕ → List Drawing → List Piece → Piece → LineResult → Type 0
Stands n name shapes pieces p answer =
    ((q : ℕ) × IsFirstSharing shapes pieces p q × (answer ≡ Err (A8 n q (length pieces))))
    ⊎ (((q : ℕ) → ¬ IsFirstSharing shapes pieces p q) × gives (Pieces name shapes (pieces ++ p ∷ [])) answer)

-- which gives one answer
one_stands : (n : ℕ) (name : List ℕ) (shapes : List Drawing) (pieces : List Piece) (p : Piece) (x y : LineResult) → Stands n name shapes pieces p x → Stands n name shapes pieces p y → x ≡ y
one_stands n name shapes pieces p x y (inl h) (inl k) = h.2 ∙ ap (λ (q : ℕ). Err (A8 n q (length pieces))) (one_first shapes pieces p h.0 k.0 h.1 k.1) ∙ sym k.2
one_stands n name shapes pieces p x y (inl h) (inr k) = absurd (k.0 h.0 h.1)
one_stands n name shapes pieces p x y (inr h) (inl k) = absurd (h.0 k.0 k.1)
one_stands n name shapes pieces p x y (inr h) (inr k) = h.1 ∙ sym k.1

-- the piece of a line, with this turn, in this position
abbrev piece_at : PieceWords → Turn → Cell → Piece
piece_at w turn position = record { name = w.name; shape = w.shape; turn = turn; position = position }

-- a line of a piece gives one answer
one_piece : (n : ℕ) (name : List ℕ) (shapes : List Drawing) (pieces : List Piece) (w : PieceWords) (x y : LineResult) → PieceRule n name shapes pieces w x → PieceRule n name shapes pieces w y → x ≡ y
one_piece n name shapes pieces w x y p q =
    one_needs (length pieces < 32) (Err (A7 n)) _ x y p q λ x y p q.
    one_needs (IsName w.name × (¬ IsPieceName pieces w.name)) (Err (A2 n)) _ x y p q λ x y p q.
    one_needs (IsShapeName shapes w.shape) (Err (A6 n)) _ x y p q λ x y p q.
    one_search (λ (t : Turn). IsTurn t × (w.orientation ≡ turn_name t)) (Err (A4 n)) (λ t u is so. one_turn w.orientation t u is.1 so.1) _ x y p q λ t x y p q.
    one_search (IsPositionOf w) (Err (A5 n)) (one_position w) (λ position. Stands n name shapes pieces (piece_at w t position)) x y p q λ position x y p q.
    one_stands n name shapes pieces (piece_at w t position) x y p q

-- a line of a form gives one answer
pub one_rule_answer : (n : ℕ) (so_far : Beginning) (form : LineForm) (x y : LineResult) → FormGives n so_far form x → FormGives n so_far form y → x ≡ y
one_rule_answer n Blank (AssemblyLine name) x y p q = one_check (IsName name) (Err (A2 n)) _ x y p q
one_rule_answer n (Shapes name shapes) (ShapeLine shape) x y p q =
    one_needs (length shapes < 32) (Err (A7 n)) _ x y p q λ x y p q.
    one_check (IsName shape × (¬ IsShapeName shapes shape)) (Err (A2 n)) (Ok (Drawn name shapes (record { name = shape; layers = [] }) None)) x y p q
one_rule_answer n (Drawn name shapes d None) LayerLine x y p q = p ∙ sym q
one_rule_answer n (Drawn name shapes d (Some rows)) LayerLine x y p q = one_check (IsFinishedLayer d.layers rows × (length d.layers + 1 < 16)) (Err (A3 n)) _ x y p q
one_rule_answer n (Drawn name shapes d (Some rows)) (RowLine marks) x y p q = one_check (IsRow d.layers rows marks) (Err (A3 n)) _ x y p q
one_rule_answer n (Drawn name shapes d (Some rows)) EndLine x y p q = one_check (IsFinishedLayer d.layers rows × HasCellCount (with_layer d rows)) (Err (A3 n)) _ x y p q
one_rule_answer n (Shapes name (s ∷ shapes)) (PieceLine w) x y p q = one_piece n name (s ∷ shapes) [] w x y p q
one_rule_answer n (Pieces name shapes pieces) (PieceLine w) x y p q = one_piece n name shapes pieces w x y p q
one_rule_answer n so_far form x y p q = p ∙ sym q

-- a line gives one answer
pub one_line_answer : (n : ℕ) (so_far : Beginning) (bytes : List ℕ) (x y : LineResult) → LineGives n so_far bytes x → LineGives n so_far bytes y → x ≡ y
one_line_answer n so_far bytes x y p q = one_search (IsLine bytes) (Err (A1 n)) (one_form bytes) (λ form. FormGives n so_far form) x y p q (one_rule_answer n so_far)

-- so does the end of a text
pub one_end_answer : (n : ℕ) (so_far : Beginning) (x y : Result Assembly AssemblyFault) → EndGives n so_far x → EndGives n so_far y → x ≡ y
one_end_answer n Blank x y p q = p ∙ sym q
one_end_answer n (Shapes name []) x y p q = p ∙ sym q
one_end_answer n (Shapes name (s ∷ shapes)) x y p q = p ∙ sym q
one_end_answer n (Drawn name shapes d begun) x y p q = p ∙ sym q
one_end_answer n (Pieces name shapes pieces) x y p q = one_check (2 ≤ length pieces) (Err (A7 n)) _ x y p q

-- Texts

-- a text with an end of a line is not empty
never_empty : (bytes rest : List ℕ) → [] ≢ bytes ++ 10 ∷ rest
never_empty bytes rest e = omega (arith, ap length e, length-append bytes (10 ∷ rest))

-- nor is it one with none
never_unended : (bytes rest text : List ℕ) → IsUnended text → text ≢ bytes ++ 10 ∷ rest
never_unended bytes rest text h e = h (subst (λ (t : List ℕ). Contains t 10) (sym e) (contains_cut 10 bytes rest))

-- a text has one first line
first_line : (a b r s : List ℕ) → IsUnended a → IsUnended b → a ++ 10 ∷ r ≡ b ++ 10 ∷ s → (a ≡ b) × (r ≡ s)
first_line a b r s h k e = cut 10 a b r s (lacks 10 a h) (lacks 10 b k) e

-- the first lines of a text give one answer
same_line : (n : ℕ) (so_far : Beginning) (a b r s : List ℕ) (x y : LineResult) → IsUnended a → IsUnended b → a ++ 10 ∷ r ≡ b ++ 10 ∷ s → LineGives n so_far a x → LineGives n so_far b y → x ≡ y
same_line n so_far a b r s x y h k e p q = one_line_answer n so_far a x y p (subst (λ (l : List ℕ). LineGives n so_far l y) (sym (first_line a b r s h k e).0) q)

-- a fault is no beginning
err_ok : (fault : AssemblyFault) (next : Beginning) → ◌≢◌ {A = LineResult} (Err fault) (Ok next)
err_ok fault next e = cc

-- the faults of one answer are one
same_fault : (f g : AssemblyFault) → ◌≡◌ {A = LineResult} (Err f) (Err g) → f ≡ g
same_fault f g e = cc

-- and so are the beginnings
same_beginning : (f g : Beginning) → ◌≡◌ {A = LineResult} (Ok f) (Ok g) → f ≡ g
same_beginning f g e = cc

-- texts that are equal give one answer: by the lines of the first
one_answer : (n : ℕ) (so_far : Beginning) (text : List ℕ) (x : Result Assembly AssemblyFault) → TextGives n so_far text x → (other : List ℕ) (y : Result Assembly AssemblyFault) → text ≡ other → TextGives n so_far other y → x ≡ y
one_answer n so_far _ x (ends _ _ _ p) _ y e (ends _ _ _ q) = one_end_answer n so_far x y p q
one_answer n so_far _ x (ends _ _ _ p) _ _ e (breaks_off _ _ rest some h) = absurd (some (sym e))
one_answer n so_far _ x (ends _ _ _ p) _ _ e (fails _ _ b s g k q) = absurd (never_empty b s e)
one_answer n so_far _ x (ends _ _ _ p) _ y e (goes_on _ _ next b s _ k q u) = absurd (never_empty b s e)
one_answer n so_far _ _ (breaks_off _ _ rest some h) _ y e (ends _ _ _ q) = absurd (some e)
one_answer n so_far _ _ (breaks_off _ _ rest some h) _ _ e (breaks_off _ _ rest' some' h') = refl
one_answer n so_far _ _ (breaks_off _ _ rest some h) _ _ e (fails _ _ b s g k q) = absurd (never_unended b s rest h e)
one_answer n so_far _ _ (breaks_off _ _ rest some h) _ y e (goes_on _ _ next b s _ k q u) = absurd (never_unended b s rest h e)
one_answer n so_far _ _ (fails _ _ a r f h p) _ y e (ends _ _ _ q) = absurd (never_empty a r (sym e))
one_answer n so_far _ _ (fails _ _ a r f h p) _ _ e (breaks_off _ _ rest some k) = absurd (never_unended a r rest k (sym e))
one_answer n so_far _ _ (fails _ _ a r f h p) _ _ e (fails _ _ b s g k q) = ap Err (same_fault f g (same_line n so_far a b r s (Err f) (Err g) h k e p q))
one_answer n so_far _ _ (fails _ _ a r f h p) _ y e (goes_on _ _ next b s _ k q u) = absurd (err_ok f next (same_line n so_far a b r s (Err f) (Ok next) h k e p q))
one_answer n so_far _ x (goes_on _ _ next a r _ h p t) _ y e (ends _ _ _ q) = absurd (never_empty a r (sym e))
one_answer n so_far _ x (goes_on _ _ next a r _ h p t) _ _ e (breaks_off _ _ rest some k) = absurd (never_unended a r rest k (sym e))
one_answer n so_far _ x (goes_on _ _ next a r _ h p t) _ _ e (fails _ _ b s g k q) = absurd (err_ok g next (sym (same_line n so_far a b r s (Ok next) (Err g) h k e p q)))
one_answer n so_far _ x (goes_on _ _ next a r _ h p t) _ y e (goes_on _ _ after b s _ k q u) =
    let same = same_beginning next after (same_line n so_far a b r s (Ok next) (Ok after) h k e p q) in
    one_answer (n + 1) next r x t s y (first_line a b r s h k e).1 (subst (λ (f : Beginning). TextGives (n + 1) f s y) (sym same) u)

-- a text gives one answer
pub one_text_answer : (n : ℕ) (so_far : Beginning) (text : List ℕ) (x y : Result Assembly AssemblyFault) → TextGives n so_far text x → TextGives n so_far text y → x ≡ y
one_text_answer n so_far text x y p q = one_answer n so_far text x p text y refl q
