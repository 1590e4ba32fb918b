-- Listings with places: before each line of code a comment tells its procedure, and the position of
-- its instruction in this procedure's code.
use Rattle.std.specs.Prelude.{◌≡◌, ℕ, suc, ◌+◌, List, [], ◌∷◌, ◌++◌, codes, Option, Some, None, Bool, true, if◌then◌else◌}
use Rattle.std.specs.Fmt.{decimal}
use Rattle.burr_text.specs.Words.{text_line}
use Rattle.burr_container.specs.Rules.Plans.{Plan}
use Rattle.burr_plantext.specs.Rules.Statements.{Statement}
use Rattle.burr_plantext.specs.Rules.Lines.{PlanLine, ProcLine, LabelLine, CodeLine}
use Rattle.burr_plantext.specs.Rules.Sources.{Block, ProcedureSource, PlanSource, frame_lines, some_exit_lines}
use Rattle.burr_plantext.specs.Rules.Meaning.{code_size}
use Rattle.burr_plantext.specs.Rules.Writing.{text_of, line_text}
use Rattle.burr_plantext.specs.Rules.Listing.{IsListed, IsListing}
use Rattle.burr_plantext.specs.Rules.Texts.{lines_read}

-- the comment before a line of code
abbrev pub place_comment : ℕ → ℕ → List ℕ
place_comment procedure pc =
    text_line (codes ";" ∷ codes "proc" ∷ decimal procedure ∷ codes "pc" ∷ decimal pc ∷ [])

-- what is before a line of code at a position: the comment, if a procedure is given
abbrev pub comment_at : Option ℕ → ℕ → List ℕ
comment_at None pc = []
comment_at (Some procedure) pc = place_comment procedure pc

-- lines of code from a position on
abbrev pub code_text : Option ℕ → ℕ → List Statement → List ℕ
code_text placed pc [] = []
code_text placed pc (s ∷ code) =
    (comment_at placed pc ++ line_text (CodeLine s)) ++ code_text placed (pc + code_size (s ∷ [])) code

-- labels, their frames and their code, from a position on
abbrev pub blocks_text : Option ℕ → ℕ → List Block → List ℕ
blocks_text placed pc [] = []
blocks_text placed pc (b ∷ blocks) =
    (text_of (LabelLine b.label ∷ frame_lines b.frame) ++ code_text placed pc b.code)
    ++ blocks_text placed (pc + code_size b.code) blocks

-- procedure n, with places or without
abbrev pub procedure_text : Bool → ℕ → ProcedureSource → List ℕ
procedure_text places n p =
    text_of (ProcLine p.head ∷ some_exit_lines p.exit)
    ++ blocks_text (if places then Some n else None) 0 p.blocks

-- procedures from the n-th on
abbrev pub procedures_text : Bool → ℕ → List ProcedureSource → List ℕ
procedures_text places n [] = []
procedures_text places n (p ∷ procedures) =
    procedure_text places n p ++ procedures_text places (suc n) procedures

-- a plan, with places or without
abbrev pub plan_text : Bool → PlanSource → List ℕ
plan_text places s = line_text (PlanLine s.title) ++ procedures_text places 0 s.procedures

-- The text is the listing of the plan, with places or without.
abbrev pub IsListedText : Bool → Plan → List ℕ → Type 0
IsListedText places plan text =
    (s : PlanSource) × IsListed plan s × (text ≡ plan_text places s)

-- The text is the listing of the plan, with places.
abbrev pub IsListingWithPlaces : Plan → List ℕ → Type 0
IsListingWithPlaces plan text = IsListedText true plan text

-- Without its comments the text has the lines of the listing.
abbrev pub HasListedLines : Plan → List ℕ → Type 0
HasListedLines plan text =
    (listing : List ℕ) × IsListing plan listing × (lines_read text ≡ lines_read listing)
