-- The listing of a plan: the one text of it in which procedures are named `p0`, `p1` and so on, and
-- the labels of each `L0`, `L1` and so on.
use Rattle.std.specs.Prelude.{◌≡◌, ◌⊎◌, ℕ, zero, suc, ◌-◌, ◌/◌, ◌%◌, ℤ, pos, negsuc, List, [], ◌∷◌, ◌++◌, length, map, take, drop, codes, Option, Some, None, Bool, true, ◌==◌, nat_lt, if◌then◌else◌, IsTrue}
use Rattle.std.specs.List.{list_all, join_with_byte}
use Rattle.std.specs.Fmt.{decimal, signed_decimal}
use Rattle.burr_code.specs.Instruction as code
use Rattle.burr_code.specs.Instruction.{Instruction, IsInRange, Begins, spelled}
use Rattle.burr_code.specs.declared.placement.Placement.TheVariants as places
use Rattle.burr_code.specs.declared.placement.Placement.{Placement}
use Rattle.burr_forms.specs.Rules.Forms.{Form}
use Rattle.burr_container.specs.Rules.Plans.{FormCell, Range, Frame, ExitFrame, PlanProcedure, Plan}
use Rattle.burr_plantext.specs.Rules.Statements.{Statement, Alone, Push, Load, Store, Grip, Step, Aside, Tray, Jump, Down, Ask, Pick, Call, Byte, bares, bare_of}
use Rattle.burr_plantext.specs.Rules.Lines.{PlanWords, ProcedureWords, GripWords, RangeWords, SlotWords, PlaceWords, Apart, On, PieceWords}
use Rattle.burr_plantext.specs.Rules.Sources.{ExitSource, FrameSource, Block, ProcedureSource, PlanSource, source_lines}
use Rattle.burr_plantext.specs.Rules.Writing.{text_of}

-- Words

-- the name of procedure n
abbrev pub procedure_name : ℕ → List ℕ
procedure_name n = 112 ∷ decimal n

-- the name of label n of a procedure
abbrev pub label_name : ℕ → List ℕ
label_name n = 76 ∷ decimal n

-- the pieces of a set from p on, the next n of them
abbrev pub members : ℕ → ℕ → ℕ → List ℕ
members p zero set = []
members p (suc n) set = (if set % 2 == 1 then p ∷ [] else []) ++ members (suc p) n (set / 2)

-- `-`, or numbers joined by `,`
abbrev pub joined_numbers : List (List ℕ) → List ℕ
joined_numbers [] = codes "-"
joined_numbers (word ∷ words) = join_with_byte 44 (word ∷ words)

-- the word of a set
abbrev pub set_word : ℕ → List ℕ
set_word set = joined_numbers (map decimal (members 0 32 set))

-- a term; none where the coefficient is 0
abbrev pub term_word : ℕ → ℤ → List ℕ
term_word slot (pos zero) = []
term_word slot (pos (suc n)) = 43 ∷ (signed_decimal (pos (suc n)) ++ (118 ∷ decimal slot))
term_word slot (negsuc n) = signed_decimal (negsuc n) ++ (118 ∷ decimal slot)

-- the terms of the slots from one on
abbrev pub terms_word : ℕ → List ℤ → List ℕ
terms_word slot [] = []
terms_word slot (c ∷ coefs) = term_word slot c ++ terms_word (suc slot) coefs

-- the word of a form
abbrev pub form_word : Form → List ℕ
form_word f = signed_decimal f.constant ++ terms_word 0 f.coefs

-- Frames

-- the words of a range
abbrev pub ends_of : Range → RangeWords
ends_of range = record { low = signed_decimal range.0; high = signed_decimal range.1 }

-- the live slots from one on
abbrev pub slots_of : ℕ → List (Option Range) → List SlotWords
slots_of slot [] = []
slots_of slot (None ∷ slots) = slots_of (suc slot) slots
slots_of slot (Some range ∷ slots) =
    record { slot = decimal slot; ends = ends_of range } ∷ slots_of (suc slot) slots

-- the words of a place
abbrev pub spot_of : Placement FormCell → PlaceWords
spot_of places.Apart = Apart
spot_of (places.On tray at) = On (decimal tray) (form_word at.x) (form_word at.y) (form_word at.z)

-- the pieces from one on
abbrev pub spots_of : ℕ → List (Placement FormCell) → List PieceWords
spots_of piece [] = []
spots_of piece (place ∷ places) =
    record { piece = decimal piece; spot = spot_of place } ∷ spots_of (suc piece) places

-- the words of a tray and a grip
abbrev pub grip_of : ℕ → ℕ → GripWords
grip_of tray set = record { tray = decimal tray; set = set_word set }

-- the words of a frame
abbrev pub frame_listed : Frame → FrameSource
frame_listed f = record {
  conditions = record {
    grip = grip_of f.tray f.grip;
    slots = slots_of 0 f.slots;
    guards = map form_word f.guards;
    stack = map form_word f.stack;
  };
  cost = form_word f.cost;
  pieces = spots_of 0 f.places;
}

-- the words of an exit frame, if there is one
abbrev pub exit_listed : Option ExitFrame → Option ExitSource
exit_listed None = None
exit_listed (Some f) = Some (record {
  grip = grip_of f.tray f.grip;
  results = map ends_of f.results;
  guards = map form_word f.guards;
  pieces = spots_of 0 f.places;
})

-- Code

-- the words of an instruction
abbrev pub instruction_listed : Instruction → Statement
instruction_listed (code.Push n) = Push (signed_decimal n)
instruction_listed (code.Load slot) = Load (decimal slot)
instruction_listed (code.Store slot) = Store (decimal slot)
instruction_listed (code.Grip set) = Grip (set_word set)
instruction_listed (code.Step direction) = Step direction
instruction_listed (code.Aside direction tray) = Aside direction (decimal tray)
instruction_listed (code.Tray tray) = Tray (decimal tray)
instruction_listed (code.Jump label) = Jump (label_name label)
instruction_listed (code.Down slot label) = Down (decimal slot) (label_name label)
instruction_listed (code.Ask low high) = Ask (signed_decimal low) (signed_decimal high)
instruction_listed (code.Pick labels) = Pick (map label_name labels)
instruction_listed (code.Call callee) = Call (procedure_name callee)
instruction_listed i = Alone (bare_of bares i)

-- all that the instruction names are there, where there are this many labels and procedures
abbrev pub has_names : ℕ → ℕ → Instruction → Bool
has_names labels procedures (code.Jump label) = nat_lt label labels
has_names labels procedures (code.Down slot label) = nat_lt label labels
has_names labels procedures (code.Pick offered) = list_all (λ label. nat_lt label labels) offered
has_names labels procedures (code.Call callee) = nat_lt callee procedures
has_names labels procedures i = true

-- an instruction whose names are all there
pub record MayBeListed (labels procedures : ℕ) (i : Instruction) : Type 0 where
  pub in_range : IsInRange i
  pub names : IsTrue (has_names labels procedures i)

-- the instruction with which the bytes begin, if it may be listed
abbrev pub IsListedAs : ℕ → ℕ → List ℕ → Statement → List ℕ → Type 0
IsListedAs labels procedures bytes s rest =
    (i : Instruction) × MayBeListed labels procedures i × (bytes ≡ spelled i ++ rest)
    × (s ≡ instruction_listed i)

-- else the first byte
abbrev pub IsListedRaw : ℕ → ℕ → List ℕ → Statement → List ℕ → Type 0
IsListedRaw labels procedures bytes s rest =
    ((i : Instruction) → MayBeListed labels procedures i → ¬ Begins bytes i)
    × (b : ℕ) × (bytes ≡ b ∷ rest) × (s ≡ Byte b)

-- bytes within which no label stands, and the code that they are listed as
abbrev pub IsCodeListed : ℕ → ℕ → List ℕ → List Statement → Type 0
IsCodeListed labels procedures bytes [] = bytes ≡ []
IsCodeListed labels procedures bytes (s ∷ code) =
    (rest : List ℕ)
    × (IsListedAs labels procedures bytes s rest ⊎ IsListedRaw labels procedures bytes s rest)
    × IsCodeListed labels procedures rest code

-- Procedures

-- the code from a label to the next one, or to the end
abbrev pub code_after : List ℕ → ℕ → List (ℕ × Frame) → List ℕ
code_after code position [] = drop position code
code_after code position (next ∷ labels) = take (next.0 - position) (drop position code)

-- labels from the n-th on, and the blocks that they are listed as
abbrev pub AreBlocksListed : ℕ → ℕ → List ℕ → ℕ → List (ℕ × Frame) → List Block → Type 0
AreBlocksListed all procedures code n [] [] = Unit {0}
AreBlocksListed all procedures code n [] (b ∷ blocks) = ⊥
AreBlocksListed all procedures code n (label ∷ labels) [] = ⊥
AreBlocksListed all procedures code n (label ∷ labels) (b ∷ blocks) =
    (b.label ≡ label_name n) × (b.frame ≡ frame_listed label.1)
    × IsCodeListed all procedures (code_after code label.0 labels) b.code
    × AreBlocksListed all procedures code (suc n) labels blocks

-- the words of procedure n's line
abbrev pub head_of : ℕ → ℕ → PlanProcedure → ProcedureWords
head_of version n p = record {
  name = procedure_name n;
  parameters = decimal p.parameters;
  results = if version == 2 then Some (decimal p.results) else None;
}

-- procedure n of this many
pub record IsProcedureListed (version procedures n : ℕ) (p : PlanProcedure) (s : ProcedureSource)
    : Type 0 where
  pub head : s.head ≡ head_of version n p
  pub exit : s.exit ≡ exit_listed p.exit
  pub blocks : AreBlocksListed (length p.labels) procedures p.code 0 p.labels s.blocks

-- procedures from the n-th on
abbrev pub AreProceduresListed : ℕ → ℕ → ℕ → List PlanProcedure → List ProcedureSource → Type 0
AreProceduresListed version all n [] [] = Unit {0}
AreProceduresListed version all n [] (s ∷ sources) = ⊥
AreProceduresListed version all n (p ∷ procedures) [] = ⊥
AreProceduresListed version all n (p ∷ procedures) (s ∷ sources) =
    IsProcedureListed version all n p s
    × AreProceduresListed version all (suc n) procedures sources

-- the words of the plan's line
abbrev pub title_of : Plan → PlanWords
title_of plan = record {
  version = plan.version;
  name = plan.name;
  pieces = decimal plan.pieces;
  budget = decimal plan.budget;
}

-- the source as which a plan is listed
pub record IsListed (plan : Plan) (s : PlanSource) : Type 0 where
  pub title : s.title ≡ title_of plan
  pub procedures :
      AreProceduresListed plan.version (length plan.procedures) 0 plan.procedures s.procedures

-- The text is the listing of the plan.
abbrev pub IsListing : Plan → List ℕ → Type 0
IsListing plan text = (s : PlanSource) × IsListed plan s × (text ≡ text_of (source_lines s))
