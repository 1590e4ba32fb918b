-- On which line of a plan text each part of the plan stands.
use Rattle.std.specs.Prelude.{◌≡◌, ℕ, zero, suc, ◌+◌, List, [], ◌∷◌, ◌++◌, length, map}
use Rattle.burr_plantext.specs.Rules.Statements.{Statement}
use Rattle.burr_plantext.specs.Rules.Sources.{Block, ProcedureSource, PlanSource, some_exit_lines, frame_lines}
use Rattle.burr_plantext.specs.Rules.Meaning.{code_size}
use Rattle.burr_plantext.specs.Rules.Texts.{LineRead, numbered_lines, IsTextOf}
use Rattle.burr_asm.specs.declared.source_maps.PlanPart.{PlanPart}
use Rattle.burr_asm.specs.declared.source_maps.PlanPart.TheVariants.{Plan, Procedure, Exit, Label, Frame, Code}

-- rows: the number of the first, and how many there are
abbrev pub rows : (ℕ → PlanPart) → ℕ → ℕ → List PlanPart
rows row n zero = []
rows row n (suc count) = row n ∷ rows row (suc n) count

-- lines of code of a procedure; the first begins at this place
abbrev pub code_parts : ℕ → ℕ → List Statement → List PlanPart
code_parts procedure pc [] = []
code_parts procedure pc (s ∷ code) =
    Code procedure pc ∷ code_parts procedure (pc + code_size (s ∷ [])) code

-- a label with its frame, and the code after it
abbrev pub block_parts : ℕ → ℕ → ℕ → Block → List PlanPart
block_parts procedure label pc b =
    Label procedure label
    ∷ (rows (Frame procedure label) 0 (length (frame_lines b.frame))
    ++ code_parts procedure pc b.code)

-- labels of a procedure; the first has this number and stands at this place
abbrev pub blocks_parts : ℕ → ℕ → ℕ → List Block → List PlanPart
blocks_parts procedure label pc [] = []
blocks_parts procedure label pc (b ∷ blocks) =
    block_parts procedure label pc b
    ++ blocks_parts procedure (suc label) (pc + code_size b.code) blocks

-- the procedure of this number
abbrev pub procedure_parts : ℕ → ProcedureSource → List PlanPart
procedure_parts procedure p =
    Procedure procedure
    ∷ (rows (Exit procedure) 0 (length (some_exit_lines p.exit))
    ++ blocks_parts procedure 0 0 p.blocks)

-- procedures; the first has this number
abbrev pub procedures_parts : ℕ → List ProcedureSource → List PlanPart
procedures_parts procedure [] = []
procedures_parts procedure (p ∷ procedures) =
    procedure_parts procedure p ++ procedures_parts (suc procedure) procedures

-- a part for each line of a plan
abbrev pub parts_of : PlanSource → List PlanPart
parts_of s = Plan ∷ procedures_parts 0 s.procedures

-- the numbers of the lines of a text that are not skipped
abbrev pub line_numbers : List ℕ → List ℕ
line_numbers text = map (λ (line : ℕ × LineRead). line.0) (numbered_lines text)

-- The parts of the plan that the text stands for, each with the number of its line.
abbrev pub IsSourceMap : List ℕ → List (PlanPart × ℕ) → Type 0
IsSourceMap text found =
    (s : PlanSource) → IsTextOf text s
    → (map (λ (line : PlanPart × ℕ). line.0) found ≡ parts_of s)
    × (map (λ (line : PlanPart × ℕ). line.1) found ≡ line_numbers text)
