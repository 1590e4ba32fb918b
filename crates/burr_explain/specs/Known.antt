-- The words that are explained, as they are printed.
use Rattle.std.specs.Prelude.{ℕ, List, [], ◌∷◌, ◌++◌, codes}

-- of an input and its assembly text
abbrev pub assembly_words : List (List ℕ)
assembly_words =
    codes "input" ∷ codes "A1" ∷ codes "A2" ∷ codes "A3" ∷ codes "A4" ∷ codes "A5" ∷ codes "A6"
    ∷ codes "A7" ∷ codes "A8" ∷ []

-- of a container
abbrev pub container_words : List (List ℕ)
container_words =
    codes "C1" ∷ codes "C2" ∷ codes "C3" ∷ codes "C4" ∷ codes "C5" ∷ codes "C6" ∷ []

-- of a plan text
abbrev pub plan_text_words : List (List ℕ)
plan_text_words =
    codes "P1" ∷ codes "P2" ∷ codes "P3" ∷ codes "P4" ∷ codes "P5" ∷ []

-- of the verifier: rules on code
abbrev pub code_rule_words : List (List ℕ)
code_rule_words =
    codes "V1" ∷ codes "V2" ∷ codes "V3" ∷ codes "V4" ∷ codes "V5" ∷ codes "V6" ∷ codes "V7"
    ∷ codes "V8" ∷ codes "V9" ∷ codes "V10" ∷ codes "V11" ∷ codes "V12" ∷ []

-- rules on pieces
abbrev pub space_rule_words : List (List ℕ)
space_rule_words =
    codes "V13" ∷ codes "V14" ∷ codes "V15" ∷ codes "V16" ∷ codes "V17" ∷ codes "V18" ∷ []

-- rules on calls, frames and costs
abbrev pub frame_rule_words : List (List ℕ)
frame_rule_words =
    codes "V19" ∷ codes "V20" ∷ codes "V21" ∷ codes "V22" ∷ codes "V23" ∷ codes "V24"
    ∷ codes "V25" ∷ codes "V26" ∷ codes "V27" ∷ codes "V28" ∷ []

-- of other lines that are printed
abbrev pub output_words : List (List ℕ)
output_words =
    codes "answers" ∷ codes "sheet" ∷ codes "frame" ∷ codes "pair" ∷ codes "waiting"
    ∷ codes "stopped" ∷ codes "apart" ∷ codes "levels" ∷ codes "accepted" ∷ codes "move" ∷ []

-- of lines of the stepper
abbrev pub stepper_words : List (List ℕ)
stepper_words =
    codes "S1" ∷ codes "S2" ∷ codes "S3" ∷ codes "S4" ∷ codes "command" ∷ codes "after" ∷ []

-- traps, each by its number and by its name
abbrev pub trap_words : List (List ℕ)
trap_words =
    codes "1" ∷ codes "Collision" ∷ codes "2" ∷ codes "GripOff" ∷ codes "3" ∷ codes "NotFree"
    ∷ codes "4" ∷ codes "BadGroup" ∷ codes "5" ∷ codes "TrayInUse" ∷ codes "6"
    ∷ codes "MissingOperand" ∷ codes "7" ∷ codes "StackFull" ∷ codes "8" ∷ codes "EmptySlot"
    ∷ codes "9" ∷ codes "BadJump" ∷ codes "10" ∷ codes "BadCode" ∷ codes "11" ∷ codes "BadCall"
    ∷ codes "12" ∷ codes "BadCount" ∷ codes "13" ∷ codes "NumberRange" ∷ codes "14"
    ∷ codes "OffBench" ∷ codes "15" ∷ codes "NotApart" ∷ codes "16" ∷ codes "Misplaced"
    ∷ codes "17" ∷ codes "ParamWritten" ∷ []

-- all words that are explained
abbrev pub known_words : List (List ℕ)
known_words =
    assembly_words ++ (container_words ++ (plan_text_words ++ (code_rule_words
    ++ (space_rule_words ++ (frame_rule_words ++ (output_words
    ++ (stepper_words ++ trap_words)))))))
