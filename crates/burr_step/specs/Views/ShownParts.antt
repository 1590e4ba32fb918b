-- The parts of the text of a state, one for each line, and words that are put one by one.
use Rattle.std.specs.Prelude.{ℕ, List, [], ◌∷◌, ◌++◌, map, codes, decimal}
use Rattle.burr_text.specs.Words.{text_line}
use Rattle.burr_state.specs.Rules.Bench.{BenchState}
use Rattle.burr_step.specs.Rules.StepTexts.{ended_word, grip_word, slot_word, stack_words}

-- how far the run is
abbrev pub after_line : BenchState → List ℕ
after_line s =
    text_line (codes "after" ∷ decimal s.steps ∷ codes "steps" ∷ codes "proc"
    ∷ decimal s.running.procedure ∷ codes "pc" ∷ decimal s.running.pc ∷ ended_word s.mode)

-- the current tray, and the names of the gripped pieces
abbrev pub tray_line : List (List ℕ) → BenchState → List ℕ
tray_line names s =
    text_line (codes "tray" ∷ decimal s.tray ∷ codes "grip"
    ∷ grip_word names s.grip ∷ [])

-- the slots of the running activation
abbrev pub slots_line : BenchState → List ℕ
slots_line s = text_line (codes "slots" ∷ map slot_word s.running.slots)

-- its operands
abbrev pub stack_line : BenchState → List ℕ
stack_line s = text_line (codes "stack" ∷ stack_words s.running.operands)

-- words, a space before each
abbrev pub spaced_words : List (List ℕ) → List ℕ
spaced_words [] = []
spaced_words (word ∷ words) = codes " " ++ (word ++ spaced_words words)
