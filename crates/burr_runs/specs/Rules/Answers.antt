-- The operator's answers, as a text.
use Rattle.std.specs.Prelude.{◌≡◌, ◌≢◌, ◌+◌, ℕ, ℤ, List, [], ◌∷◌, ◌++◌, length, flat_map, All, FitsSigned}
use Rattle.std.specs.Int.{w32}
use Rattle.std.specs.Fmt.{signed_decimal}
use Rattle.burr_runs.specs.declared.input.AnswersFault.{AnswersFault}
use Rattle.burr_runs.specs.declared.input.AnswersFault.TheVariants.{Line, Memory}

-- the line of an answer
abbrev pub answer_line : ℤ → List ℕ
answer_line answer = signed_decimal answer ++ 10 ∷ []

-- the text of answers: a line for each
abbrev pub answers_text : List ℤ → List ℕ
answers_text answers = flat_map answer_line answers

-- no answer's line begins the text
abbrev pub BeginsWithNone : List ℕ → Type 0
BeginsWithNone text =
    (answer : ℤ) (after : List ℕ) → FitsSigned w32 answer → text ≢ answer_line answer ++ after

-- the text goes on after the lines of these answers, and what begins there is no answer's line
pub record GoesWrong (text : List ℕ) (answers : List ℤ) (rest : List ℕ) : Type 0 where
  pub each : All (FitsSigned w32) answers
  pub parts : text ≡ answers_text answers ++ rest
  pub more : rest ≢ []
  pub none : BeginsWithNone rest

-- the first faulty line, counted from 1
abbrev pub IsFirstFaultyLine : List ℕ → ℕ → Type 0
IsFirstFaultyLine text line =
    (answers : List ℤ) × (rest : List ℕ) × GoesWrong text answers rest
    × (line ≡ length answers + 1)

-- a fault tells the first faulty line; want of memory tells nothing of the text
abbrev pub IsAnswersFault : List ℕ → AnswersFault → Type 0
IsAnswersFault text (Line line) = IsFirstFaultyLine text line
IsAnswersFault text Memory = Unit {0}

-- answers of one text are one
abbrev pub OneAnswers : Type 0
OneAnswers =
    (answers others : List ℤ) → All (FitsSigned w32) answers → All (FitsSigned w32) others
    → answers_text answers ≡ answers_text others → answers ≡ others

-- a text of answers has no faulty line
abbrev pub NoFaultyLine : Type 0
NoFaultyLine =
    (answers : List ℤ) (line : ℕ) → All (FitsSigned w32) answers
    → ¬ IsFirstFaultyLine (answers_text answers) line

-- a text has one first faulty line at most
abbrev pub OneFaultyLine : Type 0
OneFaultyLine =
    (text : List ℕ) (line other : ℕ) → IsFirstFaultyLine text line → IsFirstFaultyLine text other
    → line ≡ other
