-- How an explanation is written.
use Rattle.std.specs.Prelude.{ℕ, List, [], ◌∷◌, ◌++◌, codes}
use Rattle.burr_text.specs.Words.{text_line}
use Rattle.burr_explain.specs.declared.explanation.Subject.{Subject}
use Rattle.burr_explain.specs.declared.explanation.Subject.TheVariants.{Refusal, Trap, Line}
use Rattle.burr_explain.specs.declared.explanation.Explanation.{Explanation}

-- the first line: what the program prints of it
abbrev pub heading : Subject → List ℕ
heading (Refusal word) = text_line (codes "refused" ∷ word.now ∷ [])
heading (Trap number name) = text_line (codes "trap" ∷ number.now ∷ name.now ∷ [])
heading (Line word) = text_line (word.now ∷ [])

-- a text after these bytes, and a line feed
abbrev pub paragraph : List ℕ → List ℕ → List ℕ
paragraph before text = before ++ (text ++ 10 ∷ [])

-- the same, where there is a text at all
abbrev pub paragraph_if_any : List ℕ → List ℕ → List ℕ
paragraph_if_any before [] = []
paragraph_if_any before (byte ∷ bytes) = paragraph before (byte ∷ bytes)

-- an explanation: its heading, what it means, what mostly causes it, what to do, and an example
abbrev pub explanation_text : Explanation → List ℕ
explanation_text e =
    heading e.subject ++ (paragraph (codes "\n") e.meaning.now
    ++ (paragraph_if_any (codes "\nUsual cause: ") e.cause.now
    ++ (paragraph_if_any (codes "\nWhat to do: ") e.remedy.now
    ++ paragraph (codes "\nExample: ") e.example.now)))
