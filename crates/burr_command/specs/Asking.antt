-- Which words ask for which job. The words of a command line are the program's name, the command's
-- name and what stands after it: operands, and perhaps a flag and `--`.
use Rattle.std.specs.Prelude.{◌≡◌, ◌<◌, ◌∷◌, ◌&&◌, ◌||◌, ◌++◌, ℕ, List, [], length, Bool, not, if◌then◌else◌, bytes_eq, codes, string_bytes, ⊤}
use Rattle.std.specs.List.{filter, join_by, list_any}
use Rattle.burr_command.specs.declared.job.Job.{Job}
use Rattle.burr_command.specs.declared.job.Job.TheVariants as jobs
use Rattle.burr_command.specs.declared.job.Request.{Request}
use Rattle.burr_command.specs.declared.job.Request.TheVariants as requests

-- the command's name and a word that is its flag
abbrev pub is_flag : List ℕ → List ℕ → Bool
is_flag name word =
    (bytes_eq name (codes "list") && bytes_eq word (codes "--places"))
    || (bytes_eq name (codes "judge") && bytes_eq word (codes "--null"))

-- the words before the first `--`, and those after it
abbrev pub before_hyphens : List (List ℕ) → List (List ℕ)
before_hyphens [] = []
before_hyphens (word ∷ rest) = if bytes_eq word (codes "--") then [] else word ∷ before_hyphens rest

abbrev pub after_hyphens : List (List ℕ) → List (List ℕ)
after_hyphens [] = []
after_hyphens (word ∷ rest) = if bytes_eq word (codes "--") then rest else after_hyphens rest

-- the operands: the words before the first `--` that are no flag, and all words after it
abbrev pub operands : List ℕ → List (List ℕ) → List (List ℕ)
operands name words =
    filter (λ word. not (is_flag name word)) (before_hyphens words) ++ after_hyphens words

-- whether the flag is one of the words before the first `--`
abbrev pub is_flagged : List ℕ → List (List ℕ) → Bool
is_flagged name words = list_any (is_flag name) (before_hyphens words)

-- the words to explain: all after the command's name, but a `--` before them
abbrev pub explained : List (List ℕ) → List (List ℕ)
explained [] = []
explained (word ∷ rest) = if bytes_eq word (codes "--") then rest else word ∷ rest

-- The command's name and the words after it ask for a job.
abbrev pub AsksFor : List ℕ → List (List ℕ) → Job → Type 0
AsksFor name rest (jobs.Cells assembly) =
    (name ≡ codes "cells") × (operands name rest ≡ assembly.now ∷ [])
AsksFor name rest (jobs.Assemble text out) =
    (name ≡ codes "asm") × (operands name rest ≡ text.now ∷ out.now ∷ [])
AsksFor name rest (jobs.List plan places) =
    (name ≡ codes "list") × (operands name rest ≡ plan.now ∷ []) × (is_flagged name rest ≡ places)
AsksFor name rest (jobs.Upgrade plan out) =
    (name ≡ codes "upgrade") × (operands name rest ≡ plan.now ∷ out.now ∷ [])
AsksFor name rest (jobs.Check assembly plan) =
    (name ≡ codes "check") × (operands name rest ≡ assembly.now ∷ plan.now ∷ [])
AsksFor name rest (jobs.Judge null) =
    (name ≡ codes "judge") × (operands name rest ≡ []) × (is_flagged name rest ≡ null)
AsksFor name rest (jobs.Run assembly plan) =
    (name ≡ codes "run") × (operands name rest ≡ assembly.now ∷ plan.now ∷ [])
AsksFor name rest (jobs.Try assembly plan) =
    (name ≡ codes "try") × (operands name rest ≡ assembly.now ∷ plan.now ∷ [])
AsksFor name rest (jobs.Step assembly plan) =
    (name ≡ codes "step") × (operands name rest ≡ assembly.now ∷ plan.now ∷ [])
AsksFor name rest (jobs.Drive assembly plan) =
    (name ≡ codes "drive") × (operands name rest ≡ assembly.now ∷ plan.now ∷ [])
AsksFor name rest (jobs.Why assembly text) =
    (name ≡ codes "why") × (operands name rest ≡ assembly.now ∷ text.now ∷ [])
AsksFor name rest (jobs.Trace assembly text) =
    (name ≡ codes "trace") × (operands name rest ≡ assembly.now ∷ text.now ∷ [])
AsksFor name rest (jobs.Frames assembly text out) =
    (name ≡ codes "frames") × (operands name rest ≡ assembly.now ∷ text.now ∷ out.now ∷ [])
AsksFor name rest (jobs.PlanSheet assembly sheet out) =
    (name ≡ codes "plan") × (operands name rest ≡ assembly.now ∷ sheet.now ∷ out.now ∷ [])
AsksFor name rest (jobs.Explain line) =
    (name ≡ codes "explain") × (0 < length (explained rest))
    × (string_bytes line ≡ join_by (λ word. word) (codes " ") (explained rest))

-- Words ask for a job.
abbrev pub IsAsked : List (List ℕ) → Job → Type 0
IsAsked words job =
    (program name : List ℕ) × (rest : List (List ℕ)) × (words ≡ program ∷ name ∷ rest)
    × AsksFor name rest job

-- Words are answered by the job that they ask for, or by any reply.
abbrev pub IsAnswer : List (List ℕ) → Request → Type 0
IsAnswer words (requests.Job job) = IsAsked words job
IsAnswer words (requests.Reply reply) = ⊤
