-- How `explain` ends: what is printed of a word or a line, and when nothing is explained.
use Rattle.std.specs.Prelude.{◌≡◌, ℕ, List, Contains}
use Rattle.burr_explain.specs.declared.explanation.Explanation.{Explanation}
use Rattle.burr_explain.specs.Asked.{IsKeyOf, IsAskedBy, known_keys}
use Rattle.burr_explain.specs.Layout.{explanation_text}
use Rattle.burr_judge.specs.declared.status.Status.TheVariants.{Done}
use Rattle.burr_judge.specs.Faults.{not_explained}
use Rattle.burr_judge.specs.PlanEnds.{Ends}

-- the line's key is one of those that are explained, and it is this explanation's
abbrev pub IsExplainedBy : List ℕ → Explanation → Type 0
IsExplainedBy line e =
    (key : List ℕ) → IsKeyOf line key → Contains known_keys key × IsAskedBy key e

-- the line's key is not one of those that are explained
abbrev pub IsUnexplained : List ℕ → Type 0
IsUnexplained line = (key : List ℕ) → IsKeyOf line key → ¬ Contains known_keys key

-- an explanation that the line asks for is printed
abbrev pub ExplainEnds : List ℕ → Ends
ExplainEnds line output status =
    (status ≡ Done)
    × ((e : Explanation) × IsExplainedBy line e × (output ≡ explanation_text e))

-- nothing is explained under the line, as this line reports
abbrev pub CannotExplain : List ℕ → List ℕ → Type 0
CannotExplain line told = IsUnexplained line × (told ≡ not_explained line)
