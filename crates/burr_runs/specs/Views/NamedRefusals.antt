-- The line of a refused plan whose pieces' names are kept.
use Rattle.std.specs.Prelude.{ℕ, List, [], ◌∷◌, ◌++◌, Option, None, Some, codes}
use Rattle.arrayvec.specs.ArrayVec.{ArrayVec}
use Rattle.burr_runs.specs.Rules.Verdicts.{place_part, point_part}
use Rattle.burr_runs.specs.declared.plan_refusal.PlanRefusal.{PlanRefusal}

-- the names of two pieces, if they are kept
abbrev pub names_part : Option (ArrayVec ℕ × ArrayVec ℕ) → List ℕ
names_part None = []
names_part (Some pair) = codes " pieces " ++ (pair.0.items ++ (codes " " ++ pair.1.items))

-- the line of a refused plan, with these names
abbrev pub named_refusal : PlanRefusal → List ℕ
named_refusal r =
    place_part r.refusal ++ (names_part r.names ++ (point_part r.refusal.point ++ 10 ∷ []))
