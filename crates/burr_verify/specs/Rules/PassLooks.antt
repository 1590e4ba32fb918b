-- The looks of a pass and of the whole judgement of a plan.
use Rattle.std.specs.Prelude.{◌≡◌, ◌⊎◌, ℕ, suc, ◌+◌, List, [], ◌∷◌, length}
use Rattle.burr_voxels.specs.declared.cell.Cell.{Cell}
use Rattle.burr_frames.specs.Rules.FramedPlans.{FramedProcedure, FramedPlan}
use Rattle.burr_verify.specs.Rules.Judging.{judging_before, passes}
use Rattle.burr_verify.specs.Rules.Pass.{Judgement, Passed, Refuses, Stage, pass_start, Pass, resumes, arrives, goes_on, breaks, falls_through, stops}
use Rattle.burr_verify.specs.Rules.Judging.{nothing}
use Rattle.burr_frames.specs.Rules.Looks.{RuleLooks}

-- The looks of a pass: those of the rules of the instructions that it comes to.
abbrev pub LooksOf : {homes : List (List Cell)} {plan : FramedPlan} {n : ℕ} {here : FramedProcedure}
    {stage : Stage} {j : Judgement} → Pass homes plan n here stage j → ℕ → Type 0
LooksOf (resumes last pc f j more labelled rest) looks = LooksOf rest looks
LooksOf (arrives last pc s f j more labelled arrived rest) looks = LooksOf rest looks
LooksOf (goes_on last pc s j more none rest) looks = LooksOf rest looks
LooksOf {homes} (breaks pc s i b stands bare rule) looks = RuleLooks homes s i looks
LooksOf {homes} (falls_through pc s t i j stands bare rule rest) looks =
    (own after : ℕ) × RuleLooks homes s i own × LooksOf rest after × (looks ≡ own + after)
LooksOf {homes} (stops pc s i j stands bare rule rest) looks =
    (own after : ℕ) × RuleLooks homes s i own × LooksOf rest after × (looks ≡ own + after)
LooksOf pass looks = looks ≡ 0

-- from this stage on a pass comes to this judgement, by this many looks
abbrev pub LookedPass : List (List Cell) → FramedPlan → ℕ → FramedProcedure → Stage → Judgement → ℕ
    → Type 0
LookedPass homes plan n here stage j looks =
    (pass : Pass homes plan n here stage j) × LooksOf pass looks

-- what a judge says, and by how many looks
abbrev pub Looked : Type 1
Looked = Judgement → ℕ → Type 0

-- what follows a judgement: the rest, or the refusal and no look more
abbrev pub look_on : Judgement → Looked → Looked
look_on Passed rest = rest
look_on (Refuses refusal) rest = λ answer looks. (answer ≡ Refuses refusal) × (looks ≡ 0)

-- the passes over these procedures, numbered from n, with their looks
abbrev pub looking_code : List (List Cell) → FramedPlan → ℕ → List FramedProcedure → Looked
looking_code homes plan n [] answer looks = (answer ≡ Passed) × (looks ≡ 0)
looking_code homes plan n (here ∷ procedures) answer looks =
    (j : Judgement) × (own after : ℕ) × LookedPass homes plan n here pass_start j own
    × look_on j (looking_code homes plan (suc n) procedures) answer after
    × (looks ≡ own + after)

-- The whole judgement of a plan with its looks: before the code no look is taken.
abbrev pub Looking : List ℕ → List (List Cell) → FramedPlan → Looked
Looking name homes plan answer looks =
    (judging_before name homes plan nothing answer × (looks ≡ 0))
    ⊎ (judging_before name homes plan passes Passed
    × looking_code homes plan 0 plan.procedures answer looks)

-- how many bytes of code the procedures have
abbrev pub code_size : List FramedProcedure → ℕ
code_size [] = 0
code_size (here ∷ procedures) = length here.code + code_size procedures
