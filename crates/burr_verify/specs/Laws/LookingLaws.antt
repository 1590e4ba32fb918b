-- Laws of the looks of passes and of judgements.
use Rattle.std.specs.Prelude.{◌≡◌, ◌≤◌, ◌*◌, ℕ, List, length}
use Rattle.burr_voxels.specs.declared.cell.Cell.{Cell}
use Rattle.burr_forms.specs.declared.limits.TheConstants.{MOST_POINTS}
use Rattle.burr_frames.specs.Rules.FramedPlans.{FramedProcedure, FramedPlan}
use Rattle.burr_verify.specs.Rules.Judging.{Judging}
use Rattle.burr_verify.specs.Rules.Pass.{Judgement, Stage, Pass, IsLaidOut, AllLaidOut}
use Rattle.burr_verify.specs.Rules.PassLooks.{LooksOf, Looking, code_size}

-- each pass has a number of looks
abbrev pub SomePassLooks : Type 0
SomePassLooks =
    (homes : List (List Cell)) (plan : FramedPlan) (n : ℕ) (here : FramedProcedure) (stage : Stage)
    (j : Judgement) (pass : Pass homes plan n here stage j) → (looks : ℕ) × LooksOf pass looks

-- and passes from one stage on have the same
abbrev pub OnePassLooks : Type 0
OnePassLooks =
    (homes : List (List Cell)) (plan : FramedPlan) (n : ℕ) (here : FramedProcedure) (stage : Stage)
    (j k : Judgement) (pass : Pass homes plan n here stage j)
    (other : Pass homes plan n here stage k) (looks others : ℕ) → IsLaidOut here
    → LooksOf pass looks → LooksOf other others → looks ≡ others

-- a plan has a judgement with its looks
abbrev pub SomeLooking : Type 0
SomeLooking =
    (name : List ℕ) (homes : List (List Cell)) (plan : FramedPlan)
    → (j : Judgement) × (looks : ℕ) × Looking name homes plan j looks

-- and one at most
abbrev pub OneLooking : Type 0
OneLooking =
    (name : List ℕ) (homes : List (List Cell)) (plan : FramedPlan) (j k : Judgement)
    (looks others : ℕ) → AllLaidOut plan → Looking name homes plan j looks
    → Looking name homes plan k others → (j ≡ k) × (looks ≡ others)

-- it is the plan's judgement
abbrev pub LookingIsJudging : Type 0
LookingIsJudging =
    (name : List ℕ) (homes : List (List Cell)) (plan : FramedPlan) (j : Judgement) (looks : ℕ)
    → Looking name homes plan j looks → Judging name homes plan j

-- Of 32 pieces at most there are at most 4,096 times 256 looks for each byte of code.
abbrev pub FewLooks : Type 0
FewLooks =
    (name : List ℕ) (homes : List (List Cell)) (plan : FramedPlan) (j : Judgement) (looks : ℕ)
    → length homes ≤ 32 → Looking name homes plan j looks
    → looks ≤ code_size plan.procedures * (MOST_POINTS * 256)
