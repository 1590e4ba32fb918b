-- The lines that are put where a plan is checked.
use Rattle.std.specs.Prelude.{◌≡◌, Bool, true, false, ◌++◌, ℕ, ℤ, List, [], ◌∷◌, Option, Some, None, codes, decimal, length, slice_index_or, if◌then◌else◌, ◌==◌}
use Rattle.arrayvec.specs.ArrayVec.{ArrayVec}
use Rattle.std.specs.Fmt.{signed_decimal}
use Rattle.burr_assembly.specs.Rules.Text.{Assembly}
use Rattle.burr_assembly.specs.Rules.Homes.{homes_of, names_of}
use Rattle.burr_container.specs.Rules.Plans.{Plan}
use Rattle.burr_container.specs.Views.Containers.{ContainerView, IsContainer, HasPlan}
use Rattle.burr_frames.specs.Rules.FramedPlans.{framed_plan}
use Rattle.burr_io.specs.Sink.{SinkView, Takes, FailsWithin}
use Rattle.burr_verify.specs.Rules.Accepting.{judged, IsAccepted, MainCosts}
use Rattle.burr_verify.specs.Rules.Judging.{Judging}
use Rattle.burr_verify.specs.Rules.Pass.{Passed, Refuses}
use Rattle.burr_verify.specs.Rules.PassLooks.{Looking}
use Rattle.burr_verify.specs.Views.Judgements.{failed_check}
use Rattle.burr_frames.specs.Rules.RuleNumbers.{rule_number}
use Rattle.burr_verify.specs.declared.refusal.Refusal.{Refusal}

-- the line of an accepted plan
abbrev pub accepted_line : ℕ → ℕ → ℕ → List ℕ
accepted_line cost budget looks =
    codes "accepted cost " ++ (decimal cost ++ (codes " budget " ++ (decimal budget
    ++ (codes " looks " ++ (decimal looks ++ 10 ∷ [])))))

-- the name of piece p; nothing where there is no such piece
abbrev pub name_or_none : Assembly → ℕ → List ℕ
name_or_none a p = slice_index_or (names_of a) p []

-- the rule and the place
abbrev pub place_part : Refusal → List ℕ
place_part r =
    codes "refused V" ++ (decimal (rule_number r.rule) ++ (codes " proc " ++ (decimal r.proc
    ++ (codes " pc " ++ decimal r.pc))))

-- the names of two pieces, where they are named
abbrev pub pieces_part : Assembly → Option (ℕ × ℕ) → List ℕ
pieces_part a None = []
pieces_part a (Some pair) =
    codes " pieces " ++ (name_or_none a pair.0 ++ (codes " " ++ name_or_none a pair.1))

-- numbers, a space before each
abbrev pub numbers_part : List ℤ → List ℕ
numbers_part [] = []
numbers_part (n ∷ numbers) = codes " " ++ (signed_decimal n ++ numbers_part numbers)

-- a point, where one is named that has a number
abbrev pub point_part : Option (ArrayVec ℤ) → List ℕ
point_part None = []
point_part (Some point) =
    if length point.items == 0 then [] else (codes " point" ++ numbers_part point.items)

-- the line of a refused plan
abbrev pub plan_refusal : Assembly → Refusal → List ℕ
plan_refusal a r =
    place_part r ++ (pieces_part a r.pieces ++ (point_part r.point ++ 10 ∷ []))

-- the container is that of a plan, and this check is the first that fails for the plan
abbrev pub IsRefusedBy : ContainerView → Assembly → Refusal → Type 0
IsRefusedBy kept a r =
    HasPlan kept
    × ((p : Plan) → IsContainer kept p
    → Judging a.name (homes_of a) (framed_plan p) (Refuses (failed_check r)))

-- the container's plan is passed, by this many looks at the pieces
abbrev pub IsPassedBy : ContainerView → Assembly → ℕ → Type 0
IsPassedBy kept a looks =
    (p : Plan) → IsContainer kept p → Looking a.name (homes_of a) (framed_plan p) Passed looks

-- the line that is put for a container's plan: its cost, its budget and its looks where it is accepted,
-- and else the first check that fails
abbrev pub IsVerdictLine : ContainerView → Assembly → Bool → List ℕ → Type 0
IsVerdictLine kept a true line =
    IsAccepted (judged kept a) × (cost looks : ℕ) × MainCosts (judged kept a) cost
    × IsPassedBy kept a looks × (line ≡ accepted_line cost kept.header.budget looks)
IsVerdictLine kept a false line =
    (r : Refusal) × IsRefusedBy kept a r × (line ≡ plan_refusal a r)

-- a sink took the line
abbrev pub PutsVerdict : {S : Type 0} → SinkView S → S → S → ContainerView → Assembly → Bool
    → Type 0
PutsVerdict sink before after kept a is_accepted =
    (line : List ℕ) × IsVerdictLine kept a is_accepted line × Takes sink before after line

-- a sink failed, and had taken a front of the line
abbrev pub FailsInVerdict : {S : Type 0} → SinkView S → S → S → ContainerView → Assembly → Type 0
FailsInVerdict sink before after kept a =
    (is_accepted : Bool) × (line : List ℕ) × IsVerdictLine kept a is_accepted line
    × FailsWithin sink before after line
