-- How a run is opened that its caller keeps: what is printed, with which status, and which run it is.
use Rattle.std.specs.Prelude.{ℕ, List}
use Rattle.burr_assembly.specs.Rules.Text.{Assembly, IsText}
use Rattle.burr_container.specs.Views.Containers.{ContainerView}
use Rattle.burr_verify.specs.Rules.Accepting.{Judged, judged, IsAccepted}
use Rattle.burr_judge.specs.declared.status.Status.TheVariants.{Refused}
use Rattle.burr_judge.specs.Inputs.{IsRead}
use Rattle.burr_judge.specs.PlanEnds.{Ends, JudgedEnds, RefusedEnds, ContainerEnds, TextEnds, BytesBreak, JudgedBreaks, TextBreaks}

-- an assembly's text, a container or its plan is refused; or the plan is accepted, and it ends so
abbrev pub OpenEnds : Ends → List ℕ → List ℕ → Ends
OpenEnds AreEnds text bytes =
    TextEnds text (λ a. ContainerEnds bytes (λ kept. JudgedEnds kept a (λ _. AreEnds)))

-- the plan is accepted, and it breaks off so
abbrev pub OpenBreaks : (List ℕ → Type 0) → List ℕ → List ℕ → List ℕ → Type 0
OpenBreaks Breaks text bytes =
    TextBreaks text (λ a. BytesBreak bytes (λ kept. JudgedBreaks kept a (λ _. Breaks)))

-- this text refuses the assembly's text, the container, or its plan
abbrev pub RefusesToOpen : List ℕ → List ℕ → List ℕ → Type 0
RefusesToOpen text bytes line =
    TextEnds text (λ a. ContainerEnds bytes (λ kept. RefusedEnds kept a)) line Refused

-- the begin of a run of an accepted plan
abbrev pub Beginnings : Type 0 → Type 1
Beginnings Kept = Judged → Kept → Type 0

-- the container's plan is accepted for the text's assembly, and this run of it begins
abbrev pub IsOpened : {Kept : Type 0} → Beginnings Kept → List ℕ → List ℕ → Kept → Type 0
IsOpened Begins text bytes run =
    (a : Assembly) × IsText text a × ((kept : ContainerView) × IsRead bytes kept
    × (IsAccepted (judged kept a) × Begins (judged kept a) run))
