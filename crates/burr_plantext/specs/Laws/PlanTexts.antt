-- What holds of all plan texts.
use Rattle.std.specs.Prelude.{◌≡◌, ◌⊎◌, ◌≤◌, ℕ, List, length, IsTrue, Ok}
use Rattle.burr_container.specs.Rules.Plans.{Plan}
use Rattle.burr_plantext.specs.Rules.Written.{pieces}
use Rattle.burr_plantext.specs.Rules.Sources.{PlanSource}
use Rattle.burr_plantext.specs.Rules.Texts.{lines_read, IsTextOf, StandsFor}
use Rattle.burr_plantext.specs.Rules.Checks.{FaultKind}
use Rattle.burr_plantext.specs.Rules.Faults.{HasFault, judgement}
use Rattle.burr_container.specs.Rules.Fitting.{is_fitting}
use Rattle.burr_plantext.specs.Rules.Listing.{IsListing}

-- a text stands for one plan at most
abbrev pub OnePlan : Type 0
OnePlan = (text : List ℕ) (p q : Plan) → StandsFor text p → StandsFor text q → p ≡ q

-- a text that is judged to be a source is one of that source
abbrev pub JudgedSource : Type 0
JudgedSource =
    (text : List ℕ) (s : PlanSource) → judgement (lines_read text) ≡ Ok s → IsTextOf text s

-- each text stands for a plan or has a fault
abbrev pub FaultOrPlan : Type 0
FaultOrPlan =
    (text : List ℕ) → ((p : Plan) × StandsFor text p)
    ⊎ ((kind : FaultKind) × (line : ℕ) × HasFault text kind line)

-- never both
abbrev pub NoFaultOfPlan : Type 0
NoFaultOfPlan =
    (text : List ℕ) (p : Plan) (kind : FaultKind) (line : ℕ)
    → StandsFor text p → ¬ HasFault text kind line

-- and one fault alone, at one line
abbrev pub OneFault : Type 0
OneFault =
    (text : List ℕ) (kind other : FaultKind) (line next : ℕ)
    → HasFault text kind line → HasFault text other next → (kind ≡ other) × (line ≡ next)

-- it is at a line of the text, or at the one after the last
abbrev pub FaultIsInText : Type 0
FaultIsInText =
    (text : List ℕ) (kind : FaultKind) (line : ℕ) → HasFault text kind line
    → (1 ≤ line) × (line ≤ length (pieces 10 text))

-- each plan has a listing
abbrev pub SomeListing : Type 0
SomeListing = (plan : Plan) → (text : List ℕ) × IsListing plan text

-- and one alone
abbrev pub OneListing : Type 0
OneListing = (plan : Plan) (a b : List ℕ) → IsListing plan a → IsListing plan b → a ≡ b

-- the listing of a plan within the format stands for this plan
abbrev pub ListingStands : Type 0
ListingStands =
    (plan : Plan) (text : List ℕ) → IsTrue (is_fitting plan) → IsListing plan text
    → StandsFor text plan

-- the plan that a text stands for is within the format
abbrev pub PlanFits : Type 0
PlanFits = (text : List ℕ) (plan : Plan) → StandsFor text plan → IsTrue (is_fitting plan)
