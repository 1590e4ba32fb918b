-- What is promised of the assembler.
use Rattle.std.specs.Prelude.{◌≡◌, ◌⊎◌, ℕ, List, IsTrue}
use Rattle.burr_container.specs.Rules.Plans.{Plan}
use Rattle.burr_container.specs.Rules.Fitting.{is_fitting}
use Rattle.burr_container.specs.Rules.Spelling.{plan_bytes}
use Rattle.burr_plantext.specs.Rules.Texts.{StandsFor}
use Rattle.burr_plantext.specs.Rules.Listing.{IsListing}
use Rattle.burr_asm.specs.declared.fault.AsmFault.{AsmFault}
use Rattle.burr_asm.specs.declared.fault.AsmFault.TheVariants.{Memory}
use Rattle.burr_asm.specs.Rules.Faults.{IsFirstFault}

-- The bytes are those of the plan that the text stands for.
abbrev pub IsAssembled : List ℕ → List ℕ → Type 0
IsAssembled text bytes = (p : Plan) × StandsFor text p × (bytes ≡ plan_bytes p)

-- Memory is wanting, or this is the text's first fault.
abbrev pub IsTextFault : List ℕ → AsmFault → Type 0
IsTextFault text e = (e ≡ Memory) ⊎ IsFirstFault text e

-- Where the listing of a plan within the format is assembled, the bytes are those of that plan.
abbrev pub ListingAssembles : Type 0
ListingAssembles =
    (plan : Plan) (text bytes : List ℕ) → IsTrue (is_fitting plan) → IsListing plan text
    → IsAssembled text bytes → bytes ≡ plan_bytes plan
