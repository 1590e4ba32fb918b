-- From the judgement of a text to what is promised of the assembler.
use Rattle.std.proofs.Common.{◌≡◌, inl, inr, ℕ, List, refl, ap, ◌∙◌}
use Rattle.std.specs.Prelude.{Ok}
use Rattle.burr_container.specs.Rules.Plans.{Plan}
use Rattle.burr_container.specs.Rules.Spelling.{plan_bytes}
use Rattle.burr_plantext.specs.Rules.Meaning.{plan_of}
use Rattle.burr_plantext.specs.Rules.Sources.{PlanSource}
use Rattle.burr_plantext.specs.Rules.Texts.{lines_read, line_number, StandsFor}
use Rattle.burr_plantext.specs.Rules.Faults.{judgement}
use Rattle.burr_plantext.specs.Laws.PlanTexts.{JudgedSource, OnePlan, ListingStands}
use Rattle.burr_asm.specs.declared.fault.AsmFault.{AsmFault}
use Rattle.burr_asm.specs.Rules.Assembling.{IsTextFault, ListingAssembles}
use Rattle.burr_asm.specs.Views.Fronts.{IsFaultOf}

-- the text stands for the plan that was read
pub stands : JudgedSource → (text : List ℕ) (plan : Plan) (s : PlanSource) → judgement (lines_read text) ≡ Ok s → plan ≡ plan_of s → StandsFor text plan
stands law text plan s judged is = (s, law text s judged, is)

pub fault_told : (text : List ℕ) (e : AsmFault) → IsFaultOf (line_number text) (judgement (lines_read text)) e → IsTextFault text e
fault_told text e (inl memory) = inl memory
fault_told text e (inr (at, judged, is)) = inr (at.0, line_number text at.1, record { place = at.1; found = judged; number = refl }, is)

-- a listing is assembled to the plan that is listed
pub listing_assembles : OnePlan → ListingStands → ListingAssembles
listing_assembles one stands plan text bytes fits listing (other, stands_for, is) = is ∙ ap plan_bytes (one text other plan stands_for (stands plan text fits listing))
