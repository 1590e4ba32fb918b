-- The bytes of least plans and of an exit frame, and first faults, computed of the definitions.
use Rattle.std.proofs.Common.{◌≡◌, true, false, IsTrue, [], ◌∷◌, None, codes, inl, inr, refl, arith}
use Rattle.std.specs.Prelude.{replicate, pos}
use Rattle.std.proofs.lemmas.Bool.{false≢true}
use Rattle.burr_code.specs.declared.placement.Placement.TheVariants.{Apart, On}
use Rattle.burr_forms.specs.Rules.Forms.{Form}
use Rattle.burr_container.specs.declared.fault.ContainerFault.{ContainerFault}
use Rattle.burr_container.specs.declared.fault.ContainerFault.TheVariants.{C1, C2, C3, C4}
use Rattle.burr_container.specs.Rules.Plans.{Frame, ExitFrame, PlanProcedure, Plan}
use Rattle.burr_container.specs.Rules.Spelling.{exit_frame_bytes, plan_bytes}
use Rattle.burr_container.specs.Rules.Fitting.{is_version, is_exit_frame, is_fitting}
use Rattle.burr_container.specs.Rules.Faults.{number, result_count, ContainerFails}

zero_form : Form
zero_form = record { constant = pos 0; coefs = replicate 8 (pos 0) }

bare_frame : Frame
bare_frame = record {
  tray = 0;
  grip = 0;
  slots = replicate 8 None;
  guards = [];
  stack = [];
  cost = zero_form;
  places = Apart ∷ Apart ∷ [];
}

only_halt : PlanProcedure
only_halt =
    record { parameters = 0; results = 0; exit = None; labels = (0, bare_frame) ∷ []; code = 0 ∷ [] }

-- `halt`, with two pieces that are apart
least_plan : Plan
least_plan = record {
  version = 1;
  name = codes "a";
  pieces = 2;
  budget = 1;
  procedures = only_halt ∷ [];
}

least_plan_fits : IsTrue (is_fitting least_plan)
unfolding zero_form bare_frame only_halt least_plan
least_plan_fits = refl

least_plan_spelled : plan_bytes least_plan
    ≡ 0x42 ∷ 0x50 ∷ 0x4c ∷ 0x4e ∷ 0 ∷ 1 ∷ 0 ∷ 0 ∷ 0 ∷ 1 ∷ 2 ∷ 1 ∷ 0x61 ∷ 1
    ∷ 0 ∷ 0 ∷ 1 ∷ 0 ∷ 0 ∷ 0 ∷ 0 ∷ 0 ∷ 0 ∷ 0 ∷ 0 ∷ 0 ∷ 0 ∷ 0 ∷ 0 ∷ 0 ∷ 0 ∷ 255 ∷ 255 ∷ 0 ∷ 1 ∷ 0 ∷ []
unfolding zero_form bare_frame only_halt least_plan
least_plan_spelled = refl

no_bytes : ContainerFails 0 [] (C1 0)
no_bytes = inl (inl (λ long. omega (arith, long), refl))

other_letters : ContainerFails 0 (codes "BPLM") (C2 0)
other_letters = inl (inr (omega arith, inl (λ same. false≢true same, refl)))

-- Version 2

-- the same plan, in version 2
second_plan : Plan
second_plan = record {
  version = 2;
  name = codes "a";
  pieces = 2;
  budget = 1;
  procedures = only_halt ∷ [];
}

second_plan_fits : IsTrue (is_fitting second_plan)
unfolding zero_form bare_frame only_halt second_plan
second_plan_fits = refl

-- its version is 2, and a byte after the parameters tells that there are no results
second_plan_spelled : plan_bytes second_plan
    ≡ 0x42 ∷ 0x50 ∷ 0x4c ∷ 0x4e ∷ 0 ∷ 2 ∷ 0 ∷ 0 ∷ 0 ∷ 1 ∷ 2 ∷ 1 ∷ 0x61 ∷ 1
    ∷ 0 ∷ 0 ∷ 0 ∷ 1 ∷ 0 ∷ 0 ∷ 0 ∷ 0 ∷ 0 ∷ 0 ∷ 0 ∷ 0 ∷ 0 ∷ 0 ∷ 0 ∷ 0 ∷ 0 ∷ 0 ∷ 255 ∷ 255 ∷ 0 ∷ 1 ∷ 0
    ∷ []
unfolding zero_form bare_frame only_halt second_plan
second_plan_spelled = refl

result_form : Form
result_form = record { constant = pos 0; coefs = pos 1 ∷ replicate 7 (pos 0) }

-- no parameters and one result of 0 to 2, by which the first piece has risen
risen : ExitFrame
risen = record {
  tray = 0;
  grip = 1;
  results = (pos 0, pos 2) ∷ [];
  guards = [];
  places = On 0 (record { x = zero_form; y = zero_form; z = result_form })
      ∷ On 0 (record { x = zero_form; y = zero_form; z = zero_form }) ∷ [];
}

risen_fits : IsTrue (is_exit_frame 2 2 0 1 risen)
unfolding zero_form result_form risen
risen_fits = refl

-- with a guard it fits in version 2 alone
guarded : ExitFrame
guarded = record risen { guards = zero_form ∷ [] }

guarded_fits : IsTrue (is_exit_frame 2 2 0 1 guarded)
unfolding zero_form result_form risen guarded
guarded_fits = refl

guarded_is_of_version_2 : is_exit_frame 1 2 0 1 guarded ≡ false
unfolding zero_form result_form risen guarded
guarded_is_of_version_2 = refl

risen_spelled : exit_frame_bytes 2 0 1 risen
    ≡ 0 ∷ 0 ∷ 0 ∷ 0 ∷ 1 ∷ 0 ∷ 0 ∷ 0 ∷ 2 ∷ 0
    ∷ 0 ∷ 0 ∷ 0 ∷ 0 ∷ 0 ∷ 0 ∷ 0 ∷ 0 ∷ 0 ∷ 0 ∷ 0 ∷ 0 ∷ 0 ∷ 0 ∷ 0 ∷ 0 ∷ 0 ∷ 0 ∷ 1
    ∷ 0 ∷ 0 ∷ 0 ∷ 0 ∷ 0 ∷ 0 ∷ 0 ∷ 0 ∷ 0 ∷ 0 ∷ 0 ∷ 0 ∷ 0 ∷ 0 ∷ 0 ∷ 0 ∷ 0 ∷ 0 ∷ 0 ∷ []
unfolding zero_form result_form risen
risen_spelled = refl

-- a count of results that is too large is judged at its byte
third_result : (result_count 2 false).Fails 7 (3 ∷ []) (C4 7)
third_result = inr (omega arith, inl (λ same. false≢true same, refl))

result_of_main : (result_count 2 true).Fails 7 (1 ∷ []) (C4 7)
result_of_main = inr (omega arith, inl (λ same. false≢true same, refl))

-- version 1 spells no count
no_result_in_version_1 : (fault : ContainerFault) → ¬ (result_count 1 false).Fails 7 [] fault
no_result_in_version_1 fault fails = fails

-- other versions
version_0 : (number 2 C3 is_version).Fails 4 (0 ∷ 0 ∷ []) (C3 4)
version_0 = inr (omega arith, inl (λ same. false≢true same, refl))

version_3 : (number 2 C3 is_version).Fails 4 (0 ∷ 3 ∷ []) (C3 4)
version_3 = inr (omega arith, inl (λ same. false≢true same, refl))
