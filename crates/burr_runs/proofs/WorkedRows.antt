-- Worked rows of hexadecimal digits and of refusals, computed of the definitions.
use Rattle.std.specs.Prelude.{◌≡◌, [], ◌∷◌, codes, refl}
use Rattle.std.specs.Fmt.{digits}
use Rattle.burr_assembly.specs.declared.fault.AssemblyFault.TheVariants.{A4, A8}
use Rattle.burr_runs.specs.Rules.Input.{hex}
use Rattle.burr_assembly.specs.Rules.Text.{Assembly}
use Rattle.burr_container.specs.declared.fault.ContainerFault.TheVariants.{C1}
use Rattle.burr_verify.specs.Views.Refusals.{another_assembly}
use Rattle.burr_runs.specs.Rules.Refusals.{assembly_refusal, container_refusal, answers_refusal}
use Rattle.burr_runs.specs.Rules.Verdicts.{plan_refusal}

pub digits_of_bytes : hex (0x10 ∷ 0x00 ∷ 0xaf ∷ []) ≡ codes "1000af"
digits_of_bytes = refl

pub refused : assembly_refusal [] (A4 7) ≡ codes "refused A4 line 7\n"
unfolding digits
refused = refl

-- the names of two pieces that clash are found in the text
pub refused_names : assembly_refusal (codes "assembly duo\npiece A cube +x+y+z 0 0 0\npiece B cube +x+y+z 0 0 0\n") (A8 7 0 1) ≡ codes "refused A8 line 7 A B\n"
unfolding digits
refused_names = refl

pub refused_container : container_refusal (C1 12) ≡ codes "refused C1 at 12\n"
unfolding digits
refused_container = refl

pub refused_answers : answers_refusal 2 ≡ codes "refused answers line 2\n"
unfolding digits
refused_answers = refl

-- of a plan for another assembly, whichever it is
pub refused_misfit : (a : Assembly) → plan_refusal a another_assembly ≡ codes "refused V1 proc 0 pc 0\n"
unfolding digits
refused_misfit a = refl
