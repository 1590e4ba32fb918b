-- Why a plan is refused.
use Rattle.std.specs.Prelude.{ℕ, None}
use Rattle.burr_frames.specs.declared.rule.Rule.{Rule}
use Rattle.burr_frames.specs.declared.rule.Rule.TheVariants as rules
use Rattle.burr_verify.specs.declared.refusal.Refusal.{Refusal}

-- by a rule at a place, with no pieces and no point
abbrev pub plain_refusal : ℕ → ℕ → Rule → Refusal
plain_refusal proc pc rule =
    record { proc = proc; pc = pc; rule = rule; pieces = None; point = None }

-- of a plan for another assembly
abbrev pub another_assembly : Refusal
another_assembly = plain_refusal 0 0 rules.OtherAssembly
