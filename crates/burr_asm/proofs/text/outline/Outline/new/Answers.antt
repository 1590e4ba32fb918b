use Rattle.std.proofs.Common.{subst}
use Rattle.burr_asm.specs.Views.LineWords.{plan_words}
use Rattle.burr_asm.specs.Views.Numbers.{IsWithin}
use Rattle.burr_asm.proofs.HeadRefusals.{pieces_refused, budget_refused}
use Rattle.burr_asm.proofs.text.outline.Outline.new.Goals as goal
use Rattle.burr_asm.proofs.text.outline.Outline.new.Goals.{in_default-via-in-Some+in_default, in_default-via-in_default}

pub returns-in_default : goal.returns-in_default
returns-in_default c = elim c.in_default.branch [
  | in_default-via-in-Some+in_default w ↦ budget_refused (plan_words c.args.words) c.args.line w.in_default.ensures'
  | in_default-via-in_default w ↦ pieces_refused (plan_words c.args.words) c.args.line
      (subst (IsWithin 2 32 c.args.words.pieces.bytes.now) w.in_default.is-0 c.within.ensures.value)
]
