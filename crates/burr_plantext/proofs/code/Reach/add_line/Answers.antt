-- The line is that of the instruction, or of the first byte.
use Rattle.burr_code.specs.Instruction.{Instruction, Begins}
use Rattle.burr_code.specs.Meaning.{meaning}
use Rattle.burr_plantext.specs.Rules.Listing.{MayBeListed}
use Rattle.burr_plantext.proofs.CodeSteps.{instruction_added, byte_added, none_first}
use Rattle.burr_plantext.proofs.code.Reach.add_line.Goals as goal
use Rattle.burr_plantext.proofs.code.Reach.add_line.Goals.{in_default-via-in-Some+else-has_names_of, in_default-via-in_default}

pub returns-in_ok-end_line-in-Some : goal.returns-in_ok-end_line-in-Some
returns-in_ok-end_line-in-Some c =
    let (stands, long) = c.in-Some.ensures.stands in
    instruction_added c.args.self.labels c.args.self.procedures c.args.code.now c.args.text.now.items _ _ c.in-Some.size
    (meaning c.in-Some.instr) stands c.if-has_names_of.ensures long c.in_ok-add_words-in-Some.ensures c.in_ok-end_line-in-Some.ensures

pub returns-in_ok-add_byte-in_default : goal.returns-in_ok-add_byte-in_default
returns-in_ok-add_byte-in_default c =
    let labels = c.args.self.labels in
    let procedures = c.args.self.procedures in
    let none : (i : Instruction) → MayBeListed labels procedures i → ¬ Begins c.args.code.now i =
    (elim c.in_default.branch [
      | in_default-via-in-Some+else-has_names_of w ↦
          none_first labels procedures c.args.code.now (meaning w.in-Some.instr) w.in-Some.ensures.stands.0 w.if-has_names_of.ensures
      | in_default-via-in_default w ↦
          λ i may begins. w.in_default.ensures.stands i (record { in_range = may.in_range; begins = begins })
    ]) in
    byte_added labels procedures c.args.code.now c.args.text.now.items c.add_byte.new.text.items c.requires none c.in_ok-add_byte-in_default.ensures
