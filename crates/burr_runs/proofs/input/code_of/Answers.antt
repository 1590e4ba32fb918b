use Rattle.std.proofs.Common.{arith, inl, inr, sym}
use Rattle.std.proofs.lemmas.Bool.Decides.{nat_tests}
use Rattle.burr_runs.proofs.Inputs.Digits.{IsCodeLine-decoded, IsDigits-line, decodes_line}
use Rattle.burr_runs.proofs.input.code_of.Goals as goal
use Rattle.burr_runs.proofs.input.code_of.Goals.{then-is_empty-via-then-is_empty, then-is_empty-via-else-is_empty+then-digits, then-is_empty-via-else-is_empty+else-digits+then-not-are_digits}

pub returns-then-is_empty : goal.returns-then-is_empty
returns-then-is_empty c code is =
    let are = IsDigits-line _ _ code c.in-Some.ensures.cases.1 is in
    let some = are.some in
    let short = are.short in
    let each = are.each in
    elim c.then-is_empty.branch [
      | then-is_empty-via-then-is_empty w ↦ let none = w.if-is_empty.ensures in grind (arith, nat_tests, none)
      | then-is_empty-via-else-is_empty+then-digits w ↦ omega arith
      | then-is_empty-via-else-is_empty+else-digits+then-not-are_digits w ↦ let other = w.if-not-are_digits.ensures in grind (arith, nat_tests, each, other)
    ]

pub returns-in-Ok : goal.returns-in-Ok
returns-in-Ok c =
    let begun = c.in-Some.ensures.cases in
    IsCodeLine-decoded _ _ _ begun.0 begun.1 (record { some = let some = c.if-is_empty.ensures in grind (arith, nat_tests, some); short = omega arith; each = sym c.if-not-are_digits.ensures }) c.in-Ok.ensures.ok

pub returns-in_default-fault : goal.returns-in_default-fault
returns-in_default-fault c code = elim c.in-Err.ensures.err [
  | inl memory ↦ absurd (c.in_default-fault.not-OutOfMemory memory)
  | inr fails ↦ decodes_line _ _ code c.in-Err.fault c.in-Some.ensures.cases.1 fails
]
