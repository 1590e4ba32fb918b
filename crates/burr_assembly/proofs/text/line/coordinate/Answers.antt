-- An integer beyond the reach is no coordinate.
use Rattle.std.proofs.Common.{rules, ◌≡◌, FitsSigned, w32, arith}
use Rattle.std.specs.Fmt.{signed_decimal}
use Rattle.std.proofs.lemmas.Int.{ints}
use Rattle.burr_text.proofs.Common.Integers.{same_integer}
use Rattle.burr_assembly.proofs.Numbers.{fits}
use Rattle.burr_assembly.proofs.text.line.coordinate.Goals as goal
use Rattle.burr_assembly.proofs.text.line.coordinate.Goals.{else-value-via-then-value+else-value-le-REACH, else-value-via-else-value}

pub returns-else-value : goal.returns-else-value
returns-else-value c = λ z h e.
    let is : FitsSigned w32 c.in_ok-value.value = search rules in
    let written : c.args.text.now ≡ signed_decimal c.in_ok-value.value = search rules in
    let same = same_integer _ _ z is (fits z h) written e in
    elim c.else-value.branch [
      | else-value-via-then-value+else-value-le-REACH w ↦ omega (arith, ints)
      | else-value-via-else-value w ↦ omega (arith, ints)
    ]
