use Rattle.std.proofs.Common.{◌≡◌, pos, FitsSigned, w32, rules, arith}
use Rattle.std.specs.Fmt.{signed_decimal}
use Rattle.std.proofs.lemmas.Int.{ints}
use Rattle.burr_text.proofs.Common.Integers.{same_integer}
use Rattle.burr_sheet.proofs.LineTexts.{count_fits}
use Rattle.burr_sheet.proofs.motion_lines.count.Goals as goal
use Rattle.burr_sheet.proofs.motion_lines.count.Goals.{then-value-lt0-via-then-value-lt0, then-value-lt0-via-else-value-lt0+then-most-value}

pub returns-in_err-value : goal.returns-in_err-value
returns-in_err-value c = rw c.from_residual.ensures (λ n small e. c.in_err-value.ensures (pos n) (count_fits n c.args.most small c.requires) e)

pub returns-then-value-lt0 : goal.returns-then-value-lt0
returns-then-value-lt0 c = λ n small e.
    let is : FitsSigned w32 c.in_ok-value.value = search rules in
    let written : c.args.word.now ≡ signed_decimal c.in_ok-value.value = search rules in
    let same = same_integer _ _ (pos n) is (count_fits n c.args.most small c.requires) written e in
    elim c.then-value-lt0.branch [
      | then-value-lt0-via-then-value-lt0 w ↦ omega (arith, ints)
      | then-value-lt0-via-else-value-lt0+then-most-value w ↦ omega (arith, ints)
    ]
