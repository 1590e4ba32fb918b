-- Lines of commands for a drive are short, and each is of one command at most.
use Rattle.std.proofs.Common.{◌≡◌, ℕ, suc, ◌<◌, ◌≤◌, ◌^◌, ◌==◌, ℤ, List, ◌∷◌, ◌++◌, length, false, Some, drop, refl, sym, ap, subst, ◌∙◌, arith}
use Rattle.std.specs.Prelude.{decimal, slice_get}
use Rattle.std.specs.Fmt.{signed_decimal}
use Rattle.std.proofs.lemmas.Fmt.{decimal_injective}
use Rattle.std.proofs.lemmas.Option.{same_Some}
use Rattle.std.proofs.Math.ListN.{length-append}
use Rattle.burr_text.proofs.Common.Cuts.{cut}
use Rattle.burr_text.proofs.Common.Integers.{same_integer}
use Rattle.burr_step.specs.Rules.DriveTexts.{DriveCommand, Next, Answer, GoTo, Show, Quit, HasSmallNumbers, drive_line, DriveLinesAreShort, OneDriveLine}
use Rattle.burr_step.proofs.Lines.{signed_digits, ten_digits}
use Rattle.burr_step.proofs.OneLine.{differ, no_blank}

-- Short lines

answer_size : (question : List ℕ) (answer : List ℕ) → length question ≤ 10 → length answer ≤ 11
    → suc (suc (suc (suc (suc (suc (suc (length (question ++ 32 ∷ answer)))))))) ≤ 64
answer_size question answer few also = let sum = length-append question (32 ∷ answer) in omega (arith, sum, few, also)

goto_size : (n : ℕ) → n ≤ 10 → suc (suc (suc (suc (suc n)))) ≤ 64
goto_size n few = omega (arith, few)

few_digits : (n : ℕ) → n < 2 ^ 32 → length (decimal n) ≤ 10
few_digits n small = ten_digits n (omega (arith, small))

pub drive_lines_are_short : DriveLinesAreShort
drive_lines_are_short line Next is = subst (λ (l : List ℕ). length l ≤ 64) (sym is.1) (omega arith)
drive_lines_are_short line (Answer question answer) is =
    subst (λ (l : List ℕ). length l ≤ 64) (sym is.1)
    (answer_size (decimal question) (signed_decimal answer) (few_digits question is.0.0) (signed_digits answer is.0.1))
drive_lines_are_short line (GoTo number) is =
    subst (λ (l : List ℕ). length l ≤ 64) (sym is.1) (goto_size (length (decimal number)) (few_digits number is.0))
drive_lines_are_short line Show is = subst (λ (l : List ℕ). length l ≤ 64) (sym is.1) (omega arith)
drive_lines_are_short line Quit is = subst (λ (l : List ℕ). length l ≤ 64) (sym is.1) (omega arith)

-- One command

-- the first letter of a command's line
abbrev letter : DriveCommand → ℕ
letter Next = 110
letter (Answer question answer) = 97
letter (GoTo number) = 103
letter Show = 115
letter Quit = 113

begins : (command : DriveCommand) → slice_get (drive_line command) 0 ≡ Some (letter command)
begins Next = refl
begins (Answer question answer) = refl
begins (GoTo number) = refl
begins Show = refl
begins Quit = refl

other_letter : (c d : DriveCommand) → (letter c == letter d) ≡ false → drive_line c ≡ drive_line d → c ≡ d
other_letter c d other e =
    absurd (differ (letter c) (letter d) other (same_Some (letter c) (letter d) (sym (begins c) ∙ ap (λ (l : List ℕ). slice_get l 0) e ∙ begins d)))

few_bits : (n : ℕ) → n < 2 ^ 32 → n < 2 ^ 64
few_bits n small = omega (arith, small)

same_command : (c d : DriveCommand) → HasSmallNumbers c → HasSmallNumbers d → drive_line c ≡ drive_line d → c ≡ d
same_command Next Next few also e = refl
same_command (Answer p n) (Answer q o) few also e =
    let parts = cut 32 (decimal p) (decimal q) (signed_decimal n) (signed_decimal o) (no_blank p) (no_blank q) (ap (λ (bytes : List ℕ). drop 7 bytes) e) in
    let first = decimal_injective p q (few_bits p few.0) (few_bits q also.0) parts.0 in
    let second = same_integer (signed_decimal n) n o few.1 also.1 refl parts.1 in
    ap (λ (k : ℕ). Answer k n) first ∙ ap (λ (x : ℤ). Answer q x) second
same_command (GoTo k) (GoTo j) few also e =
    ap GoTo (decimal_injective k j (few_bits k few) (few_bits j also) (ap (λ (bytes : List ℕ). drop 5 bytes) e))
same_command Show Show few also e = refl
same_command Quit Quit few also e = refl
same_command c d few also e = other_letter c d refl e

pub one_drive_line : OneDriveLine
one_drive_line line c d is other = same_command c d is.0 other.0 (sym is.1 ∙ other.1)
