-- For crates above: integers of 32 bits and their texts.
use Rattle.std.proofs.Common.{◌≡◌, ℕ, zero, suc, ◌+◌, ◌%◌, ◌^◌, ◌<◌, ◌≤◌, List, [], All, ℤ, pos, negsuc, FitsSigned, w32, refl, sym, ◌∙◌, arith, inl, inr, lit<}
use Rattle.std.specs.Fmt.{decimal, signed_decimal}
use Rattle.std.proofs.lemmas.Int.{ints}
use Rattle.std.proofs.lemmas.List.Elements.{All-nil, All-cons, All-push}
use Rattle.std.proofs.lemmas.Fmt.{decimal_by_steps, decimal_digit, first_decimal, signed_decimal_injective}
use lib.Signed.{mag}
use Rattle.burr_text.specs.Numbers.{IsCount, IsNumber}

-- an integer is small
pub small : (z : ℤ) → FitsSigned w32 z → mag z < 2 ^ 63
small (pos n) h = omega (arith, ints)
small (negsuc n) h = omega (arith, ints)

-- integers of one text are one
pub same_integer : (bytes : List ℕ) (y z : ℤ) → FitsSigned w32 y → FitsSigned w32 z → bytes ≡ signed_decimal y → bytes ≡ signed_decimal z → y ≡ z
same_integer bytes y z h k p q = signed_decimal_injective y z (small y h) (small z k) (sym p ∙ q)

-- what `{}` writes of a number are digits
decimal_digits : (n : ℕ) → n < 2 ^ 64 → All (λ b. (48 ≤ b) × (b ≤ 57)) (decimal n)
decimal_digits =
    let IsDigit : ℕ → Type 0 = λ b. (48 ≤ b) × (b ≤ 57) in
    decimal_by_steps (λ n ds. All IsDigit ds) (λ n small. All-cons IsDigit (48 + n) [] (omega arith, omega arith) (All-nil IsDigit))
    (λ n ds large is. All-push IsDigit ds (48 + n % 10) is (omega arith, omega arith))

-- a number above 0 is written as a count
count_of_decimal : (n : ℕ) → 0 < n → n < 2 ^ 64 → IsCount (decimal n)
count_of_decimal n some small = record { first = first_decimal n some small; digits = decimal_digits n small }

-- the text of an integer is a number
pub number_of_integer : (z : ℤ) → FitsSigned w32 z → IsNumber (signed_decimal z)
number_of_integer (pos zero) h = inl (decimal_digit 0 (lit< tt))
number_of_integer (pos (suc n)) h = inr (inl (count_of_decimal (suc n) (omega arith) (let few = small (pos (suc n)) h in omega (arith, ints))))
number_of_integer (negsuc n) h = inr (inr (decimal (suc n), refl, count_of_decimal (suc n) (omega arith) (let few = small (negsuc n) h in omega (arith, ints))))
