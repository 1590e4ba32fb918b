-- A number more after its space.
use Rattle.std.proofs.Common.{rules, FitsSigned, w32, to_z-of_z, ◌≡◌, ℕ, ◌+◌, ◌<◌, ◌≤◌, ℤ, pos, List, [], ◌∷◌, ◌++◌, length, drop, get_or, ap, add-one, drop-cons}
use Rattle.std.proofs.Math.ListN.{drop_of_length-le}
use Rattle.std.specs.Prelude.{codes}
use Rattle.std.specs.Fmt.{signed_decimal}
use Rattle.burr_io.proofs.Common.Puts.{Puts-more, Puts-fails, Puts-nothing}
use Rattle.burr_runs.specs.Rules.Verdicts.{numbers_part}
use Rattle.burr_runs.proofs.plan_refusal.put_numbers.Goals as goal

next_part : (numbers : List ℤ) (i : ℕ) → i < length numbers
    → numbers_part (drop i numbers) ≡ codes " " ++ (signed_decimal (get_or numbers i (pos 0)) ++ numbers_part (drop (i + 1) numbers))
next_part numbers i inside =
    let next : drop i numbers ≡ get_or numbers i (pos 0) ∷ drop (i + 1) numbers = rw (add-one, drop-cons numbers i (pos 0)) in
    ap numbers_part next

pub returns-in_err-put_all : goal.returns-in_err-put_all
returns-in_err-put_all g c =
    c.loop-number.invariant _ _ (rw (next_part c.args.numbers.now c.loop-number.number-index c.loop-number-test.true)
    (Puts-fails _ c.in_err-put_all.ensures.puts c.from_residual.ensures.0))

pub returns-in_err-put_number : goal.returns-in_err-put_number
returns-in_err-put_number g c =
    let fits : FitsSigned w32 (get_or c.args.numbers.now c.loop-number.number-index (pos 0)) = search rules in
    let put = simp to_z-of_z at c.in_err-put_number.ensures in
    c.loop-number.invariant _ _ (rw (next_part c.args.numbers.now c.loop-number.number-index c.loop-number-test.true)
    (Puts-more c.in_ok-put_all.ensures.puts (Puts-fails _ put c.from_residual-in_err-put_number.ensures.0)))

pub loop-number-preserved : goal.loop-number-preserved
loop-number-preserved g c new r more =
    let fits : FitsSigned w32 (get_or c.args.numbers.now c.loop-number.number-index (pos 0)) = search rules in
    let put = simp to_z-of_z at c.in_ok-put_number.ensures in
    c.loop-number.invariant new r (rw (next_part c.args.numbers.now c.loop-number.number-index c.loop-number-test.true)
    (Puts-more c.in_ok-put_all.ensures.puts (Puts-more put more)))

pub returns : goal.returns
returns g c =
    let past : length c.args.numbers.now ≤ c.loop-number.number-index = search rules in
    let none : drop c.loop-number.number-index c.args.numbers.now ≡ [] = drop_of_length-le c.args.numbers.now past in
    c.loop-number.invariant _ _ (rw none Puts-nothing)
