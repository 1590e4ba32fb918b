-- All numbers are the other way.
use Rattle.std.proofs.Common.{◌≡◌, ap, length, arith, ◌≤◌, ◌∙◌, List, [], ◌∷◌, take, sym, ℤ, refl, FitsSigned, w64, to_z, of_z, to_z-of_z}
use Rattle.std.specs.Prelude.{map, neg_ℤ, pos, ◌-ℤ◌, ◌*ℤ◌}
use Rattle.burr_forms.specs.Rules.Forms.{Form, times, IsSmall, AllSmall, IsSmallForm}
use Rattle.std.proofs.Math.IntN.{negsuc}
use Rattle.std.proofs.lemmas.Int.{ints, fits_signed_from_abs}
use Rattle.std.proofs.lemmas.List.{take_all}
use Rattle.std.proofs.lemmas.List.Elements.{All-map}
use Rattle.burr_frames.proofs.state.instructions.negated.Goals as goal

negative_product : (x : ℤ) → neg_ℤ x ≡ neg_ℤ (pos 1) *ℤ x
negative_product (pos n) = omega (arith, ints)
negative_product (negsuc n) = omega (arith, ints)

negative_products : (xs : List ℤ) → map neg_ℤ xs ≡ map (λ c. neg_ℤ (pos 1) *ℤ c) xs
negative_products [] = refl
negative_products (x ∷ xs) = λ i. negative_product x i ∷ negative_products xs i

small_negative : (x : ℤ) → IsSmall x → IsSmall (neg_ℤ x)
small_negative x small = let low = small.0 in let high = small.1 in (omega (arith, ints), omega (arith, ints))

small_negatives : (xs : List ℤ) → AllSmall xs → AllSmall (map neg_ℤ xs)
small_negatives xs small = All-map IsSmall neg_ℤ xs (λ k d l. small_negative _ (small k d l))

-- as the code takes the negative of a number
coded_negative : (x : ℤ) → IsSmall x → to_z w64 (of_z w64 (pos 0 -ℤ to_z w64 (of_z w64 x))) ≡ neg_ℤ x
coded_negative x small =
    let low = small.0 in
    let high = small.1 in
    let fits : FitsSigned w64 x = fits_signed_from_abs w64 x (omega (arith, ints)) in
    let is : pos 0 -ℤ x ≡ neg_ℤ x = omega (arith, ints) in
    let other : FitsSigned w64 (pos 0 -ℤ x) = fits_signed_from_abs w64 (pos 0 -ℤ x) (omega (arith, ints)) in
    simp to_z-of_z is

-- the numbers are all the other way
negated_coefs : (n : _) (xs ys : List ℤ) → take n ys ≡ map neg_ℤ (take n xs) → length ys ≤ n → length xs ≤ n → ys ≡ map neg_ℤ xs
negated_coefs n xs ys e l m = sym (take_all n ys l) ∙ e ∙ ap (map neg_ℤ) (take_all n xs m)

is_negated : (f : Form) (x : ℤ) (ys : List ℤ) → IsSmallForm f → x ≡ f.constant → ys ≡ map neg_ℤ f.coefs
    → record { constant = to_z w64 (of_z w64 (pos 0 -ℤ to_z w64 (of_z w64 x))); coefs = ys } ≡ times (neg_ℤ (pos 1)) f
is_negated f x ys small same coefs =
    let constant : to_z w64 (of_z w64 (pos 0 -ℤ to_z w64 (of_z w64 x))) ≡ neg_ℤ (pos 1) *ℤ f.constant = rw same (coded_negative f.constant small.0 ∙ negative_product f.constant) in
    λ i. record { constant = constant i; coefs = (coefs ∙ negative_products f.coefs) i }

small_negated : (f : Form) (x : ℤ) (ys : List ℤ) → IsSmallForm f → x ≡ f.constant → ys ≡ map neg_ℤ f.coefs
    → IsSmallForm (record { constant = to_z w64 (of_z w64 (pos 0 -ℤ to_z w64 (of_z w64 x))); coefs = ys })
small_negated f x ys small same coefs =
    (rw (same, coded_negative f.constant small.0) (small_negative f.constant small.0), rw coefs (small_negatives f.coefs small.1))

pub returns-clause-form : goal.returns-clause-form
returns-clause-form c =
    let form = c.args.form.now in
    let many : length c.form.inside.coefs ≡ length form.coefs = ap (λ (f : Form). length f.coefs) c.form.view_is in
    let coefs : c.loop-symbol.coefs ≡ map neg_ℤ form.coefs = negated_coefs c.loop-symbol.symbol form.coefs c.loop-symbol.coefs c.loop-symbol.invariant.first
    (omega (arith, c.loop-symbol.invariant.many, c.loop-symbol-test.false)) (omega (arith, many, c.form.told, c.loop-symbol-test.false)) in
    is_negated form c.form.inside.constant c.loop-symbol.coefs c.requires.small (ap (λ (f : Form). f.constant) c.form.view_is) coefs

pub returns-clause-small : goal.returns-clause-small
returns-clause-small c =
    let form = c.args.form.now in
    let many : length c.form.inside.coefs ≡ length form.coefs = ap (λ (f : Form). length f.coefs) c.form.view_is in
    let coefs : c.loop-symbol.coefs ≡ map neg_ℤ form.coefs = negated_coefs c.loop-symbol.symbol form.coefs c.loop-symbol.coefs c.loop-symbol.invariant.first
    (omega (arith, c.loop-symbol.invariant.many, c.loop-symbol-test.false)) (omega (arith, many, c.form.told, c.loop-symbol-test.false)) in
    small_negated form c.form.inside.constant c.loop-symbol.coefs c.requires.small (ap (λ (f : Form). f.constant) c.form.view_is) coefs
