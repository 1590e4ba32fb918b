-- One range more.
use Rattle.std.proofs.Common.{rules, ◌≡◌, ◌≤◌, ◌<◌, ℕ, List, [], ◌∷◌, ◌++◌, length, take, pos, ap, sym, ◌∙◌, arith, slice_index_or, FitsSigned, w32, w64, to_z-of_z}
use Rattle.std.specs.Prelude.{ℤ, Bool}
use Rattle.std.proofs.lemmas.List.{length-take}
use Rattle.burr_forms.specs.Views.Bounds.{corner}
use Rattle.burr_forms.proofs.Corners.{corner_more, corner_nowhere, length-corner}
use Rattle.burr_forms.proofs.form.corner.Goals as goal

so_many : (g : Bool) (coefs : List ℤ) (ranges : List (ℤ × ℤ)) (i : ℕ) → i < length ranges → length ranges ≤ length coefs → length (corner g coefs (take i ranges)) ≡ i
so_many g coefs ranges i l few = omega (arith, length-take i ranges, length-corner g coefs (take i ranges) (omega (arith, length-take i ranges)))

pub loop-symbol-init : goal.loop-symbol-init
loop-symbol-init c = c.new-point.ensures ∙ sym (corner_nowhere c.args.is_greatest c.args.coefs.now)

pub push-requires : goal.push-requires
push-requires c =
    let few : length c.args.ranges.now ≤ length c.args.coefs.now = omega (arith, c.told-coefs, c.requires) in
    let so = so_many c.args.is_greatest c.args.coefs.now c.args.ranges.now c.loop-symbol.symbol c.loop-symbol-test.true few in
    let many = ap length c.loop-symbol.invariant in
    (search rules, omega (arith, many, so, c.requires, c.loop-symbol-test.true))

pub loop-symbol-preserved : goal.loop-symbol-preserved
loop-symbol-preserved c =
    let coef : ℤ = slice_index_or c.args.coefs.now c.loop-symbol.symbol (pos 0) in
    let fits : FitsSigned w64 coef = search rules in
    let h : c.loop-symbol.symbol < length c.args.coefs.now = omega (arith, c.told-coefs, c.requires, c.loop-symbol-test.true) in
    let chosen = simp to_z-of_z at c.end_at.ensures in
    let end_fits : FitsSigned w32 c.end_at.result = search rules in
    (simp to_z-of_z at c.push.ensures.items)
    ∙ ap (λ ns. ns ++ c.end_at.result ∷ []) c.loop-symbol.invariant
    ∙ ap (λ n. corner c.args.is_greatest c.args.coefs.now (take c.loop-symbol.symbol c.args.ranges.now) ++ n ∷ []) chosen
    ∙ sym (corner_more c.args.is_greatest c.loop-symbol.symbol c.args.coefs.now c.args.ranges.now (pos 0) (pos 0, pos 0) h c.loop-symbol-test.true)
