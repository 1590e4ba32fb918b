-- One range more is narrowed.
use Rattle.std.proofs.Common.{rules, ◌≡◌, ℕ, ◌<◌, ◌++◌, ◌∷◌, [], List, length, take, pos, subst, sym, arith, slice_index_or}
use Rattle.std.specs.Prelude.{ℤ}
use Rattle.std.proofs.lemmas.List.{length-take, take_more}
use Rattle.burr_forms.specs.Views.Searching.{AllLack, AreNarrowRanges, IsNarrowRange}
use Rattle.burr_forms.proofs.Lowering.{as_many_narrowed, narrowed_on}
use Rattle.burr_forms.proofs.condition.narrowed.Goals as goal

so_many : (ranges : List (ℤ × ℤ)) (i : ℕ) → i < length ranges → length (take i ranges) ≡ i
so_many ranges i l = omega (arith, length-take i ranges)

pub push-requires : goal.push-requires
push-requires c =
    let many = as_many_narrowed _ (take c.loop-symbol.symbol c.args.ranges.now) c.loop-symbol.narrowed.items c.loop-symbol.invariant in
    let so = so_many c.args.ranges.now c.loop-symbol.symbol c.loop-symbol-test.true in
    (search rules, omega (arith, many, so, c.requires.few, c.loop-symbol-test.true))

pub loop-symbol-preserved : goal.loop-symbol-preserved
loop-symbol-preserved c =
    let ranges = c.args.ranges.now in
    let i = c.loop-symbol.symbol in
    let range : ℤ × ℤ = slice_index_or ranges i (pos 0, pos 0) in
    let n = c.narrowed_range.result in
    let one : IsNarrowRange (AllLack (length (take i ranges)) c.args.guards.now × AllLack (length (take i ranges)) c.args.forms.now) range n =
    subst (λ (k : ℕ). IsNarrowRange (AllLack k c.args.guards.now × AllLack k c.args.forms.now) range n) (sym (so_many ranges i c.loop-symbol-test.true)) c.narrowed_range.ensures in
    let on = narrowed_on (λ (k : ℕ). AllLack k c.args.guards.now × AllLack k c.args.forms.now) (take i ranges) c.loop-symbol.narrowed.items range n c.loop-symbol.invariant one in
    let pushed = subst (λ (ns : List (ℤ × ℤ)). AreNarrowRanges (λ (k : ℕ). AllLack k c.args.guards.now × AllLack k c.args.forms.now) (take i ranges ++ range ∷ []) ns) (sym c.push.ensures.items) on in
    subst (λ (rs : List (ℤ × ℤ)). AreNarrowRanges (λ (k : ℕ). AllLack k c.args.guards.now × AllLack k c.args.forms.now) rs c.push.new.self.items) (sym (take_more ranges i (pos 0, pos 0) c.loop-symbol-test.true)) pushed
