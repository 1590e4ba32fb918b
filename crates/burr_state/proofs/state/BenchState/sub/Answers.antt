use Rattle.std.proofs.Common.{rules, arith, ◌≡◌, ℕ, ℤ, ◌-ℤ◌, Some, drop, subst, inr, FitsSigned, to_z, of_z, w32, w64}
use Rattle.std.proofs.lemmas.Int.{ints}
use Rattle.burr_code.specs.Stacks.{top_two}
use Rattle.burr_state.specs.Rules.Bench.{BenchState}
use Rattle.burr_state.specs.Views.Effects.{next_of}
use Rattle.burr_state.specs.Views.StateViews.{replacing_two}
use Rattle.burr_state.proofs.state.BenchState.sub.Goals as goal

-- a difference of two numbers of 32 bits fits 64
difference : (a b x y : ℤ) → FitsSigned w32 x → FitsSigned w32 y → a ≡ to_z w32 (of_z w32 x) → b ≡ to_z w32 (of_z w32 y)
    → to_z w64 (of_z w64 (to_z w64 (of_z w64 a) -ℤ to_z w64 (of_z w64 b))) ≡ x -ℤ y
difference a b x y first second is same = omega (arith, ints)

pub returns : goal.returns
returns c =
    let s = c.args.self.now in
    let next = next_of c.replace_two.result c.replace_two.new.self in
    let old = c.self.inside.running.operands in
    let inside : top_two old ≡ Some (c.in_ok-top.top, c.in_ok-top.below, drop 2 old) = search rules in
    let found : top_two s.running.operands ≡ Some (c.in_ok-top.top, c.in_ok-top.below, drop 2 s.running.operands) =
    subst (λ (x : BenchState). top_two x.running.operands ≡ Some (c.in_ok-top.top, c.in_ok-top.below, drop 2 x.running.operands)) c.self.view_is inside in
    record {
      kept = c.replace_two.ensures.kept;
      no_motion = c.replace_two.ensures.no_motion;
      stays = c.replace_two.ensures.stays;
      next = inr (
        (c.in_ok-top.top, c.in_ok-top.below, drop 2 s.running.operands),
        found,
        subst (λ (n : ℤ). replacing_two s n 1 next)
            (difference c.from.result c.from-2.result c.in_ok-top.below c.in_ok-top.top (search rules) (search rules) c.from.ensures c.from-2.ensures)
            (subst (λ (n : ℕ). replacing_two s (to_z w64 (of_z w64 (to_z w64 (of_z w64 c.from.result) -ℤ to_z w64 (of_z w64 c.from-2.result)))) n next)
            c.requires.spelled_in c.replace_two.ensures.next),
      );
    }
