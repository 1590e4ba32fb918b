use Rattle.std.proofs.Common.{rules, ◌≡◌, ◌≤◌, ◌≤ℤ◌, pos, Some, None, subst, refl, inl, inr, get_or, slice_get}
use Rattle.burr_state.specs.Rules.Bench.{BenchState}
use Rattle.burr_state.proofs.state.BenchState.down.Goals as goal

pub returns-then-count-lt0 : goal.returns-then-count-lt0
returns-then-count-lt0 c =
    let writable : c.args.procedure.now.parameters ≤ c.args.slot = search rules in
    let below : ¬ (pos 0 ≤ℤ c.in_ok-count.count) = search rules in
    let inside : get_or c.self.inside.running.slots c.args.slot None ≡ Some c.in_ok-count.count = search rules in
    let held : get_or c.args.self.now.running.slots c.args.slot None ≡ Some c.in_ok-count.count =
    subst (λ (s : BenchState). get_or s.running.slots c.args.slot None ≡ Some c.in_ok-count.count) c.self.view_is inside in
    let there : slice_get c.args.procedure.now.labels c.args.label ≡ Some c.in_ok-position.position = search rules in
    record {
      next = inr (c.in_ok-position.position, there, inr (writable, inr (c.in_ok-count.count, held, inl (below, refl))));
      kept = search rules;
      no_motion = search rules;
      stays = search rules;
    }
