use Rattle.std.proofs.Common.{subst, sym}
use Rattle.burr_voxels.specs.Grid.{origin}
use Rattle.burr_state.specs.Rules.Bench.{BenchState, start}
use Rattle.burr_state.specs.Views.Benches.{Benched, benched, in_state, setup_of}
use Rattle.burr_state.specs.Views.StateViews.{at_start}
use Rattle.burr_bench.specs.Soundness.Machine.{IsSafeBench}
use Rattle.burr_bench.proofs.Stepping.Sound.{is_start, sound_start, start_parts}
use Rattle.burr_bench.proofs.machine.Machine.rewind.Goals as goal

pub invariant_of-self : goal.invariant_of-self
invariant_of-self c =
    let a = c.self.inside.assembly.now in
    let p = c.self.inside.bench.program in
    let n = c.piece_count.result in
    let safe : IsSafeBench (benched a p (start (setup_of (benched a p (at_start n))))) =
    subst (λ (b : Benched). IsSafeBench (in_state (start (setup_of b)) b)) (sym c.self.view_is) c.requires in
    rw c.rewind.ensures (record {
      sound = sound_start a p n c.self.invariant.sound.whole c.piece_count.ensures.count;
      safe = subst (λ (s : BenchState). IsSafeBench (benched a p s)) (sym (is_start a p n c.piece_count.ensures.count)) safe;
    })

pub returns-clause-start : goal.returns-clause-start
returns-clause-start c =
    let n = c.piece_count.result in
    rw c.rewind.ensures (record {
      state = is_start c.self.inside.assembly.now c.self.inside.bench.program n c.piece_count.ensures.count;
      parts = start_parts n origin c.piece_count.ensures.several;
    })
