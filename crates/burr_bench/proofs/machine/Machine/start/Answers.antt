use Rattle.std.proofs.Common.{◌≡◌, ◌≤◌, ◌∙◌, ap, length, subst, sym}
use Rattle.std.specs.Prelude.{ℕ}
use Rattle.burr_voxels.specs.Grid.{origin}
use Rattle.burr_assembly.specs.Rules.Text.{Assembly}
use Rattle.burr_container.specs.Views.Containers.{ContainerView, IsContainer}
use Rattle.burr_bench.proofs.Stepping.Safe.{safe_start}
use Rattle.burr_bench.proofs.Stepping.Sound.{start_parts, is_start}
use Rattle.burr_bench.proofs.machine.Machine.start.Goals as goal

pub invariant_of-result : goal.invariant_of-result
invariant_of-result g c =
    let accepted = c.plan.ensures.accepted in
    let is_container = subst (λ (kept : ContainerView). IsContainer kept accepted.plan) (sym c.plan.ensures.plan) accepted.is_container in
    safe_start c.an_accepted_bench_never_traps.ensures.start c.args.accepted.now.judged accepted _ _ _ c.piece_count.result c.assembly-assembly.ensures
    (c.of-bench.ensures.program accepted.plan is_container) c.piece_count.ensures.count c.of-bench.ensures.start

pub returns-clause-start : goal.returns-clause-start
returns-clause-start g c =
    let accepted = c.plan.ensures.accepted in
    let a = c.assembly-assembly.result.now in
    let many : c.piece_count.result ≡ length a.pieces = c.piece_count.ensures.count in
    let several : 2 ≤ c.piece_count.result = subst (λ (n : ℕ). 2 ≤ n) (ap (λ (x : Assembly). length x.pieces) (sym c.assembly-assembly.ensures) ∙ sym many) accepted.is_assembly.pieces.0 in record {
      state = c.of-bench.ensures.start ∙ is_start a c.of-bench.result.program c.piece_count.result many;
      parts = rw c.of-bench.ensures.start (start_parts c.piece_count.result origin several);
    }
