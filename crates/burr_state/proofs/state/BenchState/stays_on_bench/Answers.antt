use Rattle.std.proofs.Common.{subst}
use native.Mathlib.Decide.{ℕ_discrete}
use Rattle.burr_text.proofs.Common.Tests.{yes_of, no_of, yes_iff, no_iff}
use Rattle.burr_code.specs.PieceSets.{IsInSet}
use Rattle.burr_code.proofs.Common.PieceSets.{no_bit}
use Rattle.burr_state.specs.Rules.Bench.{BenchState}
use Rattle.burr_state.specs.Views.Offsets.{AreNear}
use Rattle.burr_state.proofs.Common.Stepping.Near.{on_bench_of_staying, staying_of_on_bench, near_lying}
use Rattle.burr_state.proofs.state.BenchState.stays_on_bench.Goals as goal

pub returns-then-not-piece_stays_on_bench : goal.returns-then-not-piece_stays_on_bench
returns-then-not-piece_stays_on_bench c =
    let now = c.args.self.now in
    let piece = c.take_lowest-piece.result in
    no_iff
    (λ stays. no_of c.if-not-piece_stays_on_bench.ensures
    (staying_of_on_bench now.places now.tray now.grip c.args.direction stays piece (c.loop-rest.invariant.0 piece c.take_lowest-piece.ensures.taken)))

pub loop-rest-preserved : goal.loop-rest-preserved
loop-rest-preserved c = (
  λ p left. c.loop-rest.invariant.0 p ((c.take_lowest-piece.ensures.rest p).0 left).0,
  λ p bit gone. elim (ℕ_discrete p c.take_lowest-piece.result) [
    | yes same ↦ rw same (yes_of c.if-not-piece_stays_on_bench.ensures)
    | no other ↦ c.loop-rest.invariant.1 p bit (λ left. gone ((c.take_lowest-piece.ensures.rest p).1 (left, other)))
  ],
)

pub returns : goal.returns
returns c =
    let now = c.args.self.now in
    let near = subst (λ (s : BenchState). AreNear s.places) c.self.view_is c.self.invariant.near in
    yes_iff
    (on_bench_of_staying now.places now.tray now.grip c.args.direction (λ p offset lies. near_lying now.places p now.tray offset near lies)
    (λ p bit. c.loop-rest.invariant.1 p bit (λ left. no_bit p (subst (λ set. IsInSet set p) c.loop-rest-test.false left))))
