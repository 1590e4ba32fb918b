use Rattle.std.proofs.Common.{◌≡◌, Bool, true, false, ℤ, Ok, w32, sym, subst, ap, inl, inr}
use Rattle.std.proofs.lemmas.Int.{to_z-of_z}
use Rattle.burr_assembly.specs.Rules.Homes.{homes_of}
use Rattle.burr_state.specs.Rules.Bench.{running}
use Rattle.burr_state.specs.Views.Benches.{Benched, setup_of, Answered}
use Rattle.burr_bench.proofs.Stepping.Sound.{goes_on_still}
use Rattle.burr_bench.proofs.checked.Checked.take.Goals as goal
use Rattle.burr_bench.proofs.checked.Checked.take.Goals.{then-take, else-take}

pub returns-clause-called : goal.returns-clause-called
returns-clause-called g c =
    let old = c.self.inside.bench in
    let new = c.take.new.self.state in
    let homes = homes_of (g.B.Blocking.subject c.self.inside.blocking.now) in
    let at : (n : ℤ) (taken : Bool) → n ≡ c.args.answer → Answered (running homes old.program) old.state n taken new
    → Answered (setup_of c.args.self.now) c.args.self.now.state c.args.answer taken new =
    λ n taken same h.
    subst (λ (b : Benched). Answered (setup_of b) b.state c.args.answer taken new) c.self.view_is
    (subst (λ (k : ℤ). Answered (running homes old.program) old.state k taken new) same h) in
    let same = to_z-of_z w32 c.args.answer c.ranges.answer in
    elim c.if-take.branch [
      | then-take w ↦ inl (at _ true same (w.if-take.ensures.answered homes), ap Ok w.result-is)
      | else-take w ↦
          let unfit : Answered (setup_of c.args.self.now) c.args.self.now.state c.args.answer false new = at _ false same (w.if-take.ensures.answered homes) in
          inr (unfit.0, ap Ok w.result-is, unfit.1)
    ]

pub returns-clause-goes_on : goal.returns-clause-goes_on
returns-clause-goes_on g c = rw (sym c.self.view_is) (goes_on_still _ _ c.self.invariant c.take.ensures.stays.places)
