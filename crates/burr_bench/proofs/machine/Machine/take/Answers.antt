use Rattle.std.proofs.Common.{◌≡◌, Bool, true, false, ℤ, Ok, Some, w32, sym, subst, refl, ap, inl, inr}
use Rattle.std.proofs.lemmas.Int.{to_z-of_z}
use Rattle.burr_assembly.specs.Rules.Homes.{homes_of}
use Rattle.burr_state.specs.declared.effect.Mode.TheVariants.{Running}
use Rattle.burr_state.specs.Views.Benches.{Benched, benched, setup_of, Answered}
use Rattle.burr_bench.proofs.Stepping.Safe.{answer_call, called_in, safe_after, sound_put, told_of_answer}
use Rattle.burr_bench.proofs.Stepping.Sound.{goes_on_still}
use Rattle.burr_bench.proofs.machine.Machine.take.Goals as goal
use Rattle.burr_bench.proofs.machine.Machine.take.Goals.{then-take, else-take}

pub invariant_of-self : goal.invariant_of-self
invariant_of-self c =
    let old = benched c.self.inside.assembly.now c.self.inside.bench.program c.self.inside.bench.state in
    let new = benched c.self.inside.assembly.now c.take.new.self.program c.take.new.self.state in
    let is = subst (λ (b : Benched). b.state.mode ≡ Running) (sym c.self.view_is) c.requires.running in
    let call = answer_call old new.state _ c.take.result (c.take.ensures.answered (homes_of old.assembly)) in
    record {
      sound = sound_put old new c.self.invariant.sound refl c.take.ensures.stays;
      safe = safe_after c.an_accepted_bench_never_traps.ensures.call old new (Some _) (Ok (told_of_answer c.take.result)) c.self.invariant.safe
          (record { assembly = refl; program = c.take.ensures.program }) (called_in old Running (Some _) _ new.state is call);
    }

pub returns-clause-called : goal.returns-clause-called
returns-clause-called c =
    let old = benched c.self.inside.assembly.now c.self.inside.bench.program c.self.inside.bench.state in
    let new = c.take.new.self.state in
    let at : (n : ℤ) (taken : Bool) → n ≡ c.args.answer → Answered (setup_of old) old.state n taken new
    → Answered (setup_of c.args.self.now) c.args.self.now.state c.args.answer taken new =
    λ n taken same h.
    subst (λ (b : Benched). Answered (setup_of b) b.state c.args.answer taken new) c.self.view_is
    (subst (λ (k : ℤ). Answered (setup_of old) old.state k taken new) same h) in
    let same = to_z-of_z w32 c.args.answer c.ranges.answer in
    elim c.if-take.branch [
      | then-take w ↦ inl (at _ true same (w.if-take.ensures.answered (homes_of old.assembly)), ap Ok w.result-is)
      | else-take w ↦
          let unfit : Answered (setup_of c.args.self.now) c.args.self.now.state c.args.answer false new = at _ false same (w.if-take.ensures.answered (homes_of old.assembly)) in
          inr (unfit.0, ap Ok w.result-is, unfit.1)
    ]

pub returns-clause-goes_on : goal.returns-clause-goes_on
returns-clause-goes_on c = rw (sym c.self.view_is) (goes_on_still _ _ c.self.invariant.sound c.take.ensures.stays.places)
