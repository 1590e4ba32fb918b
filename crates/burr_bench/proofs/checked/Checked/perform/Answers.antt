use Rattle.std.proofs.Common.{ℕ, inl, refl, subst}
use Rattle.std.specs.Prelude.{Result}
use Rattle.burr_assembly.specs.Rules.Homes.{homes_of}
use Rattle.burr_code.specs.Instruction.{Instruction, Step, Aside}
use Rattle.burr_code.specs.Meaning.{meaning}
use Rattle.burr_code.specs.declared.instr.Instr.{Instr}
use Rattle.burr_state.specs.declared.effect.Effect.{Effect}
use Rattle.burr_state.specs.declared.effect.Trap.{Trap}
use Rattle.burr_state.specs.Rules.Step.{NextIs}
use Rattle.burr_state.specs.Views.Benches.{Benched, benched, setup_of}
use Rattle.burr_state.specs.Views.Effects.{next_of}
use Rattle.burr_state.specs.Views.Work.{IsNext, work}
use Rattle.burr_bench.specs.BenchViews.{Follows}
use Rattle.burr_bench.proofs.Stepping.Safe.{kept_whole}
use Rattle.burr_bench.proofs.Stepping.Sound.{goes_on_plain, sound_staying}
use Rattle.burr_bench.proofs.checked.Checked.perform.Goals as goal

-- the instruction that stands next was carried out
carried_out : (old new : Benched) (i : Instruction) (size : ℕ) (result : Result Effect Trap) → IsNext (work old.program old.state) i size
    → Follows old new i result → NextIs (setup_of old) old.state (next_of result new.state)
carried_out old new i size result next follows = inl (next.stands.0, i, next.stands.1, follows next.stands.0 next.stands.1.0)

pub returns-in-Step-clause-next : goal.returns-in-Step-clause-next
returns-in-Step-clause-next g c =
    let old = c.args.self.now in
    carried_out old c.move_grip.new.self (Step c.in-Step.direction) c.args.size c.move_grip.result
    (subst (λ (x : Instr). IsNext (work old.program old.state) (meaning x) c.args.size) c.in-Step.is c.requires) c.move_grip.ensures.follows

pub returns-in-Aside-clause-next : goal.returns-in-Aside-clause-next
returns-in-Aside-clause-next g c =
    let old = c.args.self.now in
    carried_out old c.aside.new.self (Aside c.in-Aside.direction c.in-Aside.tray) c.args.size c.aside.result
    (subst (λ (x : Instr). IsNext (work old.program old.state) (meaning x) c.args.size) c.in-Aside.is c.requires) c.aside.ensures.follows

pub invariant_of-self : goal.invariant_of-self
invariant_of-self g c =
    sound_staying (benched (g.B.Blocking.subject c.self.inside.blocking.now) c.self.inside.bench.program c.self.inside.bench.state) _ c.self.invariant refl c.execute.ensures.pieces

pub returns-in_default : goal.returns-in_default
returns-in_default g c =
    let old = c.self.inside in
    let a = g.B.Blocking.subject old.blocking.now in
    let kept = kept_whole a old.bench c.execute.new.self c.execute.result c.execute.ensures.kept in
    rw (← c.self.view_is) (record {
      next = c.execute.ensures.next (homes_of a);
      kept = kept;
      same = record { assembly = refl; program = c.execute.ensures.program };
      goes_on = goes_on_plain _ _ c.execute.result c.self.invariant c.execute.ensures.pieces.places c.execute.ensures.no_motion;
    })
