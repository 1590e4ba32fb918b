-- For crates above: what a call without an answer tells of a running bench.
use Rattle.std.proofs.Common.{◌≡◌, None, Result, Ok, Err, sym, subst}
use Rattle.burr_state.specs.declared.effect.Mode.{Mode}
use Rattle.burr_state.specs.declared.effect.Mode.TheVariants.{Running, Trapped}
use Rattle.burr_state.specs.declared.effect.Progress.{Progress}
use Rattle.burr_state.specs.declared.effect.Progress.TheVariants as progress
use Rattle.burr_state.specs.declared.effect.Trap.{Trap}
use Rattle.burr_state.specs.Rules.Bench.{BenchState, Setup}
use Rattle.burr_state.specs.Rules.Next.{Next, Goes, Asks, Traps}
use Rattle.burr_state.specs.Rules.Step.{NextIs, CallIn, Called, call_result, left_by}

-- by what it tells: what stood next, and what state is left
abbrev pub Tells : Setup → BenchState → Result Progress Trap → BenchState → Type 0
Tells setup s (Ok (progress.Went motion)) new = NextIs setup s (Goes new motion)
Tells setup s (Ok (progress.Asks low high)) new = NextIs setup s (Asks low high) × (new ≡ s)
Tells setup s (Ok progress.Again) new = ⊥
Tells setup s (Ok progress.Ended) new = ⊥
Tells setup s (Err trap) new = NextIs setup s (Traps trap) × (new ≡ record s { mode = Trapped trap })

tells_next : (setup : Setup) (s new : BenchState) (next : Next) → NextIs setup s next → new ≡ left_by s next → Tells setup s (call_result next) new
tells_next setup s new (Goes there motion) is left = subst (λ (t : BenchState). NextIs setup s (Goes t motion)) (sym left) is
tells_next setup s new (Asks low high) is left = (is, left)
tells_next setup s new (Traps trap) is left = (is, left)

pub tells : (setup : Setup) (s new : BenchState) (result : Result Progress Trap) → s.mode ≡ Running → Called setup s None result new → Tells setup s result new
tells setup s new result running called =
    let call : CallIn Running setup s None result new = subst (λ (m : Mode). CallIn m setup s None result new) running called in
    subst (λ (r : Result Progress Trap). Tells setup s r new) (sym call.2) (tells_next setup s new call.0 call.1 call.3)
