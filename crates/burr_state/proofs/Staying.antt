-- Where nothing was called and nothing returned, a state that fits what is run still does.
use Rattle.std.proofs.Common.{◌≡◌, List, subst, refl}
use Rattle.std.specs.Prelude.{Result, Ok, Err}
use Rattle.burr_state.specs.declared.effect.Effect.{Effect}
use Rattle.burr_state.specs.declared.effect.Effect.TheVariants as effects
use Rattle.burr_state.specs.declared.effect.Trap.{Trap}
use Rattle.burr_state.specs.Rules.Bench.{BenchProcedure, BenchState}
use Rattle.burr_state.specs.Views.Effects.{KeepsUnlessGoes, StaysWhereGoes, StaysFitting}
use Rattle.burr_state.specs.Views.Programs.{FitsProgram}
use Rattle.burr_state.specs.Views.StateViews.{IsOrderly}
use Rattle.burr_state.proofs.Common.Stepping.Calls.{fits_within}

-- where nothing changed, the grip still lies in the current tray
stays_same : (procedures : List BenchProcedure) (inside old new : BenchState) → inside ≡ old → IsOrderly inside
    → FitsProgram procedures old → new ≡ old → StaysFitting procedures old new
stays_same procedures inside old new same orderly fits kept =
    rw kept (record { pieces = record { places = refl; here = (subst IsOrderly same orderly).here }; fits = fits })

pub stays_fitting : (procedures : List BenchProcedure) (inside old new : BenchState) (result : Result Effect Trap)
    → inside ≡ old → IsOrderly inside → FitsProgram procedures old → KeepsUnlessGoes result old new
    → StaysWhereGoes result old new → StaysFitting procedures old new
stays_fitting procedures inside old new (Ok (effects.Goes motion)) same orderly fits kept stays =
    record { pieces = stays.pieces; fits = fits_within procedures old new fits stays.within }
stays_fitting procedures inside old new (Ok (effects.Asks low high)) same orderly fits kept stays =
    stays_same procedures inside old new same orderly fits kept
stays_fitting procedures inside old new (Err trap) same orderly fits kept stays =
    stays_same procedures inside old new same orderly fits kept
