-- Callers with room for the results that they wait for, through calls and returns.
use Rattle.std.proofs.Common.{◌≡◌, ◌≤◌, ◌+◌, ◌∙◌, ℕ, List, [], ◌∷◌, length, take, drop, sym, ap, subst, arith, inl, inr, Some, None}
use Rattle.std.specs.Prelude.{IfSome, Option, Result, Ok, Err, OnOk, slice_get}
use Rattle.std.proofs.lemmas.Option.{slice_get_within}
use Rattle.burr_code.specs.Instruction.{Call}
use Rattle.burr_code.specs.Labels.{callee_of}
use Rattle.burr_state.specs.declared.effect.Effect.{Effect}
use Rattle.burr_state.specs.declared.effect.Trap.{Trap}
use Rattle.burr_state.specs.Rules.Bench.{Activation, BenchProcedure, BenchState, Setup}
use Rattle.burr_state.specs.Rules.Next.{Goes, Traps, stepped}
use Rattle.burr_state.specs.Rules.Control.{called, calling}
use Rattle.burr_state.specs.Views.Programs.{HasRoomFor, HasRoomAfter, FitsProgram}
use Rattle.burr_state.specs.Views.Effects.{StaysWithin, CallerHasRoom, CallerGoesOn, KeepsUnlessGoes, IsCalledFor, CannotBeCalled}

-- nothing was called and nothing returned
pub fits_within : (procedures : List BenchProcedure) (old new : BenchState) → FitsProgram procedures old → StaysWithin old new
    → FitsProgram procedures new
fits_within procedures old new fits within = record {
  runs = rw within.procedure fits.runs;
  room = rw (within.procedure, within.callers) fits.room;
}

-- a caller with room for the callee's results waits
pub fits_called : (procedures : List BenchProcedure) (old new : BenchState) (callee : ℕ) (there : BenchProcedure) (caller : Activation)
    → FitsProgram procedures old → slice_get procedures callee ≡ Some there → HasRoomFor there.results caller
    → caller.procedure ≡ old.running.procedure → new.running.procedure ≡ callee → new.callers ≡ caller ∷ old.callers
    → FitsProgram procedures new
fits_called procedures old new callee there caller fits found room same is callers = record {
  runs = rw is (slice_get_within procedures callee there found);
  room =
      rw (is, callers) (
        subst (λ (p : Option BenchProcedure). IfSome p (λ q. HasRoomFor q.results caller)) (sym found) room,
        subst (λ n. HasRoomAfter procedures n old.callers) (sym same) fits.room,
      );
}

-- where a caller waits, it has room for the results of the procedure that runs
pub caller_has_room : (procedures : List BenchProcedure) (here : BenchProcedure) (n : ℕ) (callers : List Activation)
    → slice_get procedures n ≡ Some here → HasRoomAfter procedures n callers → CallerHasRoom here.results callers
caller_has_room procedures here n [] found room = tt
caller_has_room procedures here n (caller ∷ callers) found room =
    subst (λ (p : Option BenchProcedure). IfSome p (λ q. HasRoomFor q.results caller)) found room.0

-- a return, which goes on with the nearest caller or traps
pub fits_returning : (procedures : List BenchProcedure) (old new : BenchState) (result : Result Effect Trap)
    → FitsProgram procedures old → KeepsUnlessGoes result old new → OnOk result (CallerGoesOn old new) → FitsProgram procedures new
fits_returning procedures old new (Ok effect) fits kept goes =
    let room = subst (λ (cs : List Activation). HasRoomAfter procedures old.running.procedure cs) goes.callers fits.room in
    let lower = goes.lower in
    let runs = fits.runs in
    record {
      runs = rw goes.procedure (omega (arith, lower, runs));
      room = rw goes.procedure room.1;
    }
fits_returning procedures old new (Err trap) fits kept goes = rw kept fits

-- Calls

-- a procedure that can't be called
pub cannot_call : (setup : Setup) (s : BenchState) (callee : ℕ) (there : BenchProcedure) (trap : Trap)
    → callee_of setup.procedures s.running.procedure callee ≡ Some there
    → CannotBeCalled s.running there.parameters there.results trap → calling setup s callee (Traps trap)
cannot_call setup s callee there trap found (inl (none, e)) = inr (there, found, inl (none, ap Traps e))
cannot_call setup s callee there trap found (inr (some, full, e)) =
    let m = there.parameters in
    let ops = s.running.operands in
    inr (there, found, inr ((take m ops, drop m ops), some, inl (full, ap Traps e)))

-- one that is called
pub called_on : (setup : Setup) (s new : BenchState) (callee : ℕ) (there : BenchProcedure) (begun left : Activation)
    → callee_of setup.procedures s.running.procedure callee ≡ Some there
    → IsCalledFor s.running callee there.parameters there.results begun left
    → new ≡ stepped (record s { running = begun; callers = record left { pc = s.running.pc + 2 } ∷ s.callers })
    → calling setup s callee (Goes new None)
called_on setup s new callee there begun left found is e =
    let m = there.parameters in
    let ops = s.running.operands in
    let room : length (drop m ops) + there.results ≤ 8 =
    subst (λ (a : Activation). length a.operands + there.results ≤ 8) is.caller is.room in
    let same : new ≡ called callee (take m ops) (drop m ops) (Call callee) s =
    e ∙ (λ i. stepped (record s {
      running = is.callee i;
      callers = record (is.caller i) { pc = s.running.pc + 2 } ∷ s.callers;
    })) in
    inr (there, found, inr ((take m ops, drop m ops), is.enough, inr (room, ap (λ (t : BenchState). Goes t None) same)))
