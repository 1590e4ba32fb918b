-- Instructions of the flow of control: their traps in the order in which they are tried, and then
-- the effect. Calls follow the JVM Specification, 2.6.1 and 2.6.2.
use Rattle.std.specs.Prelude.{◌≡◌, ℕ, zero, suc, ◌+◌, ◌≤◌, ℤ, pos, negsuc, ◌-ℤ◌, ◌≤ℤ◌, List, [], ◌∷◌, ◌++◌, length, None, slice_get, get_or}
use Rattle.burr_text.specs.Checks.{needs, finds}
use Rattle.burr_code.specs.Instruction.{Instruction, Down, Call, spelled}
use Rattle.burr_code.specs.Places.{AllApart}
use Rattle.burr_code.specs.Stacks.{top, top_many}
use Rattle.burr_code.specs.Labels.{callee_of, argument_slots}
use Rattle.burr_state.specs.declared.effect.Mode.TheVariants.{Ended}
use Rattle.burr_state.specs.declared.effect.Trap.TheVariants as traps
use Rattle.burr_state.specs.Rules.Bench.{Activation, activation, BenchState, BenchProcedure, Setup}
use Rattle.burr_state.specs.Rules.Next.{Next, Traps, goes, stepped, after, at_label}
use Rattle.burr_state.specs.Rules.Numbers.{with_slot}

-- `halt`: the run has ended; pc stays
abbrev pub halting : BenchState → Next → Type 0
halting s =
    needs (s.running.procedure ≡ 0) (Traps traps.Misplaced)
    (needs (AllApart s.places) (Traps traps.NotApart)
    (goes (stepped (record s { mode = Ended })) None))

-- `jump`: goes on at the label
abbrev pub jumping : BenchProcedure → BenchState → ℕ → Next → Type 0
jumping here s label =
    finds (slice_get here.labels label) (Traps traps.BadJump) λ to.
    goes (at_label to s.running s) None

-- at 0 the first, else the second
abbrev pub by_count : {A : Type 0} → ℤ → A → A → A
by_count (pos zero) at_zero above = at_zero
by_count (pos (suc n)) at_zero above = above
by_count (negsuc n) at_zero above = above

-- `down`: at 0 it goes on after, else the slot holds one less and it goes on at the label
abbrev pub counting_down : BenchProcedure → BenchState → ℕ → ℕ → Next → Type 0
counting_down here s v label =
    finds (slice_get here.labels label) (Traps traps.BadJump) λ to.
    needs (here.parameters ≤ v) (Traps traps.ParamWritten)
    (finds (get_or s.running.slots v None) (Traps traps.EmptySlot) λ x.
    needs (pos 0 ≤ℤ x) (Traps traps.BadCount)
    (goes (by_count x (after (Down v label) s.running s)
    (at_label to (with_slot v (x -ℤ pos 1) s.running) s)) None))

-- an activation of the callee, with these arguments, above the caller after its call
abbrev pub called : ℕ → List ℤ → List ℤ → Instruction → BenchState → BenchState
called callee arguments below i s = stepped (record s {
  running = activation callee 0 (argument_slots arguments) [];
  callers =
      record s.running { pc = s.running.pc + length (spelled i); operands = below } ∷ s.callers;
})

-- `call`: the topmost operands become the callee's first slots, the top the last of them
abbrev pub calling : Setup → BenchState → ℕ → Next → Type 0
calling setup s callee =
    finds (callee_of setup.procedures s.running.procedure callee) (Traps traps.BadCall) λ there.
    finds (top_many there.parameters s.running.operands) (Traps traps.MissingOperand) λ found.
    needs (length found.1 + there.results ≤ 8) (Traps traps.StackFull)
    (goes (called callee found.0 found.1 (Call callee) s) None)

-- the caller goes on, with these results on its operands
abbrev pub returned : List ℤ → Activation → List Activation → BenchState → BenchState
returned results caller callers s = stepped (record s {
  running = record caller { operands = results ++ caller.operands };
  callers = callers;
})

-- `ret`: the activation ends, and its topmost operands are the results
abbrev pub returning : BenchProcedure → BenchState → Next → Type 0
returning here s =
    finds (top s.callers) (Traps traps.Misplaced) λ up.
    finds (top_many here.results s.running.operands) (Traps traps.MissingOperand) λ found.
    goes (returned found.0 up.0 up.1 s) None
