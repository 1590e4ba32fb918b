-- Single steps, computed of the definitions.
use Rattle.std.proofs.Common.{◌≡◌, ℕ, List, [], ◌∷◌, length, refl, sym, ap, subst, inl, inr, arith, lit<, lit≤, true, false}
use Rattle.std.specs.Prelude.{ℤ, pos, negsuc, Option, Some, None, replicate, slice_index}
use Rattle.std.proofs.lemmas.Int.{ints}
use Rattle.std.proofs.lemmas.Option.{same_Some}
use Rattle.burr_voxels.specs.declared.cell.Cell.{Cell}
use Rattle.burr_voxels.specs.declared.direction.Direction.TheVariants.{PlusX, MinusX}
use Rattle.burr_voxels.specs.Grid.{at, origin}
use Rattle.burr_code.specs.declared.placement.Placement.{Placement}
use Rattle.burr_code.specs.declared.placement.Placement.TheVariants.{Apart, On}
use Rattle.burr_code.specs.Places.{aside_places}
use Rattle.burr_code.specs.Instruction.{Instruction, Halt, Push, Load, Store, Add, Sub, Drop, Grip, Step, Aside, Tray, Jump, Down, Ask, Pick, Call, Ret, IsInRange, Begins}
use Rattle.burr_code.specs.Labels.{argument_slots}
use Rattle.burr_code.proofs.Common.Reading.{read, read_begun}
use Rattle.burr_state.specs.declared.effect.Trap.TheVariants as traps
use Rattle.burr_state.specs.declared.effect.Mode.TheVariants.{Running, Ended}
use Rattle.burr_state.specs.Rules.Bench.{Activation, activation, BenchState, BenchProcedure, Setup, bare, bare_procedure, start}
use Rattle.burr_state.specs.Rules.Next.{Goes, Asks, Traps}
use Rattle.burr_state.specs.Rules.Space.{motion_of}
use Rattle.burr_state.specs.Rules.Questions.{Fits, Takes}
use Rattle.burr_state.specs.Rules.Step.{Executes, NextIs}
use Rattle.burr_state.specs.Views.Parts.{parts}
use Rattle.burr_code.proofs.Common.Conditions.{apart-on}
use Rattle.burr_state.proofs.Common.TwoCubes.{homes, both_here, both_apart, a_along_x, one_some, a_lies, a_is_gone, b_stays, none_stays, tray_is_free, both_are_apart, group_is_free, group_is_blocked, a_is_on_bench, a_meets_b, a_misses_b}

-- A procedure that main called: its one parameter is slot 0, and its labels are at 3 and 8

abbrev here : BenchProcedure
here = record { parameters = 1; results = 0; labels = 3 ∷ 8 ∷ []; code = [] }

-- it may call another, of two parameters and one result
abbrev callee : BenchProcedure
callee = record { parameters = 2; results = 1; labels = []; code = [] }

abbrev plan : Setup
plan = record { homes = []; procedures = bare_procedure [] ∷ here ∷ callee ∷ [] }

-- eight slots with nothing in them
abbrev empty : List (Option ℤ)
empty = replicate 8 None

-- main, after its call
abbrev caller : Activation
caller = activation 0 7 empty []

-- this in slot 1 alone
abbrev slot_1 : ℤ → List (Option ℤ)
slot_1 x = None ∷ Some x ∷ replicate 6 None

-- the procedure at its begin, with these slots and operands
abbrev at_begin : List (Option ℤ) → List ℤ → BenchState
at_begin slots operands = record { places = []; tray = 0; grip = 0; running = activation 1 0 slots operands; callers = caller ∷ []; steps = 0; mode = Running }

-- one step later, at this place
abbrev one_on : ℕ → List (Option ℤ) → List ℤ → BenchState
one_on pc slots operands = record (at_begin slots operands) { running = activation 1 pc slots operands; steps = 1 }

-- Operands

-- push 5 on eight operands
push_on_eight : Executes plan here (at_begin empty (replicate 8 (pos 1))) (Push (pos 5)) (Traps traps.StackFull)
push_on_eight = inl (λ room. omega (arith, room), refl)

-- push 5 on none
push_on_none : Executes plan here (at_begin empty []) (Push (pos 5)) (Goes (one_on 3 empty (pos 5 ∷ [])) None)
push_on_none = inr (lit< tt, refl)

-- 32767 + 1
add_too_much : Executes plan here (at_begin empty (pos 1 ∷ pos 32767 ∷ [])) Add (Traps traps.NumberRange)
add_too_much = inr ((pos 1, pos 32767, []), refl, inl (λ number. omega (arith, ints, number.1), refl))

-- 7 below, and 2 on top
sub_top_from_below : Executes plan here (at_begin empty (pos 2 ∷ pos 7 ∷ [])) Sub (Goes (one_on 1 empty (pos 5 ∷ [])) None)
sub_top_from_below = inr ((pos 2, pos 7, []), refl, inr ((omega (arith, ints), omega (arith, ints)), refl))

-- drop of no operand
drop_of_none : Executes plan here (at_begin empty []) Drop (Traps traps.MissingOperand)
drop_of_none = inl (refl, refl)

-- load of an empty slot
load_of_empty : Executes plan here (at_begin empty []) (Load 1) (Traps traps.EmptySlot)
load_of_empty = inl (refl, refl)

-- load of 2
load_of_2 : Executes plan here (at_begin (slot_1 (pos 2)) []) (Load 1) (Goes (one_on 2 (slot_1 (pos 2)) (pos 2 ∷ [])) None)
load_of_2 = inr (pos 2, refl, inr (lit< tt, refl))

-- store into the parameter
store_into_parameter : Executes plan here (at_begin empty (pos 4 ∷ [])) (Store 0) (Traps traps.ParamWritten)
store_into_parameter = inl (λ may. omega (arith, may), refl)

-- store into slot 1
store_into_slot : Executes plan here (at_begin (slot_1 (pos 2)) (pos 4 ∷ [])) (Store 1) (Goes (one_on 2 (slot_1 (pos 4)) []) None)
store_into_slot = inr (lit≤ tt, inr ((pos 4, []), refl, refl))

-- Control

-- jump to a label that is not there
jump_to_no_label : Executes plan here (at_begin empty []) (Jump 2) (Traps traps.BadJump)
jump_to_no_label = inl (refl, refl)

-- jump to label 1
jump_to_label : Executes plan here (at_begin empty []) (Jump 1) (Goes (one_on 8 empty []) None)
jump_to_label = inr (8, refl, refl)

-- down at 2: to its label, and 1 is left
down_at_2 : Executes plan here (at_begin (slot_1 (pos 2)) []) (Down 1 0) (Goes (one_on 3 (slot_1 (pos 1)) []) None)
down_at_2 = inr (3, refl, inr (lit≤ tt, inr (pos 2, refl, inr (omega (arith, ints), refl))))

-- down at 0: on after
down_at_0 : Executes plan here (at_begin (slot_1 (pos 0)) []) (Down 1 0) (Goes (one_on 4 (slot_1 (pos 0)) []) None)
down_at_0 = inr (3, refl, inr (lit≤ tt, inr (pos 0, refl, inr (omega (arith, ints), refl))))

-- down below 0
down_below_0 : Executes plan here (at_begin (slot_1 (negsuc 0)) []) (Down 1 0) (Traps traps.BadCount)
down_below_0 = inr (3, refl, inr (lit≤ tt, inr (negsuc 0, refl, inl (λ some. omega (arith, ints, some), refl))))

-- the argument that was pushed last is in the last slot
last_argument : argument_slots (pos 9 ∷ pos 4 ∷ []) ≡ Some (pos 4) ∷ Some (pos 9) ∷ replicate 6 None
last_argument = refl

-- call with 4, then 9 on top; the 1 below stays
call_with_two : Executes plan here (at_begin empty (pos 9 ∷ pos 4 ∷ pos 1 ∷ [])) (Call 2)
    (Goes (record (one_on 0 empty []) { running = activation 2 0 (Some (pos 4) ∷ Some (pos 9) ∷ replicate 6 None) []; callers = activation 1 2 empty (pos 1 ∷ []) ∷ caller ∷ [] }) None)
call_with_two = inr (callee, refl, inr ((pos 9 ∷ pos 4 ∷ [], pos 1 ∷ []), refl, inr (lit≤ tt, refl)))

-- call of the running procedure
call_of_itself : Executes plan here (at_begin empty []) (Call 1) (Traps traps.BadCall)
call_of_itself = inl (refl, refl)

-- the result comes on the caller's operands
ret_with_one : Executes plan callee (record (at_begin empty []) { running = activation 2 0 empty (pos 6 ∷ pos 5 ∷ []); callers = activation 1 2 empty (pos 1 ∷ []) ∷ caller ∷ [] }) Ret
    (Goes (one_on 2 empty (pos 6 ∷ pos 1 ∷ [])) None)
ret_with_one = inr ((activation 1 2 empty (pos 1 ∷ []), caller ∷ []), refl, inr ((pos 6 ∷ [], pos 5 ∷ []), refl, refl))

-- ret of main
ret_of_main : Executes plan (bare_procedure []) (start plan) Ret (Traps traps.Misplaced)
ret_of_main = inl (refl, refl)

-- Questions

-- pick of labels 1 and 0 asks for 0 or 1
pick_of_two : Executes plan here (at_begin empty []) (Pick (1 ∷ 0 ∷ [])) (Asks (pos 0) (pos 1))
pick_of_two = inr (8 ∷ 3 ∷ [], refl, refl)

-- and answered 1 goes to label 0
pick_answered_1 : Takes here (at_begin empty []) (Pick (1 ∷ 0 ∷ [])) (pos 1) (one_on 3 empty [])
pick_answered_1 = (1, 0, 3, refl, refl, refl, refl)

-- ask for 0 to 2
ask_from_0_to_2 : Executes plan here (at_begin empty []) (Ask (pos 0) (pos 2)) (Asks (pos 0) (pos 2))
ask_from_0_to_2 = inr (lit< tt, refl)

-- 1 fits, and is pushed
ask_answered_1 : Fits (pos 0) (pos 2) (pos 1) × Takes here (at_begin empty []) (Ask (pos 0) (pos 2)) (pos 1) (one_on 5 empty (pos 1 ∷ []))
ask_answered_1 = ((omega (arith, ints), omega (arith, ints)), refl)

-- 5 does not fit
ask_answered_5 : ¬ Fits (pos 0) (pos 2) (pos 5)
ask_answered_5 fits = omega (arith, ints, fits.1)

-- Two cubes side by side

abbrev cubes : Setup
cubes = bare homes []

abbrev main : BenchProcedure
main = bare_procedure []

-- main at its begin, with this grip and these places
abbrev holding : ℕ → List (Placement Cell) → BenchState
holding grip places = record (start cubes) { places = places; grip = grip }

-- one step later, at this place
abbrev then_holding : ℕ → ℕ → List (Placement Cell) → BenchState
then_holding pc grip places = record (holding grip places) { running = activation 0 pc empty []; steps = 1 }

-- grip A
grip_of_a : Executes cubes main (holding 0 both_here) (Grip 1) (Goes (then_holding 5 1 both_here) None)
grip_of_a = inr (a_lies, refl)

-- grip A that is apart
grip_of_gone : Executes cubes main (holding 0 both_apart) (Grip 1) (Traps traps.GripOff)
grip_of_gone = inl (a_is_gone, refl)

-- step of no piece
step_of_none : Executes cubes main (holding 0 both_here) (Step PlusX) (Traps traps.BadGroup)
step_of_none = inl (λ some. some refl, refl)

-- step of A onto B
step_onto_b : Executes cubes main (holding 1 both_here) (Step PlusX) (Traps traps.Collision)
step_onto_b = inr (one_some, inr (a_is_on_bench (pos 1) (omega (arith, ints)) (omega (arith, ints)), inl (a_meets_b, refl)))

-- step of A off the bench
step_off_bench : Executes cubes main (holding 1 (a_along_x (pos 256))) (Step PlusX) (Traps traps.OffBench)
step_off_bench = inr (one_some, inl (λ on. let within = on 0 (at (pos 257) (pos 0) (pos 0)) refl in omega (arith, ints, within.x_below), refl))

-- step of A away from B
step_away : Executes cubes main (holding 1 both_here) (Step MinusX) (Goes (then_holding 2 1 (a_along_x (negsuc 0))) (Some (motion_of 1 0 MinusX false)))
step_away = inr (one_some, inr (a_is_on_bench (negsuc 0) (omega (arith, ints)) (omega (arith, ints)), inr (a_misses_b, refl)))

-- aside of all pieces of the tray
aside_of_all : Executes cubes main (holding 3 both_here) (Aside MinusX 1) (Traps traps.BadGroup)
aside_of_all = inl (none_stays, refl)

-- aside to a tray that has pieces
aside_to_same : Executes cubes main (holding 1 both_here) (Aside MinusX 0) (Traps traps.TrayInUse)
aside_to_same = inr (b_stays, inl (λ none. none 0 (origin, refl), refl))

-- aside of A towards B
aside_onto_b : Executes cubes main (holding 1 both_here) (Aside PlusX 1) (Traps traps.NotFree)
aside_onto_b = inr (b_stays, inr (tray_is_free, inl (group_is_blocked, refl)))

-- aside of A away from B
aside_away : Executes cubes main (holding 1 both_here) (Aside MinusX 1) (Goes (then_holding 3 0 both_apart) (Some (motion_of 1 0 MinusX true)))
aside_away = inr (b_stays, inr (tray_is_free, inr (group_is_free, refl)))

-- another tray: nothing is gripped
tray_3 : Executes cubes main (holding 1 both_here) (Tray 3) (Goes (record (then_holding 2 0 both_here) { tray = 3 }) None)
tray_3 = refl

-- halt where pieces are in a tray
halt_too_soon : Executes cubes main (holding 0 both_here) Halt (Traps traps.NotApart)
halt_too_soon = inr (refl, inl (λ apart. apart-on 0 origin (sym (apart 0 (On 0 origin) refl)), refl))

-- halt of a procedure that was called
halt_of_called : Executes plan here (at_begin empty []) Halt (Traps traps.Misplaced)
halt_of_called = inl (λ is. omega (arith, is), refl)

-- halt where all are apart: pc stays
halt_apart : Executes cubes main (holding 0 both_apart) Halt (Goes (record (then_holding 0 0 both_apart) { mode = Ended }) None)
halt_apart = inr (refl, inr (both_are_apart, refl))

-- Code at which no instruction begins

-- at code that begins with no instruction
stands_nowhere : (code : List ℕ) → ¬ (IsInRange (read code) × Begins code (read code)) → NextIs (bare [] code) (start (bare [] code)) (Traps traps.BadCode)
stands_nowhere code none = inr (
  λ there i at.
      let begins = subst (λ (p : BenchProcedure). Begins p.code i) (sym (same_Some _ _ at.0)) at.1.begins in
      let is = read_begun code i at.1.in_range begins in
      none (subst (λ (j : Instruction). IsInRange j × Begins code j) (sym is) (at.1.in_range, begins)),
  refl,
)

-- the first byte of no instruction
unknown_byte : NextIs (bare [] (0xff ∷ [])) (start (bare [] (0xff ∷ []))) (Traps traps.BadCode)
unknown_byte = stands_nowhere (0xff ∷ []) (λ both. let first = ap (λ (bytes : List ℕ). slice_index bytes 0) both.1.1 in omega (arith, first))

-- a grip whose bytes break off
cut_off : NextIs (bare [] (0x10 ∷ 0 ∷ 0 ∷ [])) (start (bare [] (0x10 ∷ 0 ∷ 0 ∷ []))) (Traps traps.BadCode)
cut_off = stands_nowhere (0x10 ∷ 0 ∷ 0 ∷ []) (λ both. let size = ap (λ (bytes : List ℕ). length bytes) both.1.1 in omega (arith, size))

-- a grip of no piece
empty_grip : NextIs (bare [] (0x10 ∷ 0 ∷ 0 ∷ 0 ∷ 0 ∷ [])) (start (bare [] (0x10 ∷ 0 ∷ 0 ∷ 0 ∷ 0 ∷ []))) (Traps traps.BadCode)
empty_grip = stands_nowhere (0x10 ∷ 0 ∷ 0 ∷ 0 ∷ 0 ∷ []) (λ both. both.0.0 refl)

-- the end of the code
no_code : NextIs (bare [] []) (start (bare [] [])) (Traps traps.BadCode)
no_code = stands_nowhere [] (λ both. let size = ap (λ (bytes : List ℕ). length bytes) both.1.1 in omega (arith, size))

-- Places after an aside

-- of two pieces one goes, and each is apart
one_of_two : aside_places {Position = Cell} 1 0 1 (On 0 origin ∷ On 0 origin ∷ []) ≡ Apart ∷ Apart ∷ []
one_of_two = refl

-- of three pieces one goes
one_of_three : aside_places {Position = Cell} 1 0 1 (On 0 origin ∷ On 0 origin ∷ On 0 origin ∷ []) ≡ Apart ∷ On 0 origin ∷ On 0 origin ∷ []
one_of_three = refl

-- of three pieces two go
two_of_three : aside_places {Position = Cell} 3 0 1 (On 0 origin ∷ On 0 origin ∷ On 0 origin ∷ []) ≡ On 1 origin ∷ On 1 origin ∷ Apart ∷ []
two_of_three = refl

-- of four pieces two go, and each tray has two
two_and_two : aside_places {Position = Cell} 12 0 1 (On 0 origin ∷ On 0 origin ∷ On 0 origin ∷ On 0 origin ∷ []) ≡ On 0 origin ∷ On 0 origin ∷ On 1 origin ∷ On 1 origin ∷ []
two_and_two = refl

-- two trays in play, and a piece that is apart
three_parts : parts {Position = Cell} (On 0 origin ∷ On 1 origin ∷ Apart ∷ On 0 origin ∷ On 1 origin ∷ []) ≡ 3
three_parts = refl
