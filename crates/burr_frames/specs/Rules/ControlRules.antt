-- The rules of instructions of the flow of control: the checks in their order, and the state
-- after.
use Rattle.std.specs.Prelude.{◌≡◌, ℕ, zero, suc, ◌+◌, ◌<◌, ◌≤◌, pos, neg_ℤ, ◌≤ℤ◌, List, [], ◌∷◌, ◌++◌, length, map, reverse, replicate, set, get_or, Option, Some, None, slice_get}
use Rattle.burr_text.specs.Checks.{needs, finds}
use Rattle.burr_code.specs.declared.limits.TheConstants.{MOST_STATE_GUARDS}
use Rattle.burr_code.specs.declared.placement.Placement.{Placement}
use Rattle.burr_code.specs.Places.{AllApart, at_position, tray_of}
use Rattle.burr_code.specs.Stacks.{top_many}
use Rattle.burr_code.specs.Labels.{callee_of, argument_slots}
use Rattle.burr_forms.specs.declared.limits.TheConstants.{MOST_POINTS}
use Rattle.burr_forms.specs.Rules.Forms.{Form, Point, value, values, symbol, minus_form, times, one_less, substituted, IsSmallForm, AllSmallForms}
use Rattle.burr_forms.specs.Rules.Points.{box_size, InBox, GuardsHold}
use Rattle.burr_container.specs.Rules.Plans.{FormCell, Frame}
use Rattle.burr_frames.specs.declared.rule.Rule.TheVariants as rules
use Rattle.burr_frames.specs.Rules.FramedPlans.{FramedExit, FramedProcedure, FramedPlan}
use Rattle.burr_frames.specs.Rules.States.{AbstractState, places_at}
use Rattle.burr_frames.specs.Rules.Arrival.{live_forms}
use Rattle.burr_frames.specs.Rules.Verdicts.{Rest, plainly, everywhere, paying, falls_through, no_successor, meeting, arriving}
use Rattle.burr_frames.specs.Rules.SpaceRules.{AllSmallPlaces}

abbrev pub halt_rule : ℕ → AbstractState → Rest
halt_rule n s =
    needs (n ≡ 0) (plainly rules.ExitMissed)
    (needs (AllApart s.places) (plainly rules.NotApart) (paying s λ paid. no_successor))

abbrev pub jump_rule : FramedProcedure → AbstractState → ℕ → Rest
jump_rule here s label =
    finds (slice_get here.labels label) (plainly rules.BadJump) λ to.
    paying s λ paid. arriving paid to.1 no_successor

-- a guard more
abbrev pub guarded : Form → AbstractState → AbstractState
guarded guard s = record s { guards = s.guards ++ guard ∷ [] }

-- where `down` goes on at its label: the counter, above 0, is one less
abbrev pub counted_down : ℕ → Form → AbstractState → AbstractState
counted_down v f s = record (guarded (one_less f) s) { slots = set s.slots v (Some (one_less f)) }

-- where it goes on after: the counter is 0
abbrev pub counted_out : Form → AbstractState → AbstractState
counted_out f s = guarded (times (neg_ℤ (pos 1)) f) s

-- A counter's form can be lowered, is negative at no point, and leaves room for a guard; and then
-- what follows, of the state that has paid.
abbrev pub lowering : AbstractState → Form → (AbstractState → Rest) → Rest
lowering s f rest =
    needs (IsSmallForm (one_less f)) (plainly rules.FormTooLarge)
    (everywhere s (λ point. pos 0 ≤ℤ value point f) rules.BadCount
    (needs (length s.guards < 8) (plainly rules.StateTooLarge) (paying s rest)))

-- The checks of `down` in their order, up to its cost, and then what follows: of the counter's form,
-- the state that has paid, and the label's frame.
abbrev pub counting_down : FramedProcedure → AbstractState → ℕ → ℕ
    → (Form → AbstractState → Frame → Rest) → Rest
counting_down here s v label rest =
    finds (slice_get here.labels label) (plainly rules.BadJump) λ to.
    needs (here.parameters ≤ v) (plainly rules.ParamWritten)
    (finds (get_or s.slots v None) (plainly rules.EmptySlot) λ f.
    lowering s f λ paid. rest f paid to.1)

-- where `down` goes on at its label, a second state
abbrev pub branch_rule : FramedProcedure → AbstractState → ℕ → ℕ → Rest
branch_rule here s v label =
    counting_down here s v label λ f paid to. falls_through (counted_down v f paid)

abbrev pub down_rule : FramedProcedure → AbstractState → ℕ → ℕ → Rest
down_rule here s v label = counting_down here s v label λ f paid to.
    arriving (counted_down v f paid) to (falls_through (counted_out f paid))

-- Calls

-- r symbols, from number n on
abbrev pub symbols_from : ℕ → ℕ → List Form
symbols_from n zero = []
symbols_from n (suc r) = symbol n ∷ symbols_from (suc n) r

abbrev pub substituted_cell : List Form → FormCell → FormCell
substituted_cell forms c = record {
  x = substituted forms c.x;
  y = substituted forms c.y;
  z = substituted forms c.z;
}

abbrev pub substituted_places : List Form → List (Placement FormCell) → List (Placement FormCell)
substituted_places forms places = map (at_position (substituted_cell forms)) places

-- the forms in the first n slots, if all are known
abbrev pub first_forms : ℕ → List (Option Form) → Option (List Form)
first_forms n forms = live_forms (replicate n (Some (pos 0, pos 0))) forms

-- the frame of label 0
abbrev pub first_frame : List (ℕ × Frame) → Option Frame
first_frame [] = None
first_frame (label ∷ labels) = Some label.1

abbrev pub entry_of : FramedProcedure → Option Frame
entry_of p = first_frame p.labels

-- the symbols that a call's results are
abbrev pub result_symbols : AbstractState → FramedExit → List Form
result_symbols s exit = symbols_from (length s.ranges) (length exit.results)

-- The state after a call, its cost not yet paid: what the exit frame says, with these forms in
-- place of its symbols, and the results on the operands.
abbrev pub after_with : AbstractState → List Form → List Form → List Form → FramedExit
    → AbstractState
after_with s forms results below exit = record s {
  ranges = s.ranges ++ exit.results;
  guards = s.guards ++ map (substituted forms) exit.guards;
  operands = reverse results ++ below;
  places = substituted_places forms exit.places;
  tray = exit.tray;
  grip = exit.grip;
}

-- the same, by the arguments: the symbols of an exit frame are they and the results
abbrev pub after_call : AbstractState → List Form → List Form → FramedExit → AbstractState
after_call s arguments below exit =
    after_with s (arguments ++ result_symbols s exit) (result_symbols s exit) below exit

abbrev pub HasRoomForSymbols : AbstractState → Type 0
HasRoomForSymbols s =
    (length s.ranges ≤ 8) × (length s.guards ≤ MOST_STATE_GUARDS)
    × (box_size s.ranges ≤ MOST_POINTS)

-- the state in which a callee begins: its arguments, given with the last of them first, and no
-- operand
abbrev pub called_with : List Form → AbstractState → AbstractState
called_with arguments s = record s { slots = argument_slots arguments; operands = [] }

-- what is left where a step and the callee's cost are paid
abbrev pub left_of : Form → Form → Form
left_of cost callee_cost = minus_form (one_less cost) callee_cost

-- the step and the callee's cost are paid, and control falls out after the call
abbrev pub paying_call : AbstractState → AbstractState → Form → Rest
paying_call s after callee_cost =
    needs (HasRoomForSymbols after) (plainly rules.StateTooLarge)
    (needs (AllSmallPlaces after.places × AllSmallForms after.guards) (plainly rules.FormTooLarge)
    (needs
    (IsSmallForm callee_cost × IsSmallForm (one_less s.cost)
    × IsSmallForm (left_of s.cost callee_cost))
    (plainly rules.FormTooLarge)
    (everywhere s (λ point. pos 0 ≤ℤ value point (left_of s.cost callee_cost)) rules.CostTooLow
    (falls_through (record after { cost = left_of s.cost callee_cost })))))

-- a call of a procedure with this many parameters and results, its entry frame and its exit frame
abbrev pub calling : AbstractState → ℕ → ℕ → Frame → FramedExit → Rest
calling s parameters results entry exit =
    finds (top_many parameters s.operands) (plainly rules.MissingOperand) λ found.
    needs (length found.1 + results ≤ 8) (plainly rules.StackFull)
    (meeting (called_with found.0 s) entry rules.EntryMissed λ arguments.
    paying_call s (after_call s (reverse found.0) found.1 exit) (substituted arguments entry.cost))

abbrev pub call_rule : FramedPlan → ℕ → AbstractState → ℕ → Rest
call_rule plan n s callee =
    finds (callee_of plan.procedures n callee) (plainly rules.BadCall) λ there.
    finds there.exit (plainly rules.BadCall) λ exit.
    finds (entry_of there) (plainly rules.EntryMissed) λ entry.
    calling s there.parameters there.results entry exit

-- tray, grip, and where each piece is, agree with an exit frame, without regard to points
abbrev pub IsAlikeExit : AbstractState → FramedExit → Type 0
IsAlikeExit s exit =
    (s.tray ≡ exit.tray) × (s.grip ≡ exit.grip)
    × (map tray_of s.places ≡ map tray_of exit.places)

-- at a point: the results are in their ranges, the guards hold, and the pieces lie as the exit
-- frame says, of the parameters and the results there
abbrev pub MeetsExitAt : AbstractState → FramedExit → List Form → List Form → Point → Type 0
MeetsExitAt s exit parameters results point =
    InBox exit.results (values point results)
    × GuardsHold exit.guards (values point (parameters ++ results))
    × (places_at point s.places ≡ places_at (values point (parameters ++ results)) exit.places)

abbrev pub ret_rule : FramedProcedure → AbstractState → Rest
ret_rule here s =
    finds here.exit (plainly rules.ExitMissed) λ exit.
    finds (first_forms here.parameters s.slots) (plainly rules.ExitMissed) λ parameters.
    finds (top_many here.results s.operands) (plainly rules.MissingOperand) λ found.
    paying s λ paid.
    needs (IsAlikeExit s exit) (plainly rules.ExitMissed)
    (everywhere s (MeetsExitAt s exit parameters (reverse found.0)) rules.ExitMissed no_successor)
