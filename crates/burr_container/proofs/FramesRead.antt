-- Reading frames, part by part.
use Rattle.std.proofs.Common.{◌≡◌, ℕ, Bool, List, Option, inl, ◌∙◌, subst}
use Rattle.burr_code.specs.declared.limits.TheConstants.{MOST_OPERANDS, MOST_GUARDS}
use Rattle.burr_forms.specs.Rules.Forms.{Form}
use Rattle.burr_container.specs.declared.fault.ContainerFault.{ContainerFault}
use Rattle.burr_container.specs.declared.fault.ContainerFault.TheVariants.{C4}
use Rattle.burr_container.specs.declared.reading.cursor.Cursor.{Cursor}
use Rattle.burr_container.specs.Rules.Plans.{Range, live_slots}
use Rattle.burr_container.specs.Rules.Fitting.{is_tray, is_set_of}
use Rattle.burr_container.specs.Rules.Faults.{Failing, number, slots, form, forms, place, places, each, first, frame}
use Rattle.burr_container.specs.Views.Reading.{IsAt}
use Rattle.burr_container.proofs.Common.Lawful.{Front, OfFirst}
use Rattle.burr_container.proofs.Common.Lists.{OfEach}
use Rattle.burr_container.proofs.Common.Frames.{FormPlaces, AfterHead, OfCost, cost_fails, OfStack, stack_fails, OfGuards, guards_fail, OfSlotsOn, slots_fail, OfHead, head_fails, frame_of, places_made}
use Rattle.burr_container.proofs.Common.Judging.Frames.{frame_back}
use Rattle.burr_container.proofs.Chains.{IsAfter, small_of, after_part, stands_at, then_fails, then_stands}

-- a tray stands there, and the set of pieces fails
pub set_fails : (pieces tray : ℕ) (cursor after_tray : Cursor)
    → IsAt (number 1 C4 is_tray) cursor tray after_tray → (more : Failing) (fault : ContainerFault)
    → (number 4 C4 (is_set_of pieces)).Fails after_tray.at after_tray.rest.now fault
    → head_fails pieces more cursor.at cursor.rest.now fault
set_fails pieces tray cursor after_tray tray_at more fault fails =
    then_fails (number 1 C4 is_tray) cursor after_tray tray
    (λ tray. first (number 4 C4 (is_set_of pieces)) (λ grip. more)) fault tray_at (inl fails)

-- a tray and a set of pieces
module _ (pieces tray grip : ℕ) (cursor after_tray after_grip : Cursor)
    (tray_at : IsAt (number 1 C4 is_tray) cursor tray after_tray)
    (grip_at : IsAt (number 4 C4 (is_set_of pieces)) after_tray grip after_grip) where
  pub head_then_fails : (more : Failing) (fault : ContainerFault)
      → more after_grip.at after_grip.rest.now fault
      → head_fails pieces more cursor.at cursor.rest.now fault
  head_then_fails more fault fails =
      then_fails (number 1 C4 is_tray) cursor after_tray tray
      (λ tray. first (number 4 C4 (is_set_of pieces)) (λ grip. more)) fault tray_at
      (then_fails (number 4 C4 (is_set_of pieces)) after_tray after_grip grip (λ grip. more)
      fault grip_at fails)

  pub head_then_stands : {B : Type 0} (More : Front B) (b : B) (r : List ℕ)
      → More b after_grip.rest.now r → OfHead pieces More (tray, (grip, b)) cursor.rest.now r
  head_then_stands More b r more =
      then_stands (number 1 C4 is_tray) cursor after_tray tray
      (λ tray. OfFirst (number 4 C4 (is_set_of pieces)) (λ grip. More)) (grip, b) r tray_at
      (then_stands (number 4 C4 (is_set_of pieces)) after_tray after_grip grip (λ grip. More) b r
      grip_at more)

  pub head_after : IsAfter cursor after_grip
  head_after =
      after_part (number 4 C4 (is_set_of pieces)) after_tray after_grip grip grip_at
      ∙ after_part (number 1 C4 is_tray) cursor after_tray tray tray_at

  pub slots_fail_in_frame : (fault : ContainerFault)
      → slots.Fails after_grip.at after_grip.rest.now fault
      → (frame pieces).Fails cursor.at cursor.rest.now fault
  slots_fail_in_frame fault fails = head_then_fails (slots_fail pieces) fault (inl fails)

  -- slots after them
  module _ (ranges : List (Option Range)) (live : List Bool) (e : live ≡ live_slots ranges)
      (after_slots : Cursor) (slots_at : IsAt slots after_grip ranges after_slots) where
    slots_then_fail : (fault : ContainerFault)
        → guards_fail pieces live after_slots.at after_slots.rest.now fault
        → (frame pieces).Fails cursor.at cursor.rest.now fault
    slots_then_fail fault fails =
        head_then_fails (slots_fail pieces) fault
        (then_fails slots after_grip after_slots ranges
        (λ s. guards_fail pieces (live_slots s)) fault slots_at
        (subst
        (λ (l : List Bool). guards_fail pieces l after_slots.at after_slots.rest.now fault) e
        fails))

    pub guards_fail_in_frame : (fault : ContainerFault)
        → (forms MOST_GUARDS live).Fails after_slots.at after_slots.rest.now fault
        → (frame pieces).Fails cursor.at cursor.rest.now fault
    guards_fail_in_frame fault fails = slots_then_fail fault (inl fails)

    module _ (guards : List Form) (after_guards : Cursor)
        (guards_at : IsAt (forms MOST_GUARDS live) after_slots guards after_guards) where
      guards_then_fail : (fault : ContainerFault)
          → stack_fails pieces live after_guards.at after_guards.rest.now fault
          → (frame pieces).Fails cursor.at cursor.rest.now fault
      guards_then_fail fault fails =
          slots_then_fail fault
          (then_fails (forms MOST_GUARDS live) after_slots after_guards guards
          (λ guards. stack_fails pieces live) fault guards_at fails)

      pub stack_fails_in_frame : (fault : ContainerFault)
          → (forms MOST_OPERANDS live).Fails after_guards.at after_guards.rest.now fault
          → (frame pieces).Fails cursor.at cursor.rest.now fault
      stack_fails_in_frame fault fails = guards_then_fail fault (inl fails)

      module _ (stack : List Form) (after_stack : Cursor)
          (stack_at : IsAt (forms MOST_OPERANDS live) after_guards stack after_stack) where
        stack_then_fails : (fault : ContainerFault)
            → cost_fails pieces live after_stack.at after_stack.rest.now fault
            → (frame pieces).Fails cursor.at cursor.rest.now fault
        stack_then_fails fault fails =
            guards_then_fail fault
            (then_fails (forms MOST_OPERANDS live) after_guards after_stack stack
            (λ stack. cost_fails pieces live) fault stack_at fails)

        pub cost_fails_in_frame : (fault : ContainerFault)
            → (form live).Fails after_stack.at after_stack.rest.now fault
            → (frame pieces).Fails cursor.at cursor.rest.now fault
        cost_fails_in_frame fault fails = stack_then_fails fault (inl fails)

        module _ (cost : Form) (after_cost : Cursor)
            (cost_at : IsAt (form live) after_stack cost after_cost) where
          pub places_fail_in_frame : (fault : ContainerFault)
              → (places pieces live).Fails after_cost.at after_cost.rest.now fault
              → (frame pieces).Fails cursor.at cursor.rest.now fault
          places_fail_in_frame fault fails =
              stack_then_fails fault
              (then_fails (form live) after_stack after_cost cost
              (λ cost. each pieces (place live)) fault cost_at fails)

          pub frame_at : (ps : FormPlaces) (next : Cursor)
              → IsAt (places pieces live) after_cost ps next
              → IsAt (frame pieces) cursor
              (frame_of (tray, (grip, (ranges, (guards, (stack, (cost, ps))))))) next
          frame_at ps next places_at =
              let values : ℕ × (ℕ × AfterHead) =
              (tray, (grip, (ranges, (guards, (stack, (cost, ps)))))) in
              let r = next.rest.now in
              let from_cost : OfCost pieces live (cost, ps) after_stack.rest.now r =
              then_stands (form live) after_stack after_cost cost
              (λ cost. OfEach pieces (place live)) ps r cost_at
              (places_made pieces live ps after_cost.rest.now r places_at.fits
              places_at.cut.parts) in
              let from_stack : OfStack pieces live (stack, (cost, ps)) after_guards.rest.now r =
              then_stands (forms MOST_OPERANDS live) after_guards after_stack stack
              (λ stack. OfCost pieces live) (cost, ps) r stack_at from_cost in
              let from_guards : OfGuards pieces live (guards, (stack, (cost, ps)))
              after_slots.rest.now r =
              then_stands (forms MOST_GUARDS live) after_slots after_guards guards
              (λ guards. OfStack pieces live) (stack, (cost, ps)) r guards_at from_stack in
              let from_slots : OfSlotsOn pieces (ranges, (guards, (stack, (cost, ps))))
              after_grip.rest.now r =
              then_stands slots after_grip after_slots ranges
              (λ s. OfGuards pieces (live_slots s)) (guards, (stack, (cost, ps))) r slots_at
              (subst
              (λ (l : List Bool). OfGuards pieces l (guards, (stack, (cost, ps)))
              after_slots.rest.now r) e from_guards) in
              let whole =
              head_then_stands (OfSlotsOn pieces) (ranges, (guards, (stack, (cost, ps)))) r
              from_slots in
              stands_at (frame pieces) cursor next (frame_of values)
              (frame_back pieces values cursor.rest.now r (small_of cursor.rest.now cursor.bytes)
              whole)
              (after_part (places pieces live) after_cost next ps places_at
              ∙ after_part (form live) after_stack after_cost cost cost_at
              ∙ after_part (forms MOST_OPERANDS live) after_guards after_stack stack stack_at
              ∙ after_part (forms MOST_GUARDS live) after_slots after_guards guards guards_at
              ∙ after_part slots after_grip after_slots ranges slots_at ∙ head_after)
