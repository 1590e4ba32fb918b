-- For crates above too: what an instruction keeps of a state, and which states are tidy.
use Rattle.std.proofs.Common.{◌≡◌, ℕ, ◌+◌, ◌≤◌, List, [], ◌∷◌, ◌++◌, length, Some, ◌∙◌, arith, length-append}
use Rattle.std.specs.Prelude.{ℤ, map, reverse}
use Rattle.std.proofs.lemmas.List.{length-set}
use Rattle.burr_code.specs.declared.placement.Placement.{Placement}
use Rattle.burr_code.specs.Stacks.{top, top_many}
use Rattle.burr_code.specs.Labels.{argument_slots}
use Rattle.burr_forms.specs.Rules.Forms.{Form, one_less, substituted}
use Rattle.burr_container.specs.Rules.Plans.{FormCell, Range, Frame}
use Rattle.burr_frames.specs.Rules.FramedPlans.{FramedExit}
use Rattle.burr_frames.specs.Rules.States.{AbstractState, state_of}
use Rattle.burr_frames.specs.Rules.Arrival.{live_forms}
use Rattle.burr_frames.specs.Rules.Looks.{HasRoom}
use Rattle.burr_frames.specs.Rules.ControlRules.{after_call, guarded, left_of, result_symbols}
use Rattle.burr_frames.specs.Rules.NumberRules.{with_operands, with_slot}
use Rattle.burr_frames.specs.Rules.QuestionRules.{asked, with_symbol}
use Rattle.burr_frames.specs.Views.Over.{IsWellScoped, AllOver, AllPlacesOver, IsTidy, IsWellScopedFrame}
use Rattle.burr_frames.proofs.Common.Over.{over_more, over_minus, over_substituted, all_more, all_appended, all_substituted, all_symbols, over_reverse, arguments_over, top_over, set_over, numbered_over, numbered_length, places_over_more, substituted_over}

-- what is kept: there is room, and all forms are over the state's symbols
pub record Keeps (s t : AbstractState) : Type 0 where
  pub room : HasRoom s → HasRoom t
  pub tidy : IsTidy s → IsTidy t

pub frame_is_tidy : (f : Frame) → length f.slots ≡ 8 → IsWellScopedFrame f → IsTidy (state_of f)
frame_is_tidy f eight own = record {
  eight = numbered_length 0 f.slots ∙ eight;
  guards = own.guards;
  slots = numbered_over 0 _ f.slots (omega arith);
  operands = over_reverse _ f.stack [] own.stack tt;
  places = own.places;
  cost = own.cost;
}

-- Of the same symbols: a step is paid for, and the operands change,

abbrev paid_for : AbstractState → AbstractState
paid_for s = record s { cost = one_less s.cost }

pub new_operands : {s : AbstractState} {operands : List Form} → (IsTidy s → AllOver (length s.ranges) operands)
    → Keeps s (with_operands operands (paid_for s))
new_operands over = record {
  room = λ room. room;
  tidy = λ tidy. record {
    eight = tidy.eight;
    guards = tidy.guards;
    slots = tidy.slots;
    operands = over tidy;
    places = tidy.places;
    cost = tidy.cost;
  };
}

-- or the bench,
pub new_places : {s : AbstractState} {places : List (Placement FormCell)} {tray grip : ℕ}
    → (IsTidy s → AllPlacesOver (length s.ranges) places)
    → Keeps s (record (paid_for s) { places = places; tray = tray; grip = grip })
new_places over = record {
  room = λ room. room;
  tidy = λ tidy. record {
    eight = tidy.eight;
    guards = tidy.guards;
    slots = tidy.slots;
    operands = tidy.operands;
    places = over tidy;
    cost = tidy.cost;
  };
}

-- or the topmost operand goes to a slot,
pub new_slot : {s : AbstractState} (v : ℕ) (found : Form × List Form) → top s.operands ≡ Some found
    → Keeps s (with_slot v found.0 found.1 (paid_for s))
new_slot {s} v found is = record {
  room = λ room. room;
  tidy = λ tidy. let over = top_over (length s.ranges) s.operands found is tidy.operands in record {
    eight = length-set s.slots v _ ∙ tidy.eight;
    guards = tidy.guards;
    slots = set_over (length s.ranges) s.slots v found.0 over.0 tidy.slots;
    operands = over.1;
    places = tidy.places;
    cost = tidy.cost;
  };
}

-- or there is a guard more.
pub new_guard : {s : AbstractState} (guard : Form) → (IsTidy s → IsWellScoped (length s.ranges) guard)
    → Keeps s (guarded guard (paid_for s))
new_guard {s} guard over = record {
  room = λ room. room;
  tidy = λ tidy. record {
    eight = tidy.eight;
    guards = all_appended (length s.ranges) s.guards (guard ∷ []) tidy.guards (over tidy, tt);
    slots = tidy.slots;
    operands = tidy.operands;
    places = tidy.places;
    cost = tidy.cost;
  };
}

-- With more symbols

no_fewer : (ranges more : List Range) → length ranges ≤ length (ranges ++ more)
no_fewer ranges more = let long = length-append ranges more in omega arith

widened : (s : AbstractState) (more : List Range) → IsTidy s → IsTidy (record s { ranges = s.ranges ++ more })
widened s more tidy =
    let n : ℕ = length s.ranges in
    let m : ℕ = length (s.ranges ++ more) in
    let le : n ≤ m = no_fewer s.ranges more in
    record {
      eight = tidy.eight;
      guards = all_more n m s.guards le tidy.guards;
      slots = λ k f e. over_more n m f le (tidy.slots k f e);
      operands = all_more n m s.operands le tidy.operands;
      places = places_over_more n m s.places le tidy.places;
      cost = over_more n m s.cost le tidy.cost;
    }

-- an answer is asked for
pub new_symbol : {s : AbstractState} (low high : ℤ) → HasRoom (with_symbol low high s)
    → Keeps s (asked low high (paid_for s))
new_symbol {s} low high room = record {
  room = λ before. room;
  tidy = λ tidy.
      let more : List Range = (low, high) ∷ [] in
      let long : length (s.ranges ++ more) ≡ length s.ranges + 1 = length-append s.ranges more in
      let wide = widened s more tidy in
      record {
        eight = wide.eight;
        guards = wide.guards;
        slots = wide.slots;
        operands = ((all_symbols (length s.ranges) 1 (length (s.ranges ++ more)) (omega arith)).0, wide.operands);
        places = wide.places;
        cost = wide.cost;
      };
}

after_is_tidy : (s : AbstractState) (arguments below : List Form) (exit : FramedExit) (cost : Form)
    → IsTidy s → AllOver (length s.ranges) arguments → AllOver (length s.ranges) below
    → IsWellScoped (length s.ranges) cost → IsTidy (record (after_call s arguments below exit) { cost = cost })
after_is_tidy s arguments below exit cost tidy over_arguments over_below over_cost =
    let n : ℕ = length s.ranges in
    let m : ℕ = length (s.ranges ++ exit.results) in
    let long : m ≡ n + length exit.results = length-append s.ranges exit.results in
    let le : n ≤ m = no_fewer s.ranges exit.results in
    let wide = widened s exit.results tidy in
    let new : List Form = result_symbols s exit in
    let over_new : AllOver m new = all_symbols n (length exit.results) m (omega arith) in
    let over_forms : AllOver m (arguments ++ new) =
    all_appended m arguments new (all_more n m arguments le over_arguments) over_new in
    record {
      eight = tidy.eight;
      guards =
          all_appended m s.guards (map (substituted (arguments ++ new)) exit.guards) wide.guards
          (all_substituted m (arguments ++ new) exit.guards over_forms);
      slots = wide.slots;
      operands =
          all_appended m (reverse new) below (over_reverse m new [] over_new tt) (all_more n m below le over_below);
      places = substituted_over m (arguments ++ new) exit.places over_forms;
      cost = over_more n m cost le over_cost;
    }

-- a procedure is called
pub new_results : {s : AbstractState} (k : ℕ) {found : List Form × List Form} (entry : Frame) (exit : FramedExit)
    {forms : List Form} → top_many k s.operands ≡ Some found
    → live_forms entry.slots (argument_slots found.0) ≡ Some forms
    → HasRoom (after_call s (reverse found.0) found.1 exit)
    → Keeps s (record (after_call s (reverse found.0) found.1 exit) {
      cost = left_of s.cost (substituted forms entry.cost);
    })
new_results {s} k {found} entry exit {forms} taken known room = record {
  room = λ before. room;
  tidy = λ tidy.
      let n : ℕ = length s.ranges in
      let over = arguments_over n k s.operands found entry.slots forms tidy.operands taken known in
      after_is_tidy s (reverse found.0) found.1 exit (left_of s.cost (substituted forms entry.cost)) tidy over.0 over.1
      (over_minus n (one_less s.cost) (substituted forms entry.cost) tidy.cost
      (over_substituted n forms entry.cost over.2));
}
