-- For crates above: each instruction's rule is built of checks in their order, all of them decided, and of what stands next.
use Rattle.std.proofs.Common.{◌≡◌, ◌≢◌, ℕ, ℤ, pos, ◌+◌, ◌-◌, ◌<◌, ◌≤◌, ◌^◌, min, zero, suc, List, [], ◌∷◌, ◌++◌, length, drop, Bool, true, false, Option, Some, None, refl, sym, ap, subst, ◌∙◌, inl, inr, arith}
use Rattle.std.proofs.Math.ListN.{length-take}
use Rattle.std.proofs.lemmas.Bool.{leb-true}
use Rattle.std.specs.Prelude.{negsuc, ◌+ℤ◌, ◌-ℤ◌, nat_le, if◌then◌else◌}
use Rattle.std.proofs.lemmas.Int.{ints}
use Rattle.std.proofs.lemmas.List.{length-set}
use Rattle.std.proofs.lemmas.Option.{none-some, same_Some}
use Rattle.burr_text.proofs.Common.Decisions.{Decided, decided_and, decided_not, decide_same, decide_below, decide_at_most}
use Rattle.burr_code.specs.Instruction.{Instruction, Halt, Push, Load, Store, Add, Sub, Drop, Grip, Step, Aside, Tray, Jump, Down, Ask, Pick, Call, Ret, IsInNumberRange, IsInRange}
use Rattle.burr_code.specs.Labels.{callee_of, argument_slots}
use Rattle.burr_code.specs.Places.{AllLieIn, IsEmptyTray, aside_places}
use Rattle.burr_code.specs.Stacks.{top, top_many, split_at}
use Rattle.burr_voxels.specs.declared.direction.Direction.{Direction}
use Rattle.burr_code.proofs.Common.Conditions.{decide_all_lie, decide_all_apart, decide_part_of_tray, decide_empty_tray}
use Rattle.burr_code.proofs.Common.Labels.{picked}
use Rattle.burr_code.proofs.Common.Orders.{decide_le}
use Rattle.burr_state.specs.declared.effect.Mode.{Mode}
use Rattle.burr_state.specs.declared.effect.Mode.TheVariants.{Running}
use Rattle.burr_state.specs.declared.effect.Motion.{Motion}
use Rattle.burr_state.specs.declared.effect.Trap.{Trap}
use Rattle.burr_state.specs.Rules.Bench.{Activation, BenchState, Setup, BenchProcedure}
use Rattle.burr_state.specs.Rules.Control.{by_count}
use Rattle.burr_state.specs.Rules.Next.{Next, Goes, Asks, Traps, at_label, stepped}
use Rattle.burr_state.specs.Rules.Questions.{Takes, Fits}
use Rattle.burr_state.specs.Rules.Space.{NoOverlapIn, motion_of, moved_places}
use Rattle.burr_state.specs.Rules.Step.{Executes, IsAt, NextIs, IsStepFrom}
use Rattle.burr_state.specs.Rules.Undo.{laid_over, record_of}
use Rattle.burr_state.proofs.Common.Existence.Pairs.{decide_on_bench, decide_no_overlap, decide_free_group}
use Rattle.burr_code.proofs.Common.Checked.{IsBuilt, needed, looked_up, ends, fails_or_ends}

-- Numbers and labels

decide_number : (n : ℤ) → Decided (IsInNumberRange n)
decide_number n = decided_and (decide_le _ _) (decide_le _ _)

-- what is so at both is so at either count
pub at_either : {A : Type 0} (P : A → Type 0) (x : ℤ) (at_zero above : A) → P at_zero → P above → P (by_count x at_zero above)
at_either P (pos zero) at_zero above p q = p
at_either P (pos (suc n)) at_zero above p q = q
at_either P (negsuc n) at_zero above p q = q

-- a fitting answer among some is the number of one of them
pub answer_number : (count : ℕ) (answer : ℤ) → Fits (pos 0) (pos count -ℤ pos 1) answer → (n : ℕ) × (answer ≡ pos n) × (n < count)
answer_number count (pos n) fits = (n, refl, omega (arith, ints, fits.1))
answer_number count (negsuc n) fits = absurd (omega (arith, ints, fits.0))

-- The rules

-- the motion that an instruction makes, if it makes one
abbrev pub motion_by : BenchState → Instruction → Option Motion
motion_by s (Step direction) = Some (motion_of s.grip s.tray direction false)
motion_by s (Aside direction tray) = Some (motion_of s.grip s.tray direction true)
motion_by s i = None

-- it asks
abbrev pub AsksBy : Instruction → Type 0
AsksBy (Ask low high) = Unit {0}
AsksBy (Pick labels) = Unit {0}
AsksBy i = ⊥

-- What a step does to the pieces and to the activations

-- what it may do to the pieces: nothing, another grip, one unit, aside, or another tray
pub data Moves (setup : Setup) (s new : BenchState) (i : Instruction) : Type 0 where
  lies : motion_by s i ≡ None → new.places ≡ s.places → new.tray ≡ s.tray → new.grip ≡ s.grip → Moves setup s new i
  grips : motion_by s i ≡ None → new.places ≡ s.places → new.tray ≡ s.tray → AllLieIn s.places s.tray new.grip → Moves setup s new i
  moves : (direction : Direction) → motion_by s i ≡ Some (motion_of s.grip s.tray direction false) → s.grip ≢ 0
      → new.places ≡ moved_places s.grip direction s.places → new.tray ≡ s.tray → new.grip ≡ s.grip
      → NoOverlapIn setup.homes (moved_places s.grip direction s.places) s.tray → Moves setup s new i
  parts : (direction : Direction) (there : ℕ) → motion_by s i ≡ Some (motion_of s.grip s.tray direction true) → s.grip ≢ 0
      → (IsInRange i → there < 32) → new.places ≡ aside_places s.grip s.tray there s.places → new.tray ≡ s.tray → new.grip ≡ 0
      → IsEmptyTray s.places there → Moves setup s new i
  chooses : motion_by s i ≡ None → (IsInRange i → new.tray < 32) → new.places ≡ s.places → new.grip ≡ 0 → Moves setup s new i

-- what it may do to the activations: the running one keeps as many slots, or a procedure is called, or the caller goes on
pub data Activates (setup : Setup) (s new : BenchState) : Type 0 where
  keeps : length new.running.slots ≡ length s.running.slots → new.callers ≡ s.callers → Activates setup s new
  calls : (callee : ℕ) (there : BenchProcedure) (found : List ℤ × List ℤ) (caller : Activation)
      → callee_of setup.procedures s.running.procedure callee ≡ Some there → top_many there.parameters s.running.operands ≡ Some found
      → new.running.slots ≡ argument_slots found.0 → caller.slots ≡ s.running.slots → new.callers ≡ caller ∷ s.callers → Activates setup s new
  returns : (up : Activation × List Activation) → top s.callers ≡ Some up → new.running.slots ≡ up.0.slots → new.callers ≡ up.1
      → Activates setup s new

-- The count of steps and the mode

one_back : (n : ℕ) → n < 2 ^ 64 - 1 → min (n + 1) (2 ^ 64 - 1) - 1 ≡ n
one_back n few = omega arith

-- a running state, its steps counted up and down again
pub back : (s : BenchState) → s.mode ≡ Running → s.steps < 2 ^ 64 - 1
    → ◌≡◌ {A = BenchState} (record s { steps = min (s.steps + 1) (2 ^ 64 - 1) - 1; mode = Running }) s
back s running few =
    ap (λ (n : ℕ). record s { steps = n; mode = Running }) (one_back s.steps few)
    ∙ ap (λ (m : Mode). record s { mode = m }) (sym running)

-- the same, of a state whose callers come out as they were
back_to_callers : (s : BenchState) (callers : List Activation) → callers ≡ s.callers → s.mode ≡ Running
    → s.steps < 2 ^ 64 - 1
    → ◌≡◌ {A = BenchState}
    (record s { callers = callers; steps = min (s.steps + 1) (2 ^ 64 - 1) - 1; mode = Running }) s
back_to_callers s callers same running few =
    ap (λ (cs : List Activation). record s {
      callers = cs;
      steps = min (s.steps + 1) (2 ^ 64 - 1) - 1;
      mode = Running;
    }) same ∙ back s running few

-- Stacks

top_is : {A : Type 0} (xs : List A) (x : A × List A) → top xs ≡ Some x → xs ≡ x.0 ∷ x.1
top_is [] x e = absurd (none-some x e)
top_is {A = A} (y ∷ ys) x e = ap (λ (z : A × List A). z.0 ∷ z.1) (same_Some (y, ys) x e)

many_are : {A : Type 0} (n : ℕ) (xs : List A) (x : List A × List A) → top_many n xs ≡ Some x → length x.0 ≡ n
many_are {A} n xs x e = by_test (nat_le n (length xs)) refl e
  where
    as_many : (n m : ℕ) → n ≤ m → min n m ≡ n
    as_many n m h = omega arith

    by_test : (b : Bool) → nat_le n (length xs) ≡ b → (if b then Some (split_at n xs) else None) ≡ Some x
        → length x.0 ≡ n
    by_test true is e =
        ap (λ (z : List A × List A). length z.0) (sym (same_Some (split_at n xs) x e))
        ∙ (let some = leb-true n (length xs) is in simp length-take (omega (arith, some)))
    by_test false is e = absurd (none-some x e)

drop_front : {A : Type 0} (xs ys : List A) → drop (length xs) (xs ++ ys) ≡ ys
drop_front [] ys = refl
drop_front (x ∷ xs) ys = drop_front xs ys

-- what is so of a step that is made: the run goes on or has ended, the motion, the pieces, the activations, and that its record goes back
pub record Went (setup : Setup) (here : BenchProcedure) (s : BenchState) (i : Instruction) (new : BenchState) (motion : Option Motion) : Type 0 where
  pub step : s.mode ≡ Running → IsStepFrom s new
  pub motion_is : motion ≡ motion_by s i
  pub unasked : ¬ AsksBy i
  pub moves : Moves setup s new i
  pub activates : Activates setup s new
  pub back : s.mode ≡ Running → s.steps < 2 ^ 64 - 1 → laid_over (record_of here s i) new ≡ s

-- The run goes on by a step, or by one for each fitting answer, where the instruction asks.
abbrev pub EndsSo : Setup → BenchProcedure → BenchState → Instruction → Next → Type 0
EndsSo setup here s i (Goes new motion) = Went setup here s i new motion
EndsSo setup here s i (Asks low high) =
    AsksBy i × ((answer : ℤ) → Fits low high answer → (new : BenchState) × Takes here s i answer new × (s.mode ≡ Running → IsStepFrom s new))
EndsSo setup here s i (Traps trap) = Unit {0}

-- a step that keeps the mode
stays : (s new : BenchState) → new.mode ≡ s.mode → new.steps ≡ min (s.steps + 1) (2 ^ 64 - 1) → s.mode ≡ Running → IsStepFrom s new
stays s new mode steps running = record { mode = inl (mode ∙ running); steps = steps }

-- a running state, its steps counted up and down
abbrev counted_back : BenchState → BenchState
counted_back s = record s { steps = min (s.steps + 1) (2 ^ 64 - 1) - 1; mode = Running }

-- a step that goes on and leaves the callers, where the record tells all that it changes
steps : {setup : Setup} {here : BenchProcedure} {s : BenchState} {i : Instruction} {new : BenchState} {motion : Option Motion}
    → motion ≡ motion_by s i → (¬ AsksBy i) → Moves setup s new i → length new.running.slots ≡ length s.running.slots → new.callers ≡ s.callers
    → new.mode ≡ s.mode → new.steps ≡ min (s.steps + 1) (2 ^ 64 - 1) → laid_over (record_of here s i) new ≡ counted_back s
    → Went setup here s i new motion
steps {s} {new} is unasked moved slots callers mode count same = record {
  step = stays s new mode count;
  motion_is = is;
  unasked = unasked;
  moves = moved;
  activates = keeps slots callers;
  back = λ running few. same ∙ back s running few;
}

-- such a step that changes nothing but the running activation
still : {setup : Setup} {here : BenchProcedure} {s : BenchState} {i : Instruction} {a : Activation} → motion_by s i ≡ None → (¬ AsksBy i)
    → length a.slots ≡ length s.running.slots → laid_over (record_of here s i) (stepped (record s { running = a })) ≡ counted_back s
    → Went setup here s i (stepped (record s { running = a })) None
still none unasked slots same = steps (sym none) unasked (lies none refl refl refl) slots refl refl refl same

callers_again : (results : ℕ) (operands : List ℤ) (callers : List Activation) (up : Activation × List Activation) (found : List ℤ × List ℤ)
    → top callers ≡ Some up → top_many results operands ≡ Some found
    → ◌≡◌ {A = List Activation} (record up.0 { operands = drop results (found.0 ++ up.0.operands) } ∷ up.1) callers
callers_again results operands callers up found is has =
    ap (λ (xs : List ℤ). record up.0 { operands = xs } ∷ up.1)
    (subst (λ (n : ℕ). drop n (found.0 ++ up.0.operands) ≡ up.0.operands)
    (many_are results operands found has) (drop_front found.0 up.0.operands))
    ∙ sym (top_is callers up is)

pub executes_is_built : (setup : Setup) (here : BenchProcedure) (s : BenchState) (i : Instruction) → IsBuilt Traps (EndsSo setup here s i) (Executes setup here s i)
executes_is_built setup here s Halt =
    needed (decide_same s.running.procedure 0) λ main. needed (decide_all_apart s.places) λ apart. ends (record {
      step = λ running. record { mode = inr refl; steps = refl };
      motion_is = refl;
      unasked = λ asks. asks;
      moves = lies refl refl refl refl;
      activates = keeps refl refl;
      back = back s;
    })
executes_is_built setup here s (Push n) = needed (decide_below _ 8) λ room. ends (still refl (λ asks. asks) refl refl)
executes_is_built setup here s (Load v) = looked_up λ x is. needed (decide_below _ 8) λ room. ends (still refl (λ asks. asks) refl refl)
executes_is_built setup here s (Store v) = needed (decide_at_most here.parameters v) λ may. looked_up λ found is. ends (still refl (λ asks. asks) (length-set s.running.slots v _) refl)
executes_is_built setup here s Add = looked_up λ found is. needed (decide_number (found.1 +ℤ found.0)) λ number. ends (still refl (λ asks. asks) refl refl)
executes_is_built setup here s Sub = looked_up λ found is. needed (decide_number (found.1 -ℤ found.0)) λ number. ends (still refl (λ asks. asks) refl refl)
executes_is_built setup here s Drop = looked_up λ found is. ends (still refl (λ asks. asks) refl refl)
executes_is_built setup here s (Grip set) = needed (decide_all_lie s.places s.tray set) λ lie. ends (steps refl (λ asks. asks) (grips refl refl refl lie) refl refl refl refl refl)
executes_is_built setup here s (Step direction) =
    needed (decided_not (decide_same s.grip 0)) λ some. needed (decide_on_bench (moved_places s.grip direction s.places) s.tray) λ on_bench.
    needed (decide_no_overlap setup.homes (moved_places s.grip direction s.places) s.tray) λ apart.
    ends (steps refl (λ asks. asks) (moves direction refl some refl refl refl apart) refl refl refl refl refl)
executes_is_built setup here s (Aside direction tray) =
    needed (decide_part_of_tray s.grip s.places s.tray) λ part. needed (decide_empty_tray s.places tray) λ empty.
    needed (decide_free_group setup.homes s.places s.tray s.grip direction) λ free.
    ends (steps refl (λ asks. asks) (parts direction tray refl part.0 (λ small. small) refl refl refl empty) refl refl refl refl refl)
executes_is_built setup here s (Tray tray) = ends (steps refl (λ asks. asks) (chooses refl (λ small. small) refl refl) refl refl refl refl refl)
executes_is_built setup here s (Jump label) = looked_up λ to is. ends (still refl (λ asks. asks) refl refl)
executes_is_built setup here s (Down v label) =
    looked_up λ to is. needed (decide_at_most here.parameters v) λ may. looked_up λ x has. needed (decide_le (pos 0) x) λ count.
    ends (at_either (λ (new : BenchState). Went setup here s (Down v label) new None) x _ _ (still refl (λ asks. asks) refl refl)
    (still refl (λ asks. asks) (length-set s.running.slots v _) refl))
executes_is_built setup here s (Ask low high) =
    needed (decide_below _ 8) λ room. ends (tt, λ answer fits. (_, refl, stays s _ refl refl))
executes_is_built setup here s (Pick labels) =
    looked_up λ found is.
    ends (
      tt,
      λ answer fits.
          let number = answer_number (length found) answer fits in
          let at = picked here.labels labels found number.0 is number.2 in
          (at_label at.1 s.running s, (number.0, at.0, at.1, number.1, at.2, at.3, refl), stays s _ refl refl),
    )
executes_is_built setup here s (Call callee) =
    looked_up λ there is. looked_up λ found has. needed (decide_at_most _ 8) λ room.
    ends (record {
      step = stays s _ refl refl;
      motion_is = refl;
      unasked = λ asks. asks;
      moves = lies refl refl refl refl;
      activates = calls callee there found _ is has refl refl refl;
      back = back s;
    })
executes_is_built setup here s Ret = looked_up λ up is. looked_up λ found has.
    ends (record {
      step = stays s _ refl refl;
      motion_is = refl;
      unasked = λ asks. asks;
      moves = lies refl refl refl refl;
      activates = returns up is refl refl;
      back = back_to_callers s _ (callers_again here.results s.running.operands s.callers up found is has);
    })

-- where a step is made, it is made by the instruction there
pub record WentFrom (setup : Setup) (s new : BenchState) (motion : Option Motion) : Type 0 where
  pub here : BenchProcedure
  pub i : Instruction
  pub at : IsAt setup s here i
  pub went : Went setup here s i new motion

goes-traps : (new : BenchState) (motion : Option Motion) (trap : Trap) → Goes new motion ≡ Traps trap → ⊥
goes-traps new motion trap e = cc

pub next_went : (setup : Setup) (s new : BenchState) (motion : Option Motion) → NextIs setup s (Goes new motion) → WentFrom setup s new motion
next_went setup s new motion (inl at) =
    elim (fails_or_ends (executes_is_built setup at.0 s at.1) (Goes new motion) at.3).cases [
      | inl trapped ↦ absurd (goes-traps new motion trapped.0 trapped.1)
      | inr so ↦ record { here = at.0; i = at.1; at = at.2; went = so }
    ]
next_went setup s new motion (inr none) = absurd (goes-traps new motion _ none.1)
