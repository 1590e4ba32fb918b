-- Frames as far as the code has read them, and the words that they stand for.
use Rattle.std.specs.Prelude.{◌≡◌, ℕ, List, [], ◌∷◌, ◌++◌, length, map, Option, Some, None, Result, MatchResult, MatchOption, Bool, true, false, IsTrue, nat_lt, is_none, drop, ◌&&◌}
use Rattle.std.specs.List.{list_all}
use Rattle.burr_code.specs.declared.limits.TheConstants.{SLOTS, TRAYS}
use Rattle.burr_forms.specs.Rules.Forms.{Form}
use Rattle.burr_container.specs.Rules.Plans.{Range}
use Rattle.burr_container.specs.Views.OwnedPlaces.{placements_of}
use Rattle.burr_container.specs.declared.plan.Place.{Place}
use Rattle.burr_plantext.specs.Rules.Written.{natural_in, set_in, set_numbers, form_in, is_below, are_ends, are_members, is_form_over}
use Rattle.burr_plantext.specs.Rules.Lines.{Line, SlotLine, GuardLine, StackLine, GripWords, SlotWords, PieceWords}
use Rattle.burr_plantext.specs.Rules.Sources.{Conditions}
use Rattle.burr_plantext.specs.Rules.Meaning.{range_in, slots_in, places_in}
use Rattle.burr_plantext.specs.Rules.Checks.{FaultKind, P1, P3, P4, unless, slot_check, guard_check, stack_check, piece_check}
use Rattle.burr_asm.specs.declared.fault.AsmFault.{AsmFault}
use Rattle.burr_asm.specs.declared.text.frame.Grip.{Grip}
use Rattle.burr_asm.specs.Views.Faults.{IsRefusal}

-- the tray and the grip that the words write
abbrev pub IsGrip : Grip → GripWords → Type 0
IsGrip g w = (g.tray ≡ natural_in w.tray) × (g.set ≡ set_in w.set)

-- the tray and all pieces are in their ranges
abbrev pub is_grip : ℕ → GripWords → Bool
is_grip pieces g = is_below TRAYS g.tray && are_members 0 pieces (set_numbers g.set)

-- Places

-- A place more, after those that these pieces have, or the refusal of its line.
abbrev pub AddsPlace : {A : Type 0} → List Bool → List Place → PieceWords → ℕ → List Place
    → Result A AsmFault → Type 0
AddsPlace live old piece line new result =
    (before : List PieceWords) → placements_of old ≡ places_in before
    → MatchResult result
    (λ done. (piece_check live before piece ≡ None)
    × (placements_of new ≡ places_in (before ++ piece ∷ [])))
    (IsRefusal (piece_check live before piece) line)

-- Forms

-- what is wrong with one more form, where there may be at most `most`
abbrev pub form_check : ℕ → List Bool → List Form → List ℕ → Option FaultKind
form_check most live forms word =
    unless (is_form_over live word) P3 (unless (nat_lt (length forms) most) P4 None)

-- Slots

-- the slot and its range are in their ranges, and no slot from it on is live
abbrev pub is_slot_above : List (Option Range) → SlotWords → Bool
is_slot_above slots s =
    is_below SLOTS s.slot && are_ends s.ends.low s.ends.high
    && list_all is_none (drop (natural_in s.slot) slots)

-- the slot of the words with its range, where it stands above all live slots
abbrev pub IsSlotAbove : List (Option Range) → SlotWords → Option (ℕ × Range) → Type 0
IsSlotAbove slots s found =
    MatchOption found (is_slot_above slots s ≡ false) (λ f.
    (is_slot_above slots s ≡ true) × (f ≡ (natural_in s.slot, range_in s.ends)))

-- Frames before their cost

-- what the code has of a frame before its cost
pub record ConditionParts : Type 0 where
  pub tray : ℕ
  pub grip : ℕ
  pub slots : List (Option Range)
  pub guards : List Form
  pub stack : List Form

-- it is what these words write
pub record AreFor (parts : ConditionParts) (c : Conditions) : Type 0 where
  pub tray : parts.tray ≡ natural_in c.grip.tray
  pub grip : parts.grip ≡ set_in c.grip.set
  pub slots : parts.slots ≡ slots_in c.slots
  pub guards : parts.guards ≡ map form_in c.guards
  pub stack : parts.stack ≡ map form_in c.stack
  pub few : IsTrue (list_all (λ (s : SlotWords). is_below SLOTS s.slot) c.slots)

-- what is wrong with a line before the cost
abbrev pub condition_check : Conditions → Line → Option FaultKind
condition_check c (SlotLine slot) = slot_check c slot
condition_check c (GuardLine form) = guard_check c form
condition_check c (StackLine form) = stack_check c form
condition_check c line = Some P1

-- the frame with that line
abbrev pub with_condition : Conditions → Line → Conditions
with_condition c (SlotLine slot) = record c { slots = c.slots ++ slot ∷ [] }
with_condition c (GuardLine form) = record c { guards = c.guards ++ form ∷ [] }
with_condition c (StackLine form) = record c { stack = c.stack ++ form ∷ [] }
with_condition c line = c
