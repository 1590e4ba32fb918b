-- What a line makes of a frame that has been read so far, by its words.
use Rattle.std.proofs.Common.{◌≡◌, ℕ, List, [], ◌∷◌, ◌++◌, length, map, Bool, true, false, Option, Some, None, refl, sym, ap, subst, ◌∙◌}
use Rattle.std.specs.Prelude.{◌&&◌, is_none, drop, nat_lt, slice_set, Result, Ok, Err, MatchResult}
use Rattle.std.specs.List.{list_all}
use Rattle.std.proofs.lemmas.Bool.{and_from, and_parts}
use Rattle.std.proofs.lemmas.List.{length-map, map-append}
use Rattle.std.proofs.lemmas.List.Folds.{list_all-append}
use Rattle.burr_code.specs.declared.limits.TheConstants.{MOST_GUARDS, MOST_OPERANDS}
use Rattle.burr_forms.specs.Rules.Forms.{Form}
use Rattle.burr_container.specs.Rules.Plans.{Range, Frame, live_slots}
use Rattle.burr_container.specs.Views.OwnedPlaces.{placement_of, placements_of}
use Rattle.burr_container.specs.declared.plan.Place.{Place}
use Rattle.burr_plantext.specs.Rules.Written.{natural_in, form_in, are_ends, is_within, is_form_over}
use Rattle.burr_plantext.specs.Rules.Lines.{SlotLine, SlotWords, PieceWords}
use Rattle.burr_plantext.specs.Rules.Sources.{Conditions, FrameSource}
use Rattle.burr_plantext.specs.Rules.Meaning.{range_in, place_in, places_in, frame_in}
use Rattle.burr_plantext.specs.Rules.Checks.{FaultKind, P1, P3, P4, unless, is_empty, is_spot, piece_check, slot_check, live_in, guard_check, stack_check}
use Rattle.burr_asm.specs.declared.fault.AsmFault.{AsmFault}
use Rattle.burr_asm.specs.Views.Faults.{IsRefusal}
use Rattle.burr_asm.specs.Views.Frames.{ConditionParts, AreFor, form_check, is_slot_above, with_condition}
use Rattle.burr_asm.specs.Views.FrameLines.{with_piece}
use Rattle.burr_asm.proofs.Refusals.{failed, passed}
use Rattle.burr_asm.proofs.SlotRanges.{is_slot, is_under, slot_below, none_from, slot_put}

-- a list has elements where what is made of each has
pub empty_map : {A B : Type 0} (f : A → B) (xs : List A) → is_empty (map f xs) ≡ is_empty xs
empty_map f [] = refl
empty_map f (x ∷ xs) = refl

-- Pieces

module _ (live : List Bool) (old : List Place) (before : List PieceWords) (piece : PieceWords) (same : placements_of old ≡ places_in before) where
  many_pieces : length old ≡ length before
  many_pieces = sym (length-map old placement_of) ∙ ap length same ∙ length-map before (λ (p : PieceWords). place_in p.spot)

  next_is : (count : ℕ) (next : Bool) → count ≡ length old → next ≡ is_within count count piece.piece → is_within (length before) (length before) piece.piece ≡ next
  next_is count next many is = ap (λ (n : ℕ). is_within n n piece.piece) (sym (many ∙ many_pieces)) ∙ sym is

  -- the piece hasn't the next number
  pub not_next : (count : ℕ) (next : Bool) → count ≡ length old → next ≡ is_within count count piece.piece → next ≡ false → piece_check live before piece ≡ Some P1
  not_next count next many is e = failed _ P1 (unless (is_spot live piece.spot) P3 None) (next_is count next many is ∙ e)

  -- it has the next number, and the rest decides
  next_first : (count : ℕ) (next : Bool) → count ≡ length old → next ≡ is_within count count piece.piece → next ≡ true → piece_check live before piece ≡ unless (is_spot live piece.spot) P3 None
  next_first count next many is e = passed _ P1 (unless (is_spot live piece.spot) P3 None) (next_is count next many is ∙ e)

  -- its place is not right
  pub no_place : (count : ℕ) (next : Bool) → count ≡ length old → next ≡ is_within count count piece.piece → next ≡ true → is_spot live piece.spot ≡ false → piece_check live before piece ≡ Some P3
  no_place count next many is e no_spot = next_first count next many is e ∙ failed _ P3 None no_spot

  -- its place is right
  pub one_place : (count : ℕ) (next : Bool) → count ≡ length old → next ≡ is_within count count piece.piece → next ≡ true → is_spot live piece.spot ≡ true → piece_check live before piece ≡ None
  one_place count next many is e spot = next_first count next many is e ∙ passed _ P3 None spot

  -- The places with its own after them.
  pub one_more : (new : List Place) (place : Place) → new ≡ old ++ place ∷ [] → placement_of place ≡ place_in piece.spot → placements_of new ≡ places_in (before ++ piece ∷ [])
  one_more new place new_is e =
      ap placements_of new_is ∙ map-append placement_of old (place ∷ []) ∙ (λ i. same i ++ e i ∷ [])
      ∙ sym (map-append (λ (p : PieceWords). place_in p.spot) before (piece ∷ []))

-- Frames before their cost

guarded : (b e x y : Bool) → (b ≡ true → x ≡ y) → (b && e && x) ≡ (b && e && y)
guarded true true x y h = h refl
guarded _ _ x y h = refl

module _ (parts : ConditionParts) (c : Conditions) (h : AreFor parts c) where
  same_guards : is_empty parts.guards ≡ is_empty c.guards
  same_guards = ap is_empty h.guards ∙ empty_map form_in c.guards

  same_stack : is_empty parts.stack ≡ is_empty c.stack
  same_stack = ap is_empty h.stack ∙ empty_map form_in c.stack

  -- Slots

  first_is : (test : Bool) → test ≡ (is_empty parts.guards && is_empty parts.stack) → (is_empty c.guards && is_empty c.stack) ≡ test
  first_is test is = (λ i. sym same_guards i && sym same_stack i) ∙ sym is

  abbrev slot_tests : SlotWords → Bool
  slot_tests s = is_slot s && are_ends s.ends.low s.ends.high && list_all (is_under (natural_in s.slot)) c.slots

  above_is : (s : SlotWords) → is_slot_above parts.slots s ≡ slot_tests s
  above_is s =
      guarded (is_slot s) (are_ends s.ends.low s.ends.high) (list_all is_none (drop (natural_in s.slot) parts.slots)) (list_all (is_under (natural_in s.slot)) c.slots)
      (λ e. ap (λ (slots : List (Option Range)). list_all is_none (drop (natural_in s.slot) slots)) h.slots ∙ none_from (natural_in s.slot) c.slots (slot_below s e) h.few)

  -- it or its range is out of range, or a slot from it on is live
  pub no_slot : (s : SlotWords) (test : Bool) → test ≡ (is_empty parts.guards && is_empty parts.stack) → test ≡ true → is_slot_above parts.slots s ≡ false → slot_check c s ≡ Some P3
  no_slot s test is e above = passed _ P1 (unless (slot_tests s) P3 None) (first_is test is ∙ e) ∙ failed _ P3 None (sym (above_is s) ∙ above)

  -- nothing is wrong with it
  pub one_slot : (s : SlotWords) (test : Bool) → test ≡ (is_empty parts.guards && is_empty parts.stack) → test ≡ true → is_slot_above parts.slots s ≡ true → slot_check c s ≡ None
  one_slot s test is e above = passed _ P1 (unless (slot_tests s) P3 None) (first_is test is ∙ e) ∙ passed _ P3 None (sym (above_is s) ∙ above)

  -- A slot more, where nothing is wrong with it.
  pub with_slot : (s : SlotWords) (n : ℕ) (r : Range) (slots : List (Option Range)) → is_slot_above parts.slots s ≡ true → n ≡ natural_in s.slot → r ≡ range_in s.ends
      → slots ≡ slice_set parts.slots n (Some r) → AreFor (record parts { slots = slots }) (with_condition c (SlotLine s))
  with_slot s n r slots above n_is r_is slots_is =
      let all = and_parts (is_slot s && are_ends s.ends.low s.ends.high) (list_all (is_under (natural_in s.slot)) c.slots) (sym (above_is s) ∙ above) in
      let one = and_parts (is_slot s) (are_ends s.ends.low s.ends.high) all.0 in
      record {
        tray = h.tray;
        grip = h.grip;
        slots = slots_is ∙ (λ i. slice_set (h.slots i) (n_is i) (Some (r_is i))) ∙ sym (slot_put c.slots s (slot_below s one.0) all.1);
        guards = h.guards;
        stack = h.stack;
        few = list_all-append is_slot c.slots (s ∷ []) ∙ and_from (list_all is_slot c.slots) (list_all is_slot (s ∷ [])) h.few (and_from (is_slot s) true one.0 refl);
      }

  -- Forms

  live_is : (live : List Bool) → live ≡ live_slots parts.slots → live ≡ live_in c
  live_is live is = is ∙ ap live_slots h.slots

  same_count : (forms : List Form) (words : List (List ℕ)) → forms ≡ map form_in words → length forms ≡ length words
  same_count forms words e = ap length e ∙ length-map words form_in

  added : (forms new : List Form) (words : List (List ℕ)) (word : List ℕ) → forms ≡ map form_in words → new ≡ forms ++ form_in word ∷ [] → new ≡ map form_in (words ++ word ∷ [])
  added forms new words word e new_is = new_is ∙ ap (λ (fs : List Form). fs ++ form_in word ∷ []) e ∙ sym (map-append form_in words (word ∷ []))

  -- Guards

  -- an operand stands before it
  pub late_guard : (word : List ℕ) (test : Bool) → test ≡ is_empty parts.stack → test ≡ false → guard_check c word ≡ Some P1
  late_guard word test is e = failed _ P1 (unless (is_form_over (live_in c) word) P3 (unless (nat_lt (length c.guards) MOST_GUARDS) P4 None)) (sym same_stack ∙ sym is ∙ e)

  guard_checked : (live : List Bool) (word : List ℕ) (test : Bool) → live ≡ live_slots parts.slots → test ≡ is_empty parts.stack → test ≡ true
      → form_check MOST_GUARDS live parts.guards word ≡ guard_check c word
  guard_checked live word test live_so is e =
      (λ i. unless (is_form_over (live_is live live_so i) word) P3 (unless (nat_lt (same_count parts.guards c.guards h.guards i) MOST_GUARDS) P4 None))
      ∙ sym (passed _ P1 (unless (is_form_over (live_in c) word) P3 (unless (nat_lt (length c.guards) MOST_GUARDS) P4 None)) (sym same_stack ∙ sym is ∙ e))

  -- A guard more, or its refusal.
  pub guard_added : {A : Type 0} (live : List Bool) (word : List ℕ) (line : ℕ) (test : Bool) (new : List Form) (result : Result A AsmFault)
      → live ≡ live_slots parts.slots → test ≡ is_empty parts.stack → test ≡ true
      → MatchResult result (λ done. (form_check MOST_GUARDS live parts.guards word ≡ None) × (new ≡ parts.guards ++ form_in word ∷ [])) (IsRefusal (form_check MOST_GUARDS live parts.guards word) line)
      → MatchResult result (λ done. (guard_check c word ≡ None) × AreFor (record parts { guards = new }) (record c { guards = c.guards ++ word ∷ [] })) (IsRefusal (guard_check c word) line)
  guard_added live word line test new (Ok done) live_so is e p = (
    sym (guard_checked live word test live_so is e) ∙ p.0,
    record { tray = h.tray; grip = h.grip; slots = h.slots; guards = added parts.guards new c.guards word h.guards p.1; stack = h.stack; few = h.few },
  )
  guard_added live word line test new (Err fault) live_so is e p = subst (λ (k : Option FaultKind). IsRefusal k line fault) (guard_checked live word test live_so is e) p

  -- Operands

  stack_checked : (live : List Bool) (word : List ℕ) → live ≡ live_slots parts.slots → form_check MOST_OPERANDS live parts.stack word ≡ stack_check c word
  stack_checked live word live_so i = unless (is_form_over (live_is live live_so i) word) P3 (unless (nat_lt (same_count parts.stack c.stack h.stack i) MOST_OPERANDS) P4 None)

  -- An operand more, or its refusal.
  pub operand_added : {A : Type 0} (live : List Bool) (word : List ℕ) (line : ℕ) (new : List Form) (result : Result A AsmFault) → live ≡ live_slots parts.slots
      → MatchResult result (λ done. (form_check MOST_OPERANDS live parts.stack word ≡ None) × (new ≡ parts.stack ++ form_in word ∷ [])) (IsRefusal (form_check MOST_OPERANDS live parts.stack word) line)
      → MatchResult result (λ done. (stack_check c word ≡ None) × AreFor (record parts { stack = new }) (record c { stack = c.stack ++ word ∷ [] })) (IsRefusal (stack_check c word) line)
  operand_added live word line new (Ok done) live_so p = (
    sym (stack_checked live word live_so) ∙ p.0,
    record { tray = h.tray; grip = h.grip; slots = h.slots; guards = h.guards; stack = added parts.stack new c.stack word h.stack p.1; few = h.few },
  )
  operand_added live word line new (Err fault) live_so p = subst (λ (k : Option FaultKind). IsRefusal k line fault) (stack_checked live word live_so) p

-- Frames with their cost

module _ (frame : Frame) (f : FrameSource) (same : frame ≡ frame_in f) where
  -- A piece more, or its refusal.
  pub piece_added : {A : Type 0} (live : List Bool) (old new : List Place) (piece : PieceWords) (line : ℕ) (result : Result A AsmFault)
      → frame.places ≡ placements_of old → live ≡ live_slots frame.slots
      → ((before : List PieceWords) → placements_of old ≡ places_in before
      → MatchResult result (λ done. (piece_check live before piece ≡ None) × (placements_of new ≡ places_in (before ++ piece ∷ []))) (IsRefusal (piece_check live before piece) line))
      → MatchResult result (λ done. (piece_check (live_in f.conditions) f.pieces piece ≡ None) × (record frame { places = placements_of new } ≡ frame_in (with_piece f piece)))
      (IsRefusal (piece_check (live_in f.conditions) f.pieces piece) line)
  piece_added {A = A} live old new piece line result old_is live_so adds = by result (adds f.pieces (sym old_is ∙ ap (λ (r : Frame). r.places) same))
    where
      live_now : live ≡ live_in f.conditions
      live_now = live_so ∙ ap (λ (r : Frame). live_slots r.slots) same

      by : (r : Result A AsmFault)
          → MatchResult r (λ done. (piece_check live f.pieces piece ≡ None) × (placements_of new ≡ places_in (f.pieces ++ piece ∷ []))) (IsRefusal (piece_check live f.pieces piece) line)
          → MatchResult r (λ done. (piece_check (live_in f.conditions) f.pieces piece ≡ None) × (record frame { places = placements_of new } ≡ frame_in (with_piece f piece)))
          (IsRefusal (piece_check (live_in f.conditions) f.pieces piece) line)
      by (Ok done) p = (subst (λ (l : List Bool). piece_check l f.pieces piece ≡ None) live_now p.0, λ i. record (same i) { places = p.1 i })
      by (Err fault) p = subst (λ (l : List Bool). IsRefusal (piece_check l f.pieces piece) line fault) live_now p
