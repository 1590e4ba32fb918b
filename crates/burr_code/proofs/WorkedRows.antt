-- The bytes of some instructions, and operands at the edges of their ranges, computed of the definitions.
use Rattle.std.proofs.Common.{◌≡◌, [], ◌∷◌, refl, arith}
use Rattle.std.specs.Prelude.{pos, neg_ℤ}
use Rattle.std.proofs.lemmas.Int.{ints}
use Rattle.burr_code.specs.Instruction.{Push, Load, Tray, Down, Ask, Pick, IsInRange, spelled}

-- Bytes

push_of_minus_1 : spelled (Push (neg_ℤ (pos 1))) ≡ 0x01 ∷ 0xff ∷ 0xff ∷ []
push_of_minus_1 = refl

down_of_slot_1_to_label_2 : spelled (Down 1 2) ≡ 0x21 ∷ 0x01 ∷ 0x00 ∷ 0x02 ∷ []
down_of_slot_1_to_label_2 = refl

ask_from_0_to_2 : spelled (Ask (pos 0) (pos 2)) ≡ 0x22 ∷ 0x00 ∷ 0x00 ∷ 0x00 ∷ 0x02 ∷ []
ask_from_0_to_2 = refl

pick_of_labels_1_and_2 : spelled (Pick (1 ∷ 2 ∷ [])) ≡ 0x23 ∷ 0x02 ∷ 0x00 ∷ 0x01 ∷ 0x00 ∷ 0x02 ∷ []
pick_of_labels_1_and_2 = refl

-- Edges

slot_7 : IsInRange (Load 7)
slot_7 = omega arith

no_slot_8 : ¬ IsInRange (Load 8)
no_slot_8 is = omega (arith, is)

tray_31 : IsInRange (Tray 31)
tray_31 = omega arith

no_tray_32 : ¬ IsInRange (Tray 32)
no_tray_32 is = omega (arith, is)

least_number : IsInRange (Push (neg_ℤ (pos 32767)))
least_number = (omega (arith, ints), omega (arith, ints))

no_number_below : ¬ IsInRange (Push (neg_ℤ (pos 32768)))
no_number_below is = omega (arith, ints, is.0)

no_pick_of_one : ¬ IsInRange (Pick (0 ∷ []))
no_pick_of_one is = omega (arith, is.0)

no_pick_of_nine : ¬ IsInRange (Pick (0 ∷ 1 ∷ 2 ∷ 3 ∷ 4 ∷ 5 ∷ 6 ∷ 7 ∷ 8 ∷ []))
no_pick_of_nine is = omega (arith, is.1)

no_ask_from_above : ¬ IsInRange (Ask (pos 1) (pos 0))
no_ask_from_above is = omega (arith, ints, is.2)
