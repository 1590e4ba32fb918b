-- For crates above: the instruction with which bytes begin, and the one that stands at a place of the code: one at most, and whether there is one.
use Rattle.std.proofs.Common.{◌≡◌, ℕ, zero, suc, ◌<◌, ◌^◌, List, [], ◌∷◌, ◌++◌, length, drop, ◌⊎◌, inl, inr, refl, sym, ap, subst, ◌∙◌, arith, All}
use Rattle.std.specs.Prelude.{slice_index, ℤ, pos, negsuc, FitsSigned, if◌then◌else◌, ◌==◌}
use Rattle.std.specs.Int.{w16, cast_unsigned, cast_signed}
use Rattle.std.proofs.lemmas.Int.{to_z-of_z, ints}
use Rattle.std.proofs.lemmas.List.Elements.{All-head, All-tail}
use Rattle.byteorder.specs.Endian.{big_bytes, big_from}
use Rattle.byteorder.specs.Numbers.{big_number-reads_back}
use Rattle.burr_text.proofs.Common.Decisions.{Decided, decided_like, decided_and, decided_and_three, decided_not, decide_same, decide_below, decide_at_most, decide_same_bytes, decide_all}
use Rattle.burr_voxels.specs.declared.direction.Direction.{Direction}
use Rattle.burr_voxels.specs.declared.direction.Direction.TheVariants.{PlusX, MinusX, PlusY, MinusY, PlusZ, MinusZ}
use Rattle.burr_voxels.specs.Grid.{number_of}
use Rattle.burr_code.specs.declared.limits.TheConstants.{SLOTS, TRAYS}
use Rattle.burr_code.specs.Instruction.{Instruction, Halt, Push, Load, Store, Add, Sub, Drop, Grip, Step, Aside, Tray, Jump, Down, Ask, Pick, Call, Ret, IsInRange, IsInNumberRange, Begins, StandsAt, spelled, signed_word, label_bytes}
use Rattle.burr_code.specs.Laws.{OneBegins, OneStandsAt, StandsAtItsBytes}
use Rattle.burr_code.proofs.Common.Orders.{decide_le}

-- Operands, read from their bytes

-- the direction with a number
abbrev numbered : ℕ → Direction
numbered zero = PlusX
numbered (suc zero) = MinusX
numbered (suc (suc zero)) = PlusY
numbered (suc (suc (suc zero))) = MinusY
numbered (suc (suc (suc (suc zero)))) = PlusZ
numbered _ = MinusZ

numbered_of_number : (d : Direction) → numbered (number_of d) ≡ d
numbered_of_number PlusX = refl
numbered_of_number MinusX = refl
numbered_of_number PlusY = refl
numbered_of_number MinusY = refl
numbered_of_number PlusZ = refl
numbered_of_number MinusZ = refl

-- the number in the first two bytes
abbrev word_in : List ℕ → ℕ
word_in bytes = big_from 0 2 bytes

-- the signed number in the first two bytes
abbrev signed_in : List ℕ → ℤ
signed_in bytes = cast_signed w16 (word_in bytes)

-- n numbers of two bytes each
abbrev words_in : ℕ → List ℕ → List ℕ
words_in zero bytes = []
words_in (suc n) bytes = word_in bytes ∷ words_in n (drop 2 bytes)

number_fits : (n : ℤ) → IsInNumberRange n → FitsSigned w16 n
number_fits n is = omega (arith, ints, is.0, is.1)

word_small : (z : ℤ) → IsInNumberRange z → cast_unsigned w16 z < 256 ^ 2
word_small (pos a) is = omega (arith, ints, is.1)
word_small (negsuc a) is = omega (arith, ints, is.0)

word_back : (label : ℕ) (rest : List ℕ) → label < 2 ^ 16 → word_in (big_bytes 2 label ++ rest) ≡ label
word_back label rest small = big_number-reads_back 2 label rest small

signed_back : (n : ℤ) (rest : List ℕ) → IsInNumberRange n → signed_in (signed_word n ++ rest) ≡ n
signed_back n rest is = ap (cast_signed w16) (big_number-reads_back 2 (cast_unsigned w16 n) rest (word_small n is)) ∙ to_z-of_z w16 n (number_fits n is)

words_back : (labels : List ℕ) (rest : List ℕ) → All (λ (label : ℕ). label < 2 ^ 16) labels → words_in (length labels) (label_bytes labels ++ rest) ≡ labels
words_back [] rest small = refl
words_back (x ∷ xs) rest small =
    let first : word_in (big_bytes 2 x ++ (label_bytes xs ++ rest)) ≡ x = word_back x (label_bytes xs ++ rest) (All-head (λ (label : ℕ). label < 2 ^ 16) x xs small) in
    let more = words_back xs rest (All-tail (λ (label : ℕ). label < 2 ^ 16) x xs small) in
    ap (λ (z : ℕ). z ∷ words_in (length xs) (label_bytes xs ++ rest)) first ∙ ap (λ (zs : List ℕ). x ∷ zs) more

-- Instructions, read from their bytes

-- the instruction with this first byte and these operands, if there is one
abbrev by_first_byte : ℕ → List ℕ → Instruction
by_first_byte first operands =
    if first == 0x00 then Halt else
    (if first == 0x01 then Push (signed_in operands) else
    (if first == 0x02 then Load (slice_index operands 0) else
    (if first == 0x03 then Store (slice_index operands 0) else
    (if first == 0x04 then Add else
    (if first == 0x05 then Sub else
    (if first == 0x06 then Drop else
    (if first == 0x10 then Grip (big_from 0 4 operands) else
    (if first == 0x11 then Step (numbered (slice_index operands 0)) else
    (if first == 0x12 then Aside (numbered (slice_index operands 0)) (slice_index operands 1) else
    (if first == 0x13 then Tray (slice_index operands 0) else
    (if first == 0x20 then Jump (word_in operands) else
    (if first == 0x21 then Down (slice_index operands 0) (word_in (drop 1 operands)) else
    (if first == 0x22 then Ask (signed_in operands) (signed_in (drop 2 operands)) else
    (if first == 0x23 then Pick (words_in (slice_index operands 0) (drop 1 operands)) else
    (if first == 0x24 then Call (slice_index operands 0) else Ret)))))))))))))))

-- the instruction with which bytes begin, if they begin with one
abbrev pub read : List ℕ → Instruction
read bytes = by_first_byte (slice_index bytes 0) (drop 1 bytes)

read_back : (i : Instruction) (rest : List ℕ) → IsInRange i → read (spelled i ++ rest) ≡ i
read_back Halt rest is = refl
read_back (Push n) rest is = ap Push (signed_back n rest is)
read_back (Load slot) rest is = refl
read_back (Store slot) rest is = refl
read_back Add rest is = refl
read_back Sub rest is = refl
read_back Drop rest is = refl
read_back (Grip set) rest is = ap Grip (big_number-reads_back 4 set rest is.1)
read_back (Step d) rest is = ap Step (numbered_of_number d)
read_back (Aside d tray) rest is = ap (λ (e : Direction). Aside e tray) (numbered_of_number d)
read_back (Tray tray) rest is = refl
read_back (Jump label) rest is = ap Jump (word_back label rest is)
read_back (Down slot label) rest is = ap (λ (to : ℕ). Down slot to) (word_back label rest is.1)
read_back (Ask low high) rest is =
    let first : signed_in (signed_word low ++ (signed_word high ++ rest)) ≡ low = signed_back low (signed_word high ++ rest) is.0 in
    ap (λ (x : ℤ). Ask x (signed_in (signed_word high ++ rest))) first ∙ ap (λ (x : ℤ). Ask low x) (signed_back high rest is.1)
read_back (Pick labels) rest is = ap Pick (words_back labels rest is.2)
read_back (Call callee) rest is = refl
read_back Ret rest is = refl

-- an instruction is read back from the bytes that begin with it
pub read_begun : (bytes : List ℕ) (i : Instruction) → IsInRange i → Begins bytes i → read bytes ≡ i
read_begun bytes i in_range begins = ap read begins.1 ∙ read_back i begins.0 in_range

-- One at most

after_front : (xs ys : List ℕ) → drop (length xs) (xs ++ ys) ≡ ys
after_front [] ys = refl
after_front (x ∷ xs) ys = after_front xs ys

pub one_begins : OneBegins
one_begins bytes i j first second here also = sym (read_begun bytes i first here) ∙ read_begun bytes j second also

pub one_stands_at : OneStandsAt
one_stands_at code pc i j here also = one_begins (drop pc code) i j here.in_range also.in_range here.begins also.begins

pub stands_at_its_bytes : StandsAtItsBytes
stands_at_its_bytes front rest i j in_range = (λ stands. one_stands_at code (length front) j i stands here, λ same. subst (λ (k : Instruction). StandsAt code (length front) k) (sym same) here)
  where
    code : List ℕ
    code = front ++ (spelled i ++ rest)

    here : StandsAt code (length front) i
    here = record { in_range = in_range; begins = (rest, after_front front (spelled i ++ rest)) }

-- Whether there is one

decide_number : (n : ℤ) → Decided (IsInNumberRange n)
decide_number n = decided_and (decide_le _ _) (decide_le _ _)

pub decide_in_range : (i : Instruction) → Decided (IsInRange i)
decide_in_range Halt = inl tt
decide_in_range (Push n) = decide_number n
decide_in_range (Load slot) = decide_below slot SLOTS
decide_in_range (Store slot) = decide_below slot SLOTS
decide_in_range Add = inl tt
decide_in_range Sub = inl tt
decide_in_range Drop = inl tt
decide_in_range (Grip set) = decided_and (decided_not (decide_same set 0)) (decide_below set (2 ^ 32))
decide_in_range (Step d) = inl tt
decide_in_range (Aside d tray) = decide_below tray TRAYS
decide_in_range (Tray tray) = decide_below tray TRAYS
decide_in_range (Jump label) = decide_below label (2 ^ 16)
decide_in_range (Down slot label) = decided_and (decide_below slot SLOTS) (decide_below label (2 ^ 16))
decide_in_range (Ask low high) = decided_and_three (decide_number low) (decide_number high) (decide_le low high)
decide_in_range (Pick labels) = decided_and_three (decide_at_most 2 (length labels)) (decide_at_most (length labels) 8) (decide_all (λ (label : ℕ). label < 2 ^ 16) (λ label. decide_below label (2 ^ 16)) labels)
decide_in_range (Call callee) = decide_below callee 256
decide_in_range Ret = inl tt

-- the bytes of an instruction, and after them the others
is_cut : (bytes : List ℕ) (i : Instruction) → Begins bytes i → bytes ≡ spelled i ++ drop (length (spelled i)) bytes
is_cut bytes i begins =
    let after : drop (length (spelled i)) bytes ≡ begins.0 = ap (λ (all : List ℕ). drop (length (spelled i)) all) begins.1 ∙ after_front (spelled i) begins.0 in
    begins.1 ∙ ap (λ (rest : List ℕ). spelled i ++ rest) (sym after)

-- whether bytes begin with the bytes of this instruction
decide_begins_with : (bytes : List ℕ) (i : Instruction) → Decided (Begins bytes i)
decide_begins_with bytes i = decided_like (λ e. (drop (length (spelled i)) bytes, e)) (is_cut bytes i) (decide_same_bytes bytes (spelled i ++ drop (length (spelled i)) bytes))

-- whether bytes begin with an instruction
pub decide_begins : (bytes : List ℕ) → Decided ((i : Instruction) × IsInRange i × Begins bytes i)
decide_begins bytes = decided_like (λ both. (read bytes, both.0, both.1)) back (decided_and (decide_in_range (read bytes)) (decide_begins_with bytes (read bytes)))
  where
    back : (i : Instruction) × IsInRange i × Begins bytes i → IsInRange (read bytes) × Begins bytes (read bytes)
    back found = subst (λ (i : Instruction). IsInRange i × Begins bytes i) (sym (read_begun bytes found.0 found.1 found.2)) (found.1, found.2)

-- whether an instruction stands at a place of the code
pub decide_stands : (code : List ℕ) (pc : ℕ) → Decided ((i : Instruction) × StandsAt code pc i)
decide_stands code pc = decided_like
    (λ found. (found.0, record { in_range = found.1; begins = found.2 })) (λ found. (found.0, found.1.in_range, found.1.begins))
    (decide_begins (drop pc code))

-- an instruction stands at a place of the code, or none does
pub stands_or_none : (code : List ℕ) (pc : ℕ) → ((i : Instruction) × StandsAt code pc i) ⊎ ((i : Instruction) → ¬ StandsAt code pc i)
stands_or_none code pc = elim (decide_stands code pc) [ inl found ↦ inl found | inr none ↦ inr (λ i stands. none (i, stands)) ]
