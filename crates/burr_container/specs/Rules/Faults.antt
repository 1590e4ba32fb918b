-- The first fault of a container: the first field that fails. Fields are judged in their order,
-- each once all its bytes are there.
use Rattle.std.specs.Str.{bytes_eq}
use Rattle.std.specs.Prelude.{◌≡◌, ◌≢◌, ℕ, zero, suc, pred, ◌||◌, ◌+◌, ◌^◌, ◌/◌, ◌%◌, ◌<◌, ◌≤◌, ℤ, int_le, List, [], ◌∷◌, ◌++◌, length, take, codes, Option, Some, None, Bool, true, false, ◌&&◌, ◌⊎◌, ◌==◌, nat_le, nat_lt, IsTrue}
use Rattle.std.specs.List.{flat_map, list_all}
use Rattle.byteorder.specs.Endian.{big_bytes, big_number, twos_complement}
use Rattle.burr_text.specs.Checks.{needs}
use Rattle.burr_code.specs.Instruction.{signed_word}
use Rattle.burr_code.specs.declared.placement.Placement.{Placement}
use Rattle.burr_code.specs.declared.limits.TheConstants.{SLOTS, MOST_OPERANDS, MOST_CODE, MOST_LABELS, MOST_PROCEDURES, MOST_GUARDS}
use Rattle.burr_forms.specs.Rules.Forms.{Form}
use Rattle.burr_container.specs.declared.fault.ContainerFault.{ContainerFault}
use Rattle.burr_container.specs.declared.fault.ContainerFault.TheVariants.{C1, C2, C3, C4, C5, C6}
use Rattle.burr_container.specs.Rules.Plans.{FormCell, Range, Frame, ExitFrame, PlanProcedure, live_slots, exit_symbols}
use Rattle.burr_container.specs.Rules.Spelling.{counted_bytes, form_size, form_bytes, forms_bytes, range_bytes, ranges_bytes, slots_bytes, place_bytes, places_bytes, frame_bytes, exit_guards_bytes, exit_frame_bytes, label_bytes, labels_bytes, code_bytes, result_count_bytes, procedure_bytes}
use Rattle.burr_container.specs.Rules.Fitting.{is_form, are_forms, is_number, is_range, are_ranges, are_slots, is_tray, is_set_of, is_place, are_places, is_frame, most_exit_guards, is_exit_frame, is_code, are_parameters, are_results, is_procedure, are_procedures, is_piece_count, is_budget, is_version, is_name_text}

-- how bytes that begin at a position of the container fail
abbrev pub Failing : Type 1
Failing = ℕ → List ℕ → ContainerFault → Type 0

-- a part of a container: how its values are spelled, which of them fit, how bytes fail to be one
pub record Part (A : Type 0) : Type 1 where
  pub bytes : A → List ℕ
  pub fits : A → Bool
  pub Fails : Failing

-- nothing can fail here
abbrev pub passes : Failing
passes at bytes fault = ⊥

-- one failing where a test is passed, and another where it isn't
abbrev pub by_test : Bool → Failing → Failing → Failing
by_test true this that = this
by_test false this that = that

-- the part fails, or it stands there and what follows it fails
abbrev pub first : {A : Type 0} → Part A → (A → Failing) → Failing
first {A = A} part next at bytes fault =
    part.Fails at bytes fault
    ⊎ ((a : A) × (rest : List ℕ) × IsTrue (part.fits a) × (bytes ≡ part.bytes a ++ rest)
    × next a (at + length (part.bytes a)) rest fault)

-- `count` values of a part, one after the other, fail: the first ones stand there, and the next
-- one fails
abbrev pub each : {A : Type 0} → ℕ → Part A → Failing
each {A = A} count part at bytes fault =
    (front : List A) × (rest : List ℕ) × (length front < count)
    × IsTrue (list_all part.fits front) × (bytes ≡ flat_map part.bytes front ++ rest)
    × part.Fails (at + length (flat_map part.bytes front)) rest fault

-- a field of `width` bytes fails: it is cut short, or its bytes don't pass the test
abbrev pub field : ℕ → (ℕ → ContainerFault) → (List ℕ → Bool) → Failing
field width wrong is_so at bytes fault =
    needs (width ≤ length bytes) (C1 (at + length bytes))
    (needs (IsTrue (is_so (take width bytes))) (wrong at) (λ _. ⊥)) fault

-- a number of `width` bytes that passes the test
abbrev pub number : ℕ → (ℕ → ContainerFault) → (ℕ → Bool) → Part ℕ
number width wrong is_so = record {
  bytes = big_bytes width;
  fits = λ n. nat_lt n (256 ^ width) && is_so n;
  Fails = field width wrong (λ b. is_so (big_number width b));
}

-- a signed number of two bytes that passes the test
abbrev pub signed : (ℤ → Bool) → Part ℤ
signed is_so = record {
  bytes = signed_word;
  fits = is_so;
  Fails = field 2 C4 (λ b. is_so (twos_complement 2 (big_number 2 b)));
}

-- `width` bytes that pass the test
abbrev pub raw : ℕ → (ℕ → ContainerFault) → (List ℕ → Bool) → Part (List ℕ)
raw width wrong is_so = record {
  bytes = λ b. b;
  fits = λ b. (length b == width) && is_so b;
  Fails = field width wrong is_so;
}

-- a form over these live slots: any bytes are one, if there are enough
abbrev pub form : List Bool → Part Form
form live = record {
  bytes = form_bytes live;
  fits = is_form live;
  Fails = field (form_size live) C4 (λ _. true);
}

-- at most `most` forms, after their count
abbrev pub forms : ℕ → List Bool → Part (List Form)
forms most live = record {
  bytes = forms_bytes live;
  fits = are_forms most live;
  Fails = first (number 1 C4 (λ count. nat_le count most)) (λ count.
      each count (form live));
}

-- a range: its low end, and its high end, which is not below it
abbrev pub range : Part Range
range = record {
  bytes = λ r. range_bytes (Some r);
  fits = λ r. is_range (Some r);
  Fails = first (signed is_number) (λ low.
      (signed (λ high. is_number high && int_le low high)).Fails);
}

-- `count` ranges
abbrev pub ranges : ℕ → Part (List Range)
ranges count = record {
  bytes = ranges_bytes;
  fits = are_ranges count;
  Fails = each count range;
}

-- the ranges of the live slots
abbrev pub RangesFail : List Bool → Failing
RangesFail [] = passes
RangesFail (true ∷ live) = first range (λ _. RangesFail live)
RangesFail (false ∷ live) = RangesFail live

-- the bits of a mask, the lowest first
abbrev pub bits : ℕ → ℕ → List Bool
bits zero mask = []
bits (suc n) mask = (mask % 2 == 1) ∷ bits n (mask / 2)

abbrev pub slots : Part (List (Option Range))
slots = record {
  bytes = slots_bytes;
  fits = are_slots;
  Fails = first (number 1 C4 (λ _. true)) (λ mask. RangesFail (bits SLOTS mask));
}

-- where a piece lies: in the first byte 255, or a tray
abbrev pub place : List Bool → Part (Placement FormCell)
place live = record {
  bytes = place_bytes live;
  fits = is_place live;
  Fails = first (number 1 C4 (λ tray. (tray == 255) || is_tray tray)) (λ tray.
      by_test (tray == 255) passes (each 3 (form live)));
}

-- a place for each piece; there are `pieces` of them
abbrev pub places : ℕ → List Bool → Part (List (Placement FormCell))
places pieces live = record {
  bytes = places_bytes live;
  fits = are_places pieces live;
  Fails = each pieces (place live);
}

abbrev pub frame : ℕ → Part Frame
frame pieces = record {
  bytes = frame_bytes;
  fits = is_frame pieces;
  Fails = first (number 1 C4 is_tray) (λ tray.
      first (number 4 C4 (is_set_of pieces)) (λ grip.
      first slots (λ s.
      first (forms MOST_GUARDS (live_slots s)) (λ guards.
      first (forms MOST_OPERANDS (live_slots s)) (λ stack.
      first (form (live_slots s)) (λ cost.
      (places pieces (live_slots s)).Fails))))));
}

-- the guards of an exit frame, in version 2 alone
abbrev pub exit_guards : ℕ → List Bool → Part (List Form)
exit_guards version live = record {
  bytes = exit_guards_bytes version live;
  fits = are_forms (most_exit_guards version) live;
  Fails = by_test (version == 2) (forms MOST_GUARDS live).Fails passes;
}

-- what follows the grip of an exit frame over these symbols
abbrev pub ExitRestFails : ℕ → ℕ → ℕ → List Bool → Failing
ExitRestFails version pieces results live =
    first (ranges results) (λ _.
    first (exit_guards version live) (λ _.
    (places pieces live).Fails))

abbrev pub exit_frame : ℕ → ℕ → ℕ → ℕ → Part ExitFrame
exit_frame version pieces parameters results = record {
  bytes = exit_frame_bytes version parameters results;
  fits = is_exit_frame version pieces parameters results;
  Fails = first (number 1 C4 is_tray) (λ tray.
      first (number 4 C4 (is_set_of pieces)) (λ grip.
      ExitRestFails version pieces results (exit_symbols parameters results)));
}

-- a label at a position that passes the test
abbrev pub label : (ℕ → Bool) → ℕ → Part (ℕ × Frame)
label is_so pieces = record {
  bytes = label_bytes;
  fits = λ l. is_so l.0 && nat_lt l.0 (2 ^ 16) && is_frame pieces l.1;
  Fails = first (number 2 C5 is_so) (λ position. (frame pieces).Fails);
}

-- a label may stand here after the last one; the first stands at 0
abbrev pub is_next_label : Option ℕ → ℕ → Bool
is_next_label None position = position == 0
is_next_label (Some last) position = nat_lt last position

-- the position of the last label
abbrev pub last_label : List (ℕ × Frame) → Option ℕ
last_label [] = None
last_label (label ∷ []) = Some label.0
last_label (label ∷ next ∷ labels) = last_label (next ∷ labels)

-- labels at positions of two bytes that rise
abbrev pub are_rising : Option ℕ → List (ℕ × Frame) → Bool
are_rising last [] = true
are_rising last (label ∷ labels) =
    is_next_label last label.0 && nat_lt label.0 (2 ^ 16) && are_rising (Some label.0) labels

-- `count` labels fail: the first ones stand there, and the position or the frame of the next one
-- fails
abbrev pub LabelsFail : ℕ → ℕ → Failing
LabelsFail pieces count at bytes fault =
    (front : List (ℕ × Frame)) × (rest : List ℕ) × (length front < count)
    × IsTrue (are_rising None front && list_all (λ label. is_frame pieces label.1) front)
    × (bytes ≡ flat_map label_bytes front ++ rest)
    × (label (is_next_label (last_label front)) pieces).Fails
    (at + length (flat_map label_bytes front)) rest fault

-- labels after their count, and the code after its length, which is above the last label
abbrev pub labels : ℕ → Part (List (ℕ × Frame))
labels pieces = record {
  bytes = labels_bytes;
  fits = λ ls. nat_le 1 (length ls) && nat_le (length ls) MOST_LABELS && are_rising None ls
      && list_all (λ label. is_frame pieces label.1) ls;
  Fails = first (number 2 C4 (λ count. nat_le 1 count && nat_le count MOST_LABELS)) (λ count.
      LabelsFail pieces count);
}

abbrev pub is_above : Option ℕ → ℕ → Bool
is_above None length = true
is_above (Some last) length = nat_lt last length

abbrev pub CodeFails : Option ℕ → Failing
CodeFails last =
    first (number 2 C4 (λ length. is_above last length && nat_le length MOST_CODE)) (λ length.
    (raw length C4 (λ _. true)).Fails)

abbrev pub code : Option ℕ → Part (List ℕ)
code last = record {
  bytes = code_bytes;
  fits = λ c. is_above last (length c) && is_code c;
  Fails = CodeFails last;
}

-- what follows the parameters of a procedure
abbrev pub BodyFails : ℕ → Failing
BodyFails pieces = first (labels pieces) (λ ls. CodeFails (last_label ls))

abbrev pub body : ℕ → Part (List (ℕ × Frame) × List ℕ)
body pieces = record {
  bytes = λ b. labels_bytes b.0 ++ code_bytes b.1;
  fits = λ b. (labels pieces).fits b.0 && (code (last_label b.0)).fits b.1;
  Fails = BodyFails pieces;
}

-- how many results, in version 2 alone
abbrev pub result_count : ℕ → Bool → Part ℕ
result_count version main = record {
  bytes = result_count_bytes version;
  fits = are_results version main;
  Fails = by_test (version == 2) (number 1 C4 (are_results version main)).Fails passes;
}

-- what follows the parameters and the count of the results
abbrev pub ExitFails : ℕ → ℕ → Bool → ℕ → ℕ → Failing
ExitFails version pieces main parameters results =
    by_test main (BodyFails pieces)
    (first (exit_frame version pieces parameters results) (λ exit. BodyFails pieces))

abbrev pub procedure : ℕ → ℕ → Bool → Part PlanProcedure
procedure version pieces main = record {
  bytes = procedure_bytes version;
  fits = is_procedure version pieces main;
  Fails = first (number 1 C4 (are_parameters main)) (λ parameters.
      first (result_count version main) (λ results.
      ExitFails version pieces main parameters results));
}

-- `count` procedures other than main
abbrev pub others : ℕ → ℕ → ℕ → Part (List PlanProcedure)
others version pieces count = record {
  bytes = flat_map (procedure_bytes version);
  fits = λ ps. (length ps == count) && list_all (is_procedure version pieces false) ps;
  Fails = each count (procedure version pieces false);
}

-- bytes follow
abbrev pub IsFollowed : Failing
IsFollowed at bytes fault = (bytes ≢ []) × (fault ≡ C6 at)

-- the procedures after their count, main first, and nothing after the last
abbrev pub ProceduresFail : ℕ → ℕ → Failing
ProceduresFail version pieces =
    first (number 1 C4 (λ count. nat_le 1 count && nat_le count MOST_PROCEDURES)) (λ count.
    first (procedure version pieces true) (λ main.
    first (others version pieces (pred count)) (λ _. IsFollowed)))

abbrev pub procedures : ℕ → ℕ → Part (List PlanProcedure)
procedures version pieces = record {
  bytes = counted_bytes (procedure_bytes version);
  fits = are_procedures version pieces;
  Fails = ProceduresFail version pieces;
}

-- a name after its length
abbrev pub name : Part (List ℕ)
name = record {
  bytes = λ n. length n ∷ n;
  fits = is_name_text;
  Fails = first (number 1 C4 (λ length. nat_le 1 length && nat_le length 32)) (λ length.
      (raw length C4 is_name_text).Fails);
}

-- the bytes that each container begins with
abbrev pub is_magic : List ℕ → Bool
is_magic bytes = bytes_eq bytes (codes "BPLN")

-- The first fault of a container's bytes.
abbrev pub ContainerFails : Failing
ContainerFails =
    first (raw 4 C2 is_magic) (λ _.
    first (number 2 C3 is_version) (λ version.
    first (number 4 C4 is_budget) (λ budget.
    first (number 1 C4 is_piece_count) (λ pieces.
    first name (λ _.
    ProceduresFail version pieces)))))
