-- A sheet is lines, and after them its closing line.
use Rattle.std.proofs.Common.{◌≡◌, ◌≢◌, ℕ, suc, ◌≤◌, ◌<◌, ◌⊎◌, List, [], ◌∷◌, ◌++◌, refl, sym, ap, ◌∙◌, arith, inl, inr, append_assoc}
use Rattle.std.proofs.lemmas.List.{append-nil}
use Rattle.std.proofs.lemmas.List.Elements.{All-head, All-tail}
use Rattle.std.specs.Prelude.{decimal, codes, Bool, true, false, if◌then◌else◌, slice_index, map}
use Rattle.burr_code.specs.PieceSets.{is_left_out}
use Rattle.std.specs.Fmt.{signed_decimal}
use Rattle.std.specs.List.{All, flat_map, join_with_byte}
use Rattle.burr_voxels.specs.declared.direction.Direction.{Direction}
use Rattle.burr_voxels.specs.declared.direction.Direction.TheVariants.{PlusX, MinusX, PlusY, MinusY, PlusZ, MinusZ}
use Rattle.burr_voxels.specs.Grid.{name_of}
use Rattle.burr_text.specs.Lines.{IsUnended}
use Rattle.burr_text.proofs.Common.Cuts.{Lacks, lacks}
use Rattle.burr_state.specs.declared.effect.Motion.{Motion}
use Rattle.burr_state.specs.declared.effect.Trap.{Trap}
use Rattle.burr_state.specs.declared.effect.Trap.TheVariants.{Collision, GripOff, NotFree, BadGroup, TrayInUse, MissingOperand, StackFull, EmptySlot, BadJump, BadCode, BadCall, BadCount, NumberRange, OffBench, NotApart, Misplaced, ParamWritten}
use Rattle.burr_state.specs.Rules.TrapNames.{trap_number, trap_name}
use Rattle.burr_state.specs.declared.effect.Closing.{Closing}
use Rattle.burr_sheet.specs.Rules.SheetText.{MoveLine, longest_lines, levels_from, names_from, out_word, move_words, move_line, move_lines, levels_word, levels_line, after_words, trap_words, closing_line}
use Rattle.burr_text.specs.Words.{text_line}
use Rattle.burr_sheet.specs.Laws.SheetLaws.{ClosesInOneLine, EndsInClosing}
use Rattle.burr_state.specs.declared.effect.Closing.TheVariants as closings
use Rattle.burr_text.proofs.Common.Unended.{unended, lacks_append, is_clear, lacks_clear, EachLacks, lacks_join, AreDigits, decimal_is_digits, lacks_decimal, lacks_signed_decimal}

-- The closing line

clear_trap_name : (trap : Trap) → is_clear (trap_name trap) ≡ true
clear_trap_name Collision = refl
clear_trap_name GripOff = refl
clear_trap_name NotFree = refl
clear_trap_name BadGroup = refl
clear_trap_name TrayInUse = refl
clear_trap_name MissingOperand = refl
clear_trap_name StackFull = refl
clear_trap_name EmptySlot = refl
clear_trap_name BadJump = refl
clear_trap_name BadCode = refl
clear_trap_name BadCall = refl
clear_trap_name BadCount = refl
clear_trap_name NumberRange = refl
clear_trap_name OffBench = refl
clear_trap_name NotApart = refl
clear_trap_name Misplaced = refl
clear_trap_name ParamWritten = refl

-- the bytes are one line with its end
pub record IsOneLine (text : List ℕ) : Type 0 where
  pub body : List ℕ
  pub lacks : Lacks 10 body
  pub is : text ≡ body ++ 10 ∷ []

words_line : (words : List (List ℕ)) → EachLacks 10 words → IsOneLine (text_line words)
words_line words each = record { body = join_with_byte 32 words; lacks = lacks_join 10 32 words (λ e. omega arith) each; is = refl }

lacks_after : (steps : ℕ) → EachLacks 10 (after_words steps)
lacks_after steps = (lacks_clear (codes "after") refl, (lacks_decimal steps, (lacks_clear (codes "steps") refl, tt)))

pub closing_is_line : (closing : Closing) (steps : ℕ) → IsOneLine (closing_line closing steps)
closing_is_line closings.Apart steps =
    words_line (codes "apart" ∷ codes "in" ∷ decimal steps ∷ codes "steps" ∷ [])
    (lacks_clear (codes "apart") refl, (lacks_clear (codes "in") refl, (lacks_decimal steps, (lacks_clear (codes "steps") refl, tt))))
closing_is_line (closings.Waiting low high) steps =
    words_line (codes "waiting" ∷ signed_decimal low ∷ signed_decimal high ∷ after_words steps)
    (lacks_clear (codes "waiting") refl, (lacks_signed_decimal low, (lacks_signed_decimal high, lacks_after steps)))
closing_is_line (closings.Trapped trap procedure pc) steps =
    words_line (trap_words trap procedure pc ++ after_words steps)
    (lacks_clear (codes "trap") refl, (lacks_decimal (trap_number trap), (lacks_clear (trap_name trap) (clear_trap_name trap), (lacks_clear (codes "proc") refl, (lacks_decimal procedure, (lacks_clear (codes "pc") refl, (lacks_decimal pc, lacks_after steps)))))))
closing_is_line closings.Stopped steps = words_line (codes "stopped" ∷ after_words steps) (lacks_clear (codes "stopped") refl, lacks_after steps)

pub closes_in_one_line : ClosesInOneLine
closes_in_one_line closing steps = let line = closing_is_line closing steps in (line.body, unended line.body line.lacks, line.is)

pub ends_in_closing : EndsInClosing
ends_in_closing names motions steps closing =
    let moves : List ℕ = move_lines names 1 (longest_lines motions) in
    let levels : List ℕ = join_with_byte 32 (codes "levels" ∷ levels_word (levels_from 0 (longest_lines motions)) ∷ []) in
    (moves ++ (levels ++ 10 ∷ []), inr (moves ++ levels, sym (append_assoc moves levels (10 ∷ []))), refl)

-- The lines before it

-- the line begins as no closing line does: with a digit, or as that of the levels
abbrev pub IsPlain : List ℕ → Type 0
IsPlain line = (slice_index line 0 ≤ 57) ⊎ (slice_index line 0 ≡ 108)

not_plain : (first : ℕ) → 57 < first → first ≢ 108 → ¬ ((first ≤ 57) ⊎ (first ≡ 108))
not_plain first above other (inl h) = omega arith
not_plain first above other (inr e) = other e

pub closing_is_not_plain : (closing : Closing) (steps : ℕ) → ¬ IsPlain (closing_is_line closing steps).body
unfolding closing_is_line words_line
closing_is_not_plain closings.Apart steps = not_plain 97 (omega arith) (λ e. omega arith)
closing_is_not_plain (closings.Waiting low high) steps = not_plain 119 (omega arith) (λ e. omega arith)
closing_is_not_plain (closings.Trapped trap procedure pc) steps = not_plain 116 (omega arith) (λ e. omega arith)
closing_is_not_plain closings.Stopped steps = not_plain 115 (omega arith) (λ e. omega arith)

-- lines that begin so, none with an end of a line in it
abbrev pub ArePlain : List (List ℕ) → Type 0
ArePlain [] = Unit {0}
ArePlain (line ∷ lines) = Lacks 10 line × IsPlain line × ArePlain lines

-- lines in a row, each ended
abbrev pub in_lines : List (List ℕ) → List ℕ
in_lines lines = flat_map (λ line. line ++ 10 ∷ []) lines

-- what begins with a number begins with a digit
number_first : (bytes rest : List ℕ) → AreDigits bytes → slice_index (bytes ++ 32 ∷ rest) 0 ≤ 57
number_first [] rest h = omega arith
number_first (b ∷ bytes) rest h = h.0.1

clear_direction : (d : Direction) → is_clear (name_of d) ≡ true
clear_direction PlusX = refl
clear_direction MinusX = refl
clear_direction PlusY = refl
clear_direction MinusY = refl
clear_direction PlusZ = refl
clear_direction MinusZ = refl

lacks_out : (out : Bool) → EachLacks 10 (out_word out)
lacks_out true = (lacks_clear (codes "out") refl, tt)
lacks_out false = tt

lacks_names : (names : List (List ℕ)) → All IsUnended names → EachLacks 10 names
lacks_names [] h = tt
lacks_names (name ∷ names) h = (lacks 10 name (All-head IsUnended name names h), lacks_names names (All-tail IsUnended name names h))

lacks_group : (p group : ℕ) (names : List (List ℕ)) → EachLacks 10 names → EachLacks 10 (names_from p group names)
lacks_group p group [] h = tt
lacks_group p group (name ∷ names) h = either (is_left_out group p) (lacks_group (suc p) group names h.1)
  where
    either : (t : Bool) → EachLacks 10 (names_from (suc p) group names) → EachLacks 10 (if t then names_from (suc p) group names else (name ∷ names_from (suc p) group names))
    either true rest = rest
    either false rest = (h.0, rest)

lacks_numbers : (ns : List ℕ) → EachLacks 10 (map decimal ns)
lacks_numbers [] = tt
lacks_numbers (n ∷ ns) = (lacks_decimal n, lacks_numbers ns)

lacks_levels : (levels : List ℕ) → Lacks 10 (levels_word levels)
lacks_levels [] = lacks_clear (codes "-") refl
lacks_levels (n ∷ ns) = lacks_join 10 46 (map decimal (n ∷ ns)) (λ e. omega arith) (lacks_numbers (n ∷ ns))

lacks_move : (names : List (List ℕ)) (n : ℕ) (l : MoveLine) → EachLacks 10 names → Lacks 10 (join_with_byte 32 (move_words names n l))
lacks_move names n l h =
    lacks_join 10 32 (move_words names n l) (λ e. omega arith) (
      lacks_decimal n,
      (
        lacks_append 10 (codes "t") (decimal l.tray) (lacks_clear (codes "t") refl) (lacks_decimal l.tray),
        (
          lacks_join 10 44 (names_from 0 l.group names) (λ e. omega arith) (lacks_group 0 l.group names h),
          (lacks_clear (name_of l.direction) (clear_direction l.direction), (lacks_decimal l.units, lacks_out l.out)),
        ),
      ),
    )

-- the bytes are plain lines, each ended
pub record IsInLines (text : List ℕ) : Type 0 where
  pub lines : List (List ℕ)
  pub plain : ArePlain lines
  pub is : text ≡ in_lines lines

-- the lines of the motions, and after them that of the levels
front_in_lines : (names : List (List ℕ)) (n : ℕ) (ls : List MoveLine) (levels : List ℕ) → EachLacks 10 names → IsInLines (move_lines names n ls ++ levels_line levels)
front_in_lines names n [] levels h =
    let words : List (List ℕ) = codes "levels" ∷ levels_word levels ∷ [] in
    record {
      lines = join_with_byte 32 words ∷ [];
      plain = (lacks_join 10 32 words (λ e. omega arith) (lacks_clear (codes "levels") refl, (lacks_levels levels, tt)), inr refl, tt);
      is = sym (append-nil (text_line words));
    }
front_in_lines names n (l ∷ ls) levels h =
    let rest = front_in_lines names (suc n) ls levels h in
    record {
      lines = join_with_byte 32 (move_words names n l) ∷ rest.lines;
      plain = (lacks_move names n l h, inl (number_first (decimal n) _ (decimal_is_digits n)), rest.plain);
      is = append_assoc (move_line names n l) (move_lines names (suc n) ls) (levels_line levels) ∙ ap (λ (bytes : List ℕ). move_line names n l ++ bytes) rest.is;
    }

-- what stands before the closing line
abbrev pub sheet_front : List (List ℕ) → List Motion → List ℕ
sheet_front names motions = move_lines names 1 (longest_lines motions) ++ levels_line (levels_from 0 (longest_lines motions))

pub sheet_in_lines : (names : List (List ℕ)) (motions : List Motion) → All IsUnended names → IsInLines (sheet_front names motions)
sheet_in_lines names motions h = front_in_lines names 1 (longest_lines motions) (levels_from 0 (longest_lines motions)) (lacks_names names h)
