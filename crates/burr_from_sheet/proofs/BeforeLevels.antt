-- What of a text stands before its first line that begins `levels `.
use Rattle.std.proofs.Common.{◌≡◌, ◌==◌, ◌&&◌, ◌++◌, ◌⊎◌, ℕ, List, [], ◌∷◌, Bool, true, false, length, drop, if◌then◌else◌, nat_eq, codes, inl, inr, refl, ap, sym, subst, ◌∙◌, eqb-true, true≢false, arith}
use Rattle.std.specs.List.{starts_with}
use Rattle.std.proofs.lemmas.Bool.{and_from, and_parts}
use Rattle.std.proofs.lemmas.Bool.Decides.{Decides-eqb}
use Rattle.std.proofs.lemmas.Slice.Eq.{starts_is}
use Rattle.burr_text.specs.Lines.{IsLines}
use Rattle.burr_text.proofs.Common.Cuts.{same_head, same_tail}
use Rattle.burr_from_sheet.specs.SheetPlans.{BeginsLevels, MoveLinesAreBeforeLevels, before_levels}

-- the test for the word, and that a text begins with it
begins_by_test : (text : List ℕ) → starts_with nat_eq text (codes "levels ") ≡ true → BeginsLevels text
begins_by_test text is = (drop 7 text, (starts_is Decides-eqb text (codes "levels ") true (sym is)).0 refl)

test_of_begins : (text : List ℕ) → BeginsLevels text → starts_with nat_eq text (codes "levels ") ≡ true
test_of_begins text begins =
    (starts_is Decides-eqb text (codes "levels ") (starts_with nat_eq text (codes "levels ")) refl).1 begins.0 begins.1

-- whether a line begins after the bytes, where one begins before them or not
abbrev line_begins : Bool → List ℕ → Bool
line_begins begins [] = begins
line_begins begins (b ∷ bytes) = line_begins (b == 10) bytes

-- one begins after lines
after_end : (begins : Bool) (front : List ℕ) → line_begins begins (front ++ 10 ∷ []) ≡ true
after_end begins [] = refl
after_end begins (b ∷ front) = after_end (b == 10) front

after_lines : (text : List ℕ) → IsLines text → line_begins true text ≡ true
after_lines text (inl e) = subst (λ (t : List ℕ). line_begins true t ≡ true) (sym e) refl
after_lines text (inr p) = subst (λ (t : List ℕ). line_begins true t ≡ true) (sym p.1) (after_end true p.0)

-- and where one begins, lines stand before it
end_before : (begins : Bool) (b : ℕ) (bytes : List ℕ) → line_begins begins (b ∷ bytes) ≡ true
    → (front : List ℕ) × (b ∷ bytes ≡ front ++ 10 ∷ [])
end_before begins b [] is = ([], ap (λ (c : ℕ). c ∷ []) (eqb-true b 10 is))
end_before begins b (c ∷ bytes) is =
    let next = end_before (b == 10) c bytes is in (b ∷ next.0, ap (λ (t : List ℕ). b ∷ t) next.1)

lines_before : (text : List ℕ) → line_begins true text ≡ true → IsLines text
lines_before [] is = inl refl
lines_before (b ∷ bytes) is = inr (end_before true b bytes is)

-- as `AreBeforeLevels`, of a text that begins a line or stands within one
record IsCut (begins : Bool) (text lines : List ℕ) : Type 0 where
  rest : List ℕ
  parts : text ≡ lines ++ rest
  none : (front more : List ℕ) → lines ≡ front ++ more → line_begins begins front ≡ true → ¬ BeginsLevels more
  follows : (rest ≡ []) ⊎ ((line_begins begins lines ≡ true) × BeginsLevels rest)

-- no bytes begin with the word
none_in_nothing : (front more : List ℕ) → [] ≡ front ++ more → ¬ BeginsLevels more
none_in_nothing [] more e levels = true≢false (sym (test_of_begins [] (levels.0, e ∙ levels.1)))
none_in_nothing (b ∷ front) more e levels = let count = ap (λ (t : List ℕ). length t) e in omega (arith, count)

-- a byte that does not begin the word at the beginning of a line
one_more : (begins : Bool) (b : ℕ) (bytes lines : List ℕ)
    → (begins && starts_with nat_eq (b ∷ bytes) (codes "levels ")) ≡ false → IsCut (b == 10) bytes lines
    → IsCut begins (b ∷ bytes) (b ∷ lines)
one_more begins b bytes lines differs cut =
    record { rest = cut.rest; parts = ap (λ (t : List ℕ). b ∷ t) cut.parts; none = none; follows = cut.follows }
  where
    none : (front more : List ℕ) → b ∷ lines ≡ front ++ more → line_begins begins front ≡ true → ¬ BeginsLevels more
    none [] more e begun levels =
        let whole : b ∷ bytes ≡ codes "levels " ++ (levels.0 ++ cut.rest) =
        ap (λ (t : List ℕ). b ∷ t) cut.parts ∙ ap (λ (t : List ℕ). t ++ cut.rest) (e ∙ levels.1) in
        let test = test_of_begins (b ∷ bytes) (levels.0 ++ cut.rest, whole) in
        true≢false (sym (and_from begins (starts_with nat_eq (b ∷ bytes) (codes "levels ")) begun test) ∙ differs)
    none (c ∷ front) more e begun levels =
        let same = same_head b c lines (front ++ more) e in
        cut.none front more (same_tail b c lines (front ++ more) e)
        (subst (λ (x : ℕ). line_begins (x == 10) front ≡ true) (sym same) begun) levels

-- what is before the levels is cut so
cut_before : (begins : Bool) (text : List ℕ) → IsCut begins text (before_levels begins text)
cut_before begins [] = record {
  rest = [];
  parts = refl;
  none = λ front more e begun. none_in_nothing front more e;
  follows = inl refl;
}
cut_before begins (b ∷ bytes) =
    by (begins && starts_with nat_eq (b ∷ bytes) (codes "levels ")) refl (cut_before (b == 10) bytes)
  where
    by : (test : Bool) → (begins && starts_with nat_eq (b ∷ bytes) (codes "levels ")) ≡ test
        → IsCut (b == 10) bytes (before_levels (b == 10) bytes)
        → IsCut begins (b ∷ bytes) (if test then [] else (b ∷ before_levels (b == 10) bytes))
    by true is cut =
        let both = and_parts begins (starts_with nat_eq (b ∷ bytes) (codes "levels ")) is in
        record {
          rest = b ∷ bytes;
          parts = refl;
          none = λ front more e begun. none_in_nothing front more e;
          follows = inr (both.0, begins_by_test (b ∷ bytes) both.1);
        }
    by false is cut = one_more begins b bytes (before_levels (b == 10) bytes) is cut

-- the move lines of a text are its lines before its levels
pub move_lines_before : MoveLinesAreBeforeLevels
move_lines_before text =
    let cut = cut_before true text in
    record {
      rest = cut.rest;
      parts = cut.parts;
      none = λ front more e lines. cut.none front more e (after_lines front lines);
      follows = elim cut.follows [
        | inl e ↦ inl e
        | inr p ↦ inr (lines_before (before_levels true text) p.0, p.1)
      ];
    }
