-- Where something is due in the lines of a plan text, and what is made of them.
use Rattle.std.proofs.Common.{◌≡◌, ◌≢◌, ◌≤◌, ◌==◌, ◌↔◌, ◌++◌, ◌∷◌, ℕ, List, [], true, false, nat_eq, Contains, All, Option, Some, None, String, IsSome, codes, map, reverse, drop, length, slice_index_or, slice_get, refl, sym, ap, ◌∙◌, inl, inr, subst, append_assoc, append-nil, arith}
use Rattle.std.specs.List.{flat_map}
use Rattle.std.specs.declared.alloc.Global.{Global}
use Rattle.std.proofs.lemmas.Bool.Decides.{nat_tests}
use Rattle.std.proofs.lemmas.List.{append_cancel_left, drop_all, reverse-append, reverse-reverse}
use Rattle.std.proofs.lemmas.List.Elements.{All-nil, All-cons, All-head, All-tail, Contains-append_left}
use Rattle.std.proofs.lemmas.List.Sorted.{All-permutation, IsPermutation-reverse}
use Rattle.burr_text.specs.Lines.{IsUnended}
use Rattle.burr_lines.specs.declared.unframed.Part.{Part}
use Rattle.burr_lines.specs.declared.unframed.Due.{Due}
use Rattle.burr_lines.specs.FilledTexts.{EndsByAuto, IsFilledIn, StandsFor}
use Rattle.burr_lines.specs.Parts.{AreRead, BeginsBy, FrameIsDue, IsDueAfter, IsFilledBy, in_place, in_places, line_of, own_line}

pub begins_alone : (word line rest : List ℕ) → line ≡ word ++ rest → (length rest == 0) ≡ true → BeginsBy word line
begins_alone word line [] is none = inl (is ∙ append-nil word)
begins_alone word line (b ∷ rest) is none = grind (arith, nat_tests)

pub begins_on : (word line rest : List ℕ) → line ≡ word ++ rest → (length rest == 0) ≡ false
    → (nat_eq (slice_index_or rest 0 0) 32 ≡ true → BeginsBy word line) × (BeginsBy word line → nat_eq (slice_index_or rest 0 0) 32 ≡ true)
begins_on word line [] is some = grind (arith, nat_tests)
begins_on word line (b ∷ rest) is some = (λ blank. inr (rest, is ∙ ap (λ x. word ++ x ∷ rest) (same blank)), back)
  where
    same : nat_eq b 32 ≡ true → b ≡ 32
    same blank = grind (arith, nat_tests)

    is_blank : b ≡ 32 → nat_eq b 32 ≡ true
    is_blank blank = grind (arith, nat_tests)

    back : BeginsBy word line → nat_eq b 32 ≡ true
    back (inl whole) = absurd (apart (append_cancel_left word (b ∷ rest) [] (sym is ∙ (whole ∙ sym (append-nil word)))))
      where
        apart : b ∷ rest ≡ [] → ⊥
        apart e = cc
    back (inr (more, one)) = is_blank (ap (λ l. slice_index_or l 0 0) (append_cancel_left word (b ∷ rest) (32 ∷ more) (sym is ∙ one)))

pub begins_nowhere : (word line : List ℕ) → ((rest : List ℕ) → line ≢ word ++ rest) → BeginsBy word line → ⊥
begins_nowhere word line never (inl whole) = never [] (whole ∙ sym (append-nil word))
begins_nowhere word line never (inr (more, one)) = never (32 ∷ more) one

by_auto : (line front : List ℕ) → line ≡ front ++ codes " auto" → IsUnended line → EndsByAuto (line ++ codes "\n")
by_auto line front is one =
    let word = is ∙ sym (append_assoc front (codes " ") (codes "auto")) in
    (front ++ codes " ", ap (λ (l : List ℕ). l ++ codes "\n") word ∙ append_assoc (front ++ codes " ") (codes "auto") (codes "\n"), λ within. one (subst (λ (l : List ℕ). Contains l 10) (sym word) (Contains-append_left (front ++ codes " ") (codes "auto") 10 within)))

due_ends : (before : List (List ℕ)) (line : List ℕ) → IsUnended line → IsDueAfter before line → EndsByAuto (line ++ codes "\n")
due_ends before line one (inl (alone, due)) = ([], ap (λ (l : List ℕ). l ++ codes "\n") alone, λ within. absurd (omega (arith, within.1)))
due_ends before line one (inr (back, (front, is))) = by_auto line front is one

-- what is due, is due at the end of the line
abbrev Ends : Part → Type 0
Ends part = IsSome part.due → EndsByAuto (own_line part)

ends_of : (parts : List Part) → AreRead parts → All Ends parts
ends_of [] read = All-nil Ends
ends_of (part ∷ before) (due, one, read) = All-cons Ends part before (λ some. due_ends (map line_of before) part.line.now one (due.0 some)) (ends_of before read)

stands : (line : List ℕ) (due : Option Due) (fill : Option (Option (String Global))) → (IsSome due → EndsByAuto line) → StandsFor (line, in_place line due fill)
stands line (Some due) (Some (Some text)) ends = inr (ends refl)
stands line (Some due) (Some None) ends = inl refl
stands line (Some due) None ends = inl refl
stands line None fill ends = inl refl

filled : (parts : List Part) (fills : List (Option (String Global))) (rest : List ℕ) → All Ends parts
    → IsFilledIn (flat_map own_line parts ++ rest) (in_places parts fills ++ rest)
filled [] fills rest ends = ((rest, rest) ∷ [], (inl refl, tt), sym (append-nil rest), sym (append-nil rest))
filled (part ∷ parts) fills rest ends =
    let own = own_line part in
    let put = in_place own part.due (slice_get fills 0) in
    let (stretches, stand, these, those) = filled parts (drop 1 fills) rest (All-tail Ends part parts ends) in
    ((own, put) ∷ stretches, (stands own part.due (slice_get fills 0) (All-head Ends part parts ends), stand), append_assoc own (flat_map own_line parts) rest ∙ ap (λ (t : List ℕ). own ++ t) these, append_assoc put (in_places parts (drop 1 fills)) rest ∙ ap (λ (t : List ℕ). put ++ t) those)

-- Only lines that end by `auto` are given up for what is given.
pub filled_in : (text made : List ℕ) (fills : List (Option (String Global))) → IsFilledBy text fills made → IsFilledIn text made
filled_in text made fills (parts, rest, (whole, read, last), is) =
    let ends = subst (λ (ps : List Part). All Ends ps) (reverse-reverse parts) (All-permutation Ends (reverse parts) (reverse (reverse parts)) (IsPermutation-reverse (reverse parts)) (ends_of (reverse parts) read)) in
    subst (λ (m : List ℕ). IsFilledIn text m) (sym is) (subst (λ (t : List ℕ). IsFilledIn t (in_places parts fills ++ rest)) (sym whole) (filled parts fills rest ends))

-- one line more, and what is due after it
pub one_more : (parts more : List Part) (part : Part) (due : Option Due) → more ≡ parts ++ part ∷ [] → AreRead (reverse parts) → IsUnended part.line.now
    → (IsSome part.due ↔ IsDueAfter (map line_of (reverse parts)) part.line.now) → (IsSome due ↔ FrameIsDue (part.line.now ∷ map line_of (reverse parts)))
    → AreRead (reverse more) × (IsSome due ↔ FrameIsDue (map line_of (reverse more)))
one_more parts more part due is read one own next =
    subst (λ (ps : List Part). AreRead ps × (IsSome due ↔ FrameIsDue (map line_of ps))) (sym (ap reverse is ∙ reverse-append parts (part ∷ []))) ((own, one, read), next)

-- once no line is left, all that was made is what comes of the lines
pub all_put : (parts : List Part) (fills : List (Option (String Global))) (made : List ℕ) (n : ℕ) → length parts ≤ n
    → made ++ in_places (drop n parts) (drop n fills) ≡ in_places parts fills → made ≡ in_places parts fills
all_put parts fills made n all is =
    sym (append-nil made) ∙ (ap (λ (ps : List Part). made ++ in_places ps (drop n fills)) (sym (drop_all n parts all)) ∙ is)
