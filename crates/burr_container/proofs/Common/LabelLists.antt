-- For crates above: labels at rising positions are a lawful part.
use Rattle.std.proofs.Common.{◌≡◌, ℕ, zero, suc, ◌+◌, ◌^◌, ◌<◌, ◌≤◌, ◌&&◌, Bool, IsTrue, nat_lt, nat_le, Option, Some, None, List, [], ◌∷◌, ◌++◌, length, flat_map, inl, inr, refl, sym, ◌∙◌, subst, arith, append_assoc, length-append, ltb-true, leb-true}
use Rattle.std.specs.List.{list_all}
use Rattle.std.proofs.lemmas.Bool.{and_parts, and_from}
use Rattle.burr_code.specs.declared.limits.TheConstants.{MOST_LABELS}
use Rattle.burr_container.specs.declared.fault.ContainerFault.{ContainerFault}
use Rattle.burr_container.specs.declared.fault.ContainerFault.TheVariants.{C4, C5}
use Rattle.burr_container.specs.Rules.Plans.{Frame}
use Rattle.burr_container.specs.Rules.Spelling.{frame_bytes, label_bytes}
use Rattle.burr_container.specs.Rules.Fitting.{is_frame}
use Rattle.burr_container.specs.Rules.Faults.{Failing, Part, number, frame, passes, first, label as label_at, is_next_label, last_label, are_rising, LabelsFail, labels}
use Rattle.burr_container.proofs.Common.Lawful.{Front, Lawful, OfPart, OfFirst, OfNothing, Sound, first_lawful, lawful_as, passes_lawful}
use Rattle.burr_container.proofs.Common.Fields.{number_sound, of_number}
use Rattle.burr_container.proofs.Common.Frames.{frame_sound}

pub of_label : (is_so : ℕ → Bool) (pieces : ℕ) (l : ℕ × Frame) (bytes r : List ℕ)
    → OfPart (label_at is_so pieces) l bytes r
    → (both : ℕ × Frame) × (both ≡ l)
    × OfFirst (number 2 C5 is_so) (λ position. OfPart (frame pieces)) both bytes r
of_label is_so pieces l bytes r here =
    let a = and_parts (is_so l.0 && nat_lt l.0 (2 ^ 16)) (is_frame pieces l.1) here.0 in
    let b = and_parts (is_so l.0) (nat_lt l.0 (2 ^ 16)) a.0 in
    let small = ltb-true l.0 65536 b.1 in
    let rest = frame_bytes l.1 ++ r in (
      l,
      refl,
      (
        rest,
        of_number 2 C5 is_so l.0 bytes rest (omega (arith, small)) b.0 here.1,
        (a.1, refl),
      ),
    )

pub label_at_sound : (is_so : ℕ → Bool) (pieces : ℕ) → pieces ≤ 32 → Sound (label_at is_so pieces)
label_at_sound is_so pieces few =
    lawful_as (λ (both : ℕ × Frame). both) (OfPart (label_at is_so pieces))
    (OfFirst (number 2 C5 is_so) (λ position. OfPart (frame pieces)))
    (label_at is_so pieces).Fails (label_at is_so pieces).Fails (of_label is_so pieces)
    (λ at bytes fault fails. fails)
    (first_lawful (number 2 C5 is_so) (λ position. OfPart (frame pieces))
    (λ position. (frame pieces).Fails) (number_sound 2 C5 is_so)
    (λ position fits. frame_sound pieces few))

-- a label after this one
abbrev pub label : ℕ → Option ℕ → Part (ℕ × Frame)
label pieces last = label_at (is_next_label last) pieces

pub label_sound : (pieces : ℕ) (last : Option ℕ) → pieces ≤ 32 → Sound (label pieces last)
label_sound pieces last few = label_at_sound (is_next_label last) pieces few

-- Labels from one on

-- the position of the last of these labels, which stand after this one
abbrev pub last_from : Option ℕ → List (ℕ × Frame) → Option ℕ
last_from last [] = last
last_from last (l ∷ ls) = last_from (Some l.0) ls

abbrev pub are_framed : ℕ → List (ℕ × Frame) → Bool
are_framed pieces ls = list_all (λ label. is_frame pieces label.1) ls

abbrev pub LabelsFailFrom : ℕ → Option ℕ → ℕ → Failing
LabelsFailFrom pieces last count at bytes fault =
    (front : List (ℕ × Frame)) × (rest : List ℕ) × (length front < count)
    × IsTrue (are_rising last front && are_framed pieces front)
    × (bytes ≡ flat_map label_bytes front ++ rest)
    × (label pieces (last_from last front)).Fails (at + length (flat_map label_bytes front)) rest
    fault

abbrev pub OfLabels : ℕ → Option ℕ → ℕ → Front (List (ℕ × Frame))
OfLabels pieces last count ls bytes r =
    (length ls ≡ count) × IsTrue (are_rising last ls && are_framed pieces ls)
    × (bytes ≡ flat_map label_bytes ls ++ r)

-- the first of labels fits, and so do the others after it
first_fits : (pieces : ℕ) (last : Option ℕ) (l : ℕ × Frame) (ls : List (ℕ × Frame))
    → IsTrue (are_rising last (l ∷ ls) && are_framed pieces (l ∷ ls))
    → IsTrue ((label pieces last).fits l)
    × IsTrue (are_rising (Some l.0) ls && are_framed pieces ls)
first_fits pieces last l ls fits =
    let a = and_parts (are_rising last (l ∷ ls)) (are_framed pieces (l ∷ ls)) fits in
    let b =
    and_parts (is_next_label last l.0 && nat_lt l.0 (2 ^ 16)) (are_rising (Some l.0) ls) a.0 in
    let c = and_parts (is_frame pieces l.1) (are_framed pieces ls) a.1 in (
      and_from (is_next_label last l.0 && nat_lt l.0 (2 ^ 16)) (is_frame pieces l.1) b.0 c.0,
      and_from (are_rising (Some l.0) ls) (are_framed pieces ls) b.1 c.1,
    )

none_fail : (pieces : ℕ) (last : Option ℕ) (at : ℕ) (bytes : List ℕ) (fault : ContainerFault)
    → LabelsFailFrom pieces last 0 at bytes fault → passes at bytes fault
none_fail pieces last at bytes fault fails = omega (arith, fails.2)

one_more_fail : (pieces : ℕ) (last : Option ℕ) (count at : ℕ) (bytes : List ℕ)
    (fault : ContainerFault) → LabelsFailFrom pieces last (suc count) at bytes fault
    → first (label pieces last) (λ l. LabelsFailFrom pieces (Some l.0) count) at bytes fault
one_more_fail pieces last count at bytes fault ([], rest, size, fits, e, fails) =
    let here : at + 0 ≡ at = omega arith in
    inl (subst (λ (n : ℕ). (label pieces last).Fails n bytes fault) here
    (subst (λ (rest : List ℕ). (label pieces last).Fails (at + 0) rest fault) (sym e) fails))
one_more_fail pieces last count at bytes fault (l ∷ ls, rest, size, fits, e, fails) =
    let both = first_fits pieces last l ls fits in
    let position : at + length (label_bytes l ++ flat_map label_bytes ls) ≡ at + length
    (label_bytes l) + length (flat_map label_bytes ls) =
    omega (arith, length-append (label_bytes l) (flat_map label_bytes ls)) in
    inr (
      l,
      flat_map label_bytes ls ++ rest,
      both.0,
      e ∙ append_assoc (label_bytes l) (flat_map label_bytes ls) rest,
      (
        ls,
        rest,
        omega (arith, size),
        both.1,
        refl,
        subst
            (λ (n : ℕ). (label pieces (last_from (Some l.0) ls)).Fails n rest fault) position fails,
      ),
    )

none_made : (pieces : ℕ) (last : Option ℕ) (ls : List (ℕ × Frame)) (bytes r : List ℕ)
    → OfLabels pieces last 0 ls bytes r → (u : Unit {0}) × ([] ≡ ls) × OfNothing u bytes r
none_made pieces last [] bytes r here = (tt, refl, here.2)
none_made pieces last (l ∷ ls) bytes r here = absurd (omega (arith, here.0))

one_more_made : (pieces : ℕ) (last : Option ℕ) (count : ℕ) (ls : List (ℕ × Frame))
    (bytes r : List ℕ) → OfLabels pieces last (suc count) ls bytes r
    → (both : (ℕ × Frame) × List (ℕ × Frame)) × (both.0 ∷ both.1 ≡ ls)
    × OfFirst (label pieces last) (λ l. OfLabels pieces (Some l.0) count) both bytes r
one_more_made pieces last count [] bytes r here = absurd (omega (arith, here.0))
one_more_made pieces last count (l ∷ ls) bytes r here =
    let both = first_fits pieces last l ls here.1 in (
      (l, ls),
      refl,
      (
        flat_map label_bytes ls ++ r,
        (both.0, here.2 ∙ append_assoc (label_bytes l) (flat_map label_bytes ls) r),
        (omega (arith, here.0), both.1, refl),
      ),
    )

pub labels_from_lawful : (pieces : ℕ) → pieces ≤ 32 → (last : Option ℕ) (count : ℕ)
    → Lawful (OfLabels pieces last count) (LabelsFailFrom pieces last count)
labels_from_lawful pieces few last zero =
    lawful_as (λ (u : Unit {0}). []) (OfLabels pieces last 0) OfNothing
    (LabelsFailFrom pieces last 0) passes (none_made pieces last) (none_fail pieces last)
    passes_lawful
labels_from_lawful pieces few last (suc count) =
    lawful_as (λ (both : (ℕ × Frame) × List (ℕ × Frame)). both.0 ∷ both.1)
    (OfLabels pieces last (suc count))
    (OfFirst (label pieces last) (λ l. OfLabels pieces (Some l.0) count))
    (LabelsFailFrom pieces last (suc count))
    (first (label pieces last) (λ l. LabelsFailFrom pieces (Some l.0) count))
    (one_more_made pieces last count) (one_more_fail pieces last count)
    (first_lawful (label pieces last) (λ l. OfLabels pieces (Some l.0) count)
    (λ l. LabelsFailFrom pieces (Some l.0) count) (label_sound pieces last few)
    (λ l fits. labels_from_lawful pieces few (Some l.0) count))

-- All labels

last_of_more : (l : ℕ × Frame) (ls : List (ℕ × Frame))
    → last_label (l ∷ ls) ≡ last_from (Some l.0) ls
last_of_more l [] = refl
last_of_more l (next ∷ ls) = last_of_more next ls

pub last_of_all : (ls : List (ℕ × Frame)) → last_label ls ≡ last_from None ls
last_of_all [] = refl
last_of_all (l ∷ ls) = last_of_more l ls

labels_fail : (pieces count at : ℕ) (bytes : List ℕ) (fault : ContainerFault)
    → LabelsFail pieces count at bytes fault → LabelsFailFrom pieces None count at bytes fault
labels_fail pieces count at bytes fault (front, rest, size, fits, e, fails) = (
  front,
  rest,
  size,
  fits,
  e,
  subst
      (λ (last : Option ℕ). (label pieces last).Fails (at + length (flat_map label_bytes front))
      rest fault) (last_of_all front) fails,
)

abbrev pub is_label_count : ℕ → Bool
is_label_count count = nat_le 1 count && nat_le count MOST_LABELS

abbrev pub OfAllLabels : ℕ → Front (ℕ × List (ℕ × Frame))
OfAllLabels pieces = OfFirst (number 2 C4 is_label_count) (λ count. OfLabels pieces None count)

of_labels : (pieces : ℕ) (ls : List (ℕ × Frame)) (bytes r : List ℕ)
    → OfPart (labels pieces) ls bytes r
    → (both : ℕ × List (ℕ × Frame)) × (both.1 ≡ ls) × OfAllLabels pieces both bytes r
of_labels pieces ls bytes r here =
    let a =
    and_parts (is_label_count (length ls) && are_rising None ls) (are_framed pieces ls)
    here.0 in
    let b = and_parts (is_label_count (length ls)) (are_rising None ls) a.0 in
    let c = and_parts (nat_le 1 (length ls)) (nat_le (length ls) MOST_LABELS) b.0 in
    let few = leb-true (length ls) MOST_LABELS c.1 in
    let rest = flat_map label_bytes ls ++ r in (
      (length ls, ls),
      refl,
      (
        rest,
        of_number 2 C4 is_label_count (length ls) bytes rest (omega (arith, few)) b.0
            here.1,
        (refl, and_from (are_rising None ls) (are_framed pieces ls) b.1 a.1, refl),
      ),
    )

pub labels_sound : (pieces : ℕ) → pieces ≤ 32 → Sound (labels pieces)
labels_sound pieces few =
    lawful_as (λ (both : ℕ × List (ℕ × Frame)). both.1) (OfPart (labels pieces))
    (OfAllLabels pieces) (labels pieces).Fails (labels pieces).Fails (of_labels pieces)
    (λ at bytes fault fails. fails)
    (first_lawful (number 2 C4 is_label_count) (λ count. OfLabels pieces None count)
    (λ count. LabelsFail pieces count) (number_sound 2 C4 is_label_count)
    (λ count fits.
    lawful_as (λ (ls : List (ℕ × Frame)). ls) (OfLabels pieces None count)
    (OfLabels pieces None count) (LabelsFail pieces count) (LabelsFailFrom pieces None count)
    (λ ls bytes r here. (ls, refl, here)) (labels_fail pieces count)
    (labels_from_lawful pieces few None count)))
