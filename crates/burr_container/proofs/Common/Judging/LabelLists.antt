-- For crates above: bytes have labels at their front, or fail to.
use Rattle.std.proofs.Common.{◌≡◌, ℕ, zero, suc, ◌+◌, ◌^◌, ◌&&◌, ◌==◌, Bool, IsTrue, nat_lt, nat_le, Option, Some, None, List, [], ◌∷◌, ◌++◌, length, flat_map, inl, inr, refl, sym, ap, ◌∙◌, subst, arith, append_assoc, length-append, ltb-true, lt-ltb, le-leb}
use Rattle.std.proofs.lemmas.Bool.{and_parts, and_from, false≢true}
use Rattle.byteorder.specs.Endian.{big_bytes}
use Rattle.burr_code.specs.declared.limits.TheConstants.{MOST_LABELS}
use Rattle.burr_container.specs.declared.fault.ContainerFault.{ContainerFault}
use Rattle.burr_container.specs.declared.fault.ContainerFault.TheVariants.{C4, C5}
use Rattle.burr_container.specs.Rules.Plans.{Frame}
use Rattle.burr_container.specs.Rules.Spelling.{label_bytes}
use Rattle.burr_container.specs.Rules.Fitting.{is_frame, rise_from, are_labels}
use Rattle.burr_container.specs.Rules.Faults.{number, frame, passes, first, label as label_at, is_next_label, last_label, are_rising, is_above, LabelsFail, labels}
use Rattle.burr_container.proofs.Common.Fields.{number_so}
use Rattle.burr_container.proofs.Common.Lawful.{OfPart, OfFirst, OfNothing}
use Rattle.burr_container.proofs.Common.LabelLists.{label, are_framed, LabelsFailFrom, OfLabels, last_from, last_of_all, is_label_count, OfAllLabels}
use Rattle.burr_container.proofs.Common.Judging.Fronts.{AreSmall, Judged, JudgedPart, first_judged, judged_as, passes_judged}
use Rattle.burr_container.proofs.Common.Judging.Fields.{number_judged, digits_2}
use Rattle.burr_container.proofs.Common.Judging.Frames.{frame_judged}

pub label_back : (is_so : ℕ → Bool) (pieces : ℕ) (l : ℕ × Frame) (bytes r : List ℕ)
    → AreSmall bytes → OfFirst (number 2 C5 is_so) (λ position. OfPart (frame pieces)) l bytes r
    → OfPart (label_at is_so pieces) l bytes r
label_back is_so pieces l bytes r small here =
    let position = and_parts (nat_lt l.0 (256 ^ 2)) (is_so l.0) here.1.0 in (
      and_from (is_so l.0 && nat_lt l.0 (2 ^ 16)) (is_frame pieces l.1)
          (and_from (is_so l.0) (nat_lt l.0 (2 ^ 16)) position.1 position.0) here.2.0,
      here.1.1 ∙ ap (λ (rest : List ℕ). big_bytes 2 l.0 ++ rest) here.2.1,
    )

pub label_judged : (pieces : ℕ) (last : Option ℕ) → JudgedPart (label pieces last)
label_judged pieces last =
    judged_as (λ (both : ℕ × Frame). both) (OfPart (label pieces last))
    (OfFirst (number 2 C5 (is_next_label last)) (λ position. OfPart (frame pieces)))
    (label pieces last).Fails (label pieces last).Fails (label_back (is_next_label last) pieces)
    (λ at bytes fault fails. fails)
    (first_judged (number 2 C5 (is_next_label last)) (λ position. OfPart (frame pieces))
    (λ position. (frame pieces).Fails) (number_judged 2 C5 (is_next_label last) digits_2)
    (λ position fits. frame_judged pieces))

-- a label that fits, and others that fit after it
more_fit : (pieces : ℕ) (last : Option ℕ) (l : ℕ × Frame) (ls : List (ℕ × Frame))
    → IsTrue ((label pieces last).fits l)
    → IsTrue (are_rising (Some l.0) ls && are_framed pieces ls)
    → IsTrue (are_rising last (l ∷ ls) && are_framed pieces (l ∷ ls))
more_fit pieces last l ls fits are =
    let a = and_parts (is_next_label last l.0 && nat_lt l.0 (2 ^ 16)) (is_frame pieces l.1) fits in
    let b = and_parts (are_rising (Some l.0) ls) (are_framed pieces ls) are in
    and_from (are_rising last (l ∷ ls)) (are_framed pieces (l ∷ ls))
    (and_from (is_next_label last l.0 && nat_lt l.0 (2 ^ 16)) (are_rising (Some l.0) ls) a.0
    b.0)
    (and_from (is_frame pieces l.1) (are_framed pieces ls) a.1 b.1)

pub one_more_fails : (pieces : ℕ) (last : Option ℕ) (count at : ℕ) (bytes : List ℕ)
    (fault : ContainerFault)
    → first (label pieces last) (λ l. LabelsFailFrom pieces (Some l.0) count) at bytes fault
    → LabelsFailFrom pieces last (suc count) at bytes fault
one_more_fails pieces last count at bytes fault (inl fails) =
    let here : at ≡ at + 0 = omega arith in (
      [],
      bytes,
      omega arith,
      refl,
      refl,
      subst (λ (n : ℕ). (label pieces last).Fails n bytes fault)
          here fails,
    )
one_more_fails pieces last count at bytes fault
    (inr (l, rest, fits, e, (ls, more, size, fit, e', fails))) =
    let position : at + length (label_bytes l) + length (flat_map label_bytes ls) ≡ at + length
    (label_bytes l ++ flat_map label_bytes ls) =
    omega (arith, length-append (label_bytes l) (flat_map label_bytes ls)) in (
      l ∷ ls,
      more,
      omega (arith, size),
      more_fit pieces last l ls fits fit,
      e ∙ ap (λ (rest : List ℕ). label_bytes l ++ rest) e'
          ∙ sym (append_assoc (label_bytes l) (flat_map label_bytes ls) more),
      subst (λ (n : ℕ). (label pieces (last_from (Some l.0) ls)).Fails n more fault) position fails,
    )

pub one_more : (pieces : ℕ) (last : Option ℕ) (count : ℕ) (both : (ℕ × Frame) × List (ℕ × Frame))
    (bytes r : List ℕ) → AreSmall bytes
    → OfFirst (label pieces last) (λ l. OfLabels pieces (Some l.0) count) both bytes r
    → OfLabels pieces last (suc count) (both.0 ∷ both.1) bytes r
one_more pieces last count both bytes r small here = (
  omega (arith, here.2.0),
  more_fit pieces last both.0 both.1 here.1.0 here.2.1,
  here.1.1 ∙ ap (λ (rest : List ℕ). label_bytes both.0 ++ rest) here.2.2
      ∙ sym (append_assoc (label_bytes both.0) (flat_map label_bytes both.1) r),
)

labels_from_judged : (pieces : ℕ) (last : Option ℕ) (count : ℕ)
    → Judged (OfLabels pieces last count) (LabelsFailFrom pieces last count)
labels_from_judged pieces last zero =
    judged_as (λ (u : Unit {0}). []) (OfLabels pieces last 0) OfNothing
    (LabelsFailFrom pieces last 0) passes (λ u bytes r small here. (refl, refl, here))
    (λ at bytes fault fails. absurd fails) passes_judged
labels_from_judged pieces last (suc count) =
    judged_as (λ (both : (ℕ × Frame) × List (ℕ × Frame)). both.0 ∷ both.1)
    (OfLabels pieces last (suc count))
    (OfFirst (label pieces last) (λ l. OfLabels pieces (Some l.0) count))
    (LabelsFailFrom pieces last (suc count))
    (first (label pieces last) (λ l. LabelsFailFrom pieces (Some l.0) count))
    (one_more pieces last count) (one_more_fails pieces last count)
    (first_judged (label pieces last) (λ l. OfLabels pieces (Some l.0) count)
    (λ l. LabelsFailFrom pieces (Some l.0) count) (label_judged pieces last)
    (λ l fits. labels_from_judged pieces (Some l.0) count))

pub labels_fail_back : (pieces count at : ℕ) (bytes : List ℕ) (fault : ContainerFault)
    → LabelsFailFrom pieces None count at bytes fault → LabelsFail pieces count at bytes fault
labels_fail_back pieces count at bytes fault (front, rest, size, fits, e, fails) = (
  front,
  rest,
  size,
  fits,
  e,
  subst
      (λ (last : Option ℕ). (label pieces last).Fails (at + length (flat_map label_bytes front))
      rest fault) (sym (last_of_all front)) fails,
)

pub labels_back : (pieces : ℕ) (both : ℕ × List (ℕ × Frame)) (bytes r : List ℕ) → AreSmall bytes
    → OfAllLabels pieces both bytes r → OfPart (labels pieces) both.1 bytes r
labels_back pieces both bytes r small here =
    let ls = both.1 in
    let count =
    subst (λ n. IsTrue (is_label_count n)) (sym here.2.0)
    (number_so 2 C4 is_label_count both.0 bytes here.0 here.1) in
    let parts = and_parts (are_rising None ls) (are_framed pieces ls) here.2.1 in (
      and_from (is_label_count (length ls) && are_rising None ls) (are_framed pieces ls)
          (and_from (is_label_count (length ls)) (are_rising None ls) count parts.0) parts.1,
      here.1.1 ∙ ap (λ n. big_bytes 2 n ++ here.0) (sym here.2.0)
          ∙ ap (λ (rest : List ℕ). big_bytes 2 (length ls) ++ rest) here.2.2,
    )

pub labels_judged : (pieces : ℕ) → JudgedPart (labels pieces)
labels_judged pieces =
    judged_as (λ (both : ℕ × List (ℕ × Frame)). both.1) (OfPart (labels pieces))
    (OfAllLabels pieces) (labels pieces).Fails (labels pieces).Fails (labels_back pieces)
    (λ at bytes fault fails. fails)
    (first_judged (number 2 C4 is_label_count) (λ count. OfLabels pieces None count)
    (λ count. LabelsFail pieces count) (number_judged 2 C4 is_label_count digits_2)
    (λ count fits.
    judged_as (λ (ls : List (ℕ × Frame)). ls) (OfLabels pieces None count)
    (OfLabels pieces None count) (LabelsFail pieces count) (LabelsFailFrom pieces None count)
    (λ ls bytes r small here. here) (labels_fail_back pieces count)
    (labels_from_judged pieces None count)))

-- Labels of a code

rise_back : (end : ℕ) (l : ℕ × Frame) (ls : List (ℕ × Frame)) → IsTrue (are_rising (Some l.0) ls)
    → IsTrue (is_above (last_label (l ∷ ls)) end)
    → IsTrue (nat_lt l.0 end) × IsTrue (rise_from (suc l.0) end ls)
rise_back end l [] rising above = (above, refl)
rise_back end l (next ∷ ls) rising above =
    let a =
    and_parts (nat_lt l.0 next.0 && nat_lt next.0 (2 ^ 16)) (are_rising (Some next.0) ls)
    rising in
    let b = and_parts (nat_lt l.0 next.0) (nat_lt next.0 (2 ^ 16)) a.0 in
    let more = rise_back end next ls a.1 above in
    let low = ltb-true l.0 next.0 b.0 in
    let high = ltb-true next.0 end more.0 in (
      lt-ltb l.0 end (omega (arith, low, high)),
      and_from (nat_le (suc l.0) next.0 && nat_lt next.0 end) (rise_from (suc next.0) end ls)
          (and_from (nat_le (suc l.0) next.0) (nat_lt next.0 end)
          (le-leb (suc l.0) next.0 (omega (arith, low))) more.0) more.1,
    )

-- labels are those of a code whose end is above them
pub labels_of_code : (pieces end : ℕ) (ls : List (ℕ × Frame))
    → IsTrue (is_label_count (length ls) && are_rising None ls && are_framed pieces ls)
    → IsTrue (is_above (last_label ls) end)
    → IsTrue (are_labels pieces end ls)
labels_of_code pieces end [] fits above = absurd (false≢true fits)
labels_of_code pieces end (l ∷ ls) fits above =
    let a =
    and_parts (is_label_count (length (l ∷ ls)) && are_rising None (l ∷ ls))
    (are_framed pieces (l ∷ ls)) fits in
    let b = and_parts (is_label_count (length (l ∷ ls))) (are_rising None (l ∷ ls)) a.0 in
    let few =
    (and_parts (nat_le 1 (length (l ∷ ls))) (nat_le (length (l ∷ ls)) MOST_LABELS) b.0).1 in
    let c = and_parts ((l.0 == 0) && nat_lt l.0 (2 ^ 16)) (are_rising (Some l.0) ls) b.1 in
    let zero_first = (and_parts (l.0 == 0) (nat_lt l.0 (2 ^ 16)) c.0).0 in
    let rise = rise_back end l ls c.1 above in
    let from_zero =
    and_from (nat_le 0 l.0 && nat_lt l.0 end) (rise_from (suc l.0) end ls)
    (and_from (nat_le 0 l.0) (nat_lt l.0 end) (le-leb 0 l.0 (omega arith)) rise.0) rise.1 in
    and_from ((l.0 == 0) && rise_from 0 end (l ∷ ls) && nat_le (length (l ∷ ls)) MOST_LABELS)
    (are_framed pieces (l ∷ ls))
    (and_from ((l.0 == 0) && rise_from 0 end (l ∷ ls)) (nat_le (length (l ∷ ls)) MOST_LABELS)
    (and_from (l.0 == 0) (rise_from 0 end (l ∷ ls)) zero_first from_zero) few) a.1
