-- For crates above: positions of labels that rise below an end, judged one after the other.
use Rattle.std.proofs.Common.{ℕ, suc, ◌^◌, ◌≤◌, ◌&&◌, ◌==◌, true, IsTrue, nat_lt, nat_le, Some, None, List, [], ◌∷◌, length, refl, arith, ltb-true, lt-ltb, leb-true, le-leb}
use Rattle.std.proofs.lemmas.Bool.{and_parts, and_from, false≢true}
use Rattle.burr_code.specs.declared.limits.TheConstants.{MOST_LABELS}
use Rattle.burr_container.specs.Rules.Plans.{Frame}
use Rattle.burr_container.specs.Rules.Fitting.{rise_from, are_labels}
use Rattle.burr_container.specs.Rules.Faults.{last_label, are_rising, is_above}
use Rattle.burr_container.proofs.Common.LabelLists.{is_label_count, are_framed}

rising_from : (last end : ℕ) (ls : List (ℕ × Frame)) → end ≤ 65536
    → IsTrue (rise_from (suc last) end ls) → IsTrue (are_rising (Some last) ls)
rising_from last end [] small rise = refl
rising_from last end (l ∷ ls) small rise =
    let a = and_parts (nat_le (suc last) l.0 && nat_lt l.0 end) (rise_from (suc l.0) end ls) rise in
    let b = and_parts (nat_le (suc last) l.0) (nat_lt l.0 end) a.0 in
    let low = leb-true (suc last) l.0 b.0 in
    let high = ltb-true l.0 end b.1 in
    and_from (nat_lt last l.0 && nat_lt l.0 (2 ^ 16)) (are_rising (Some l.0) ls)
    (and_from (nat_lt last l.0) (nat_lt l.0 (2 ^ 16)) (lt-ltb last l.0 (omega (arith, low)))
    (lt-ltb l.0 65536 (omega (arith, high, small)))) (rising_from l.0 end ls small a.1)

-- the end is above the last
above_last : (least end : ℕ) (l : ℕ × Frame) (ls : List (ℕ × Frame))
    → IsTrue (rise_from least end (l ∷ ls)) → IsTrue (is_above (last_label (l ∷ ls)) end)
above_last least end l [] rise =
    (and_parts (nat_le least l.0) (nat_lt l.0 end)
    (and_parts (nat_le least l.0 && nat_lt l.0 end) true rise).0).1
above_last least end l (next ∷ ls) rise =
    above_last (suc l.0) end next ls
    (and_parts (nat_le least l.0 && nat_lt l.0 end) (rise_from (suc l.0) end (next ∷ ls))
    rise).1

-- labels of a code are labels, and its end is above them
pub labels_are_rising : (pieces end : ℕ) (ls : List (ℕ × Frame)) → end ≤ 4096
    → IsTrue (are_labels pieces end ls)
    → IsTrue (is_label_count (length ls) && are_rising None ls && are_framed pieces ls)
    × IsTrue (is_above (last_label ls) end)
labels_are_rising pieces end [] small are = absurd (false≢true are)
labels_are_rising pieces end (l ∷ ls) small are =
    let a =
    and_parts ((l.0 == 0) && rise_from 0 end (l ∷ ls) && nat_le (length (l ∷ ls)) MOST_LABELS)
    (are_framed pieces (l ∷ ls)) are in
    let b =
    and_parts ((l.0 == 0) && rise_from 0 end (l ∷ ls)) (nat_le (length (l ∷ ls)) MOST_LABELS)
    a.0 in
    let c = and_parts (l.0 == 0) (rise_from 0 end (l ∷ ls)) b.0 in
    let d = and_parts (nat_le 0 l.0 && nat_lt l.0 end) (rise_from (suc l.0) end ls) c.1 in
    let e = and_parts (nat_le 0 l.0) (nat_lt l.0 end) d.0 in
    let high = ltb-true l.0 end e.1 in
    let count =
    and_from (nat_le 1 (length (l ∷ ls))) (nat_le (length (l ∷ ls)) MOST_LABELS)
    (le-leb 1 (length (l ∷ ls)) (omega arith)) b.1 in
    let first =
    and_from (l.0 == 0) (nat_lt l.0 (2 ^ 16)) c.0
    (lt-ltb l.0 65536 (omega (arith, high, small))) in
    let rising =
    and_from ((l.0 == 0) && nat_lt l.0 (2 ^ 16)) (are_rising (Some l.0) ls) first
    (rising_from l.0 end ls (omega (arith, small)) d.1) in (
      and_from (is_label_count (length (l ∷ ls)) && are_rising None (l ∷ ls))
          (are_framed pieces (l ∷ ls))
          (and_from (is_label_count (length (l ∷ ls))) (are_rising None (l ∷ ls)) count rising)
          a.1,
      above_last 0 end l ls c.1,
    )
