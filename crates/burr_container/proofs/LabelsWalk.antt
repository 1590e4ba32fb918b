-- Reading labels, one after the other.
use Rattle.std.proofs.Common.{◌≡◌, ℕ, zero, suc, ◌+◌, ◌-◌, ◌*◌, ◌<◌, ◌≤◌, ◌^◌, ◌&&◌, Bool, true, nat_lt, Option, Some, None, List, [], ◌∷◌, ◌++◌, length, inl, refl, sym, ap, ◌∙◌, subst, arith, append_assoc, append-nil, length-append}
use Rattle.std.specs.Prelude.{slice_get, drop}
use Rattle.std.proofs.Math.Seq.{drop-append_seam}
use Rattle.std.proofs.lemmas.Bool.{and_parts, and_from}
use Rattle.std.proofs.lemmas.List.{map-append}
use Rattle.std.proofs.lemmas.Option.{none-some, same_Some}
use Rattle.burr_container.specs.declared.fault.ContainerFault.{ContainerFault}
use Rattle.burr_container.specs.declared.fault.ContainerFault.TheVariants.{C4}
use Rattle.burr_container.specs.declared.reading.cursor.Cursor.{Cursor}
use Rattle.burr_container.specs.Rules.Plans.{Frame}
use Rattle.burr_container.specs.Rules.Fitting.{is_frame}
use Rattle.burr_container.specs.Rules.Spelling.{label_bytes}
use Rattle.burr_container.specs.Rules.Faults.{number, label, labels, is_next_label, last_label, LabelsFail}
use Rattle.burr_container.specs.Views.Reading.{IsAt}
use Rattle.burr_container.specs.Views.Cuts.{IsCut}
use Rattle.burr_container.specs.Views.InPlace.{AreFor, IsLabel}
use Rattle.burr_container.specs.Views.Readable.{starts_at}
use Rattle.burr_container.proofs.Common.LabelLists.{LabelsFailFrom, OfLabels, last_from, last_of_all, is_label_count}
use Rattle.burr_container.proofs.Common.Judging.LabelLists.{one_more, one_more_fails, labels_back, labels_fail_back}
use Rattle.burr_container.proofs.Sizes.{label_takes}
use Rattle.burr_container.proofs.Chains.{IsAfter, small_of, after_part, stands_at, then_fails, then_stands}

-- the first i of n stand there, after each other, and the others are to be read
pub record IsLabelsWalk (pieces n : ℕ) (begin : Cursor) (i : ℕ) (starts : List (List ℕ))
    (last : Option ℕ) (cursor : Cursor) : Type 0 where
  pub fails : (fault : ContainerFault)
      → LabelsFailFrom pieces last (n - i) cursor.at cursor.rest.now fault
      → LabelsFailFrom pieces None n begin.at begin.rest.now fault
  pub stands : (more : List (ℕ × Frame)) (others : List (List ℕ)) (r : List ℕ)
      → OfLabels pieces last (n - i) more cursor.rest.now r
      → AreFor (IsLabel pieces) others more
      → (whole : List (ℕ × Frame)) × OfLabels pieces None n whole begin.rest.now r
      × AreFor (IsLabel pieces) (starts ++ others) whole
      × (last_from None whole ≡ last_from last more)
  pub after : IsAfter begin cursor
  pub size : length starts ≡ i

-- a label that stands there is one at the begin of the bytes from there on
label_begins : (is_so : ℕ → Bool) (pieces : ℕ) (cursor next : Cursor) (l : ℕ × Frame)
    → IsAt (label is_so pieces) cursor l next → IsLabel pieces cursor.rest.now l
label_begins is_so pieces cursor next l here =
    let a = and_parts (is_so l.0 && nat_lt l.0 (2 ^ 16)) (is_frame pieces l.1) here.fits in
    let b = and_parts (is_so l.0) (nat_lt l.0 (2 ^ 16)) a.0 in
    record {
      rest = next.rest.now;
      fits = and_from (true && nat_lt l.0 (2 ^ 16)) (is_frame pieces l.1)
          (and_from true (nat_lt l.0 (2 ^ 16)) refl b.1) a.1;
      parts = here.cut.parts;
    }

module _ (pieces n : ℕ) (begin : Cursor) where
  pub labels_begin : IsLabelsWalk pieces n begin 0 [] None begin
  labels_begin =
      let all : n - 0 ≡ n = omega arith in
      record {
        fails = λ fault fails.
            subst (λ (k : ℕ). LabelsFailFrom pieces None k begin.at begin.rest.now fault) all fails;
        stands = λ more others r here are. (
          more,
          subst (λ (k : ℕ). OfLabels pieces None k more begin.rest.now r) all here,
          are,
          refl,
        );
        after = refl;
        size = refl;
      }

  module _ (i : ℕ) (starts : List (List ℕ)) (last : Option ℕ) (cursor : Cursor)
      (small : i < n) (walk : IsLabelsWalk pieces n begin i starts last cursor) where
    pub labels_go_on : (l : ℕ × Frame) (position : ℕ) (next : Cursor) → position ≡ l.0
        → IsAt (label (is_next_label last) pieces) cursor l next
        → IsLabelsWalk pieces n begin (i + 1) (starts ++ cursor.rest.now ∷ []) (Some position) next
    labels_go_on l position next e here =
        let left = n - (i + 1) in
        let size : suc left ≡ n - i = omega (arith, small) in
        let this = label (is_next_label last) pieces in
        record {
          fails = λ fault fails. walk.fails fault
              (subst (λ (k : ℕ). LabelsFailFrom pieces last k cursor.at cursor.rest.now fault) size
              (one_more_fails pieces last left cursor.at cursor.rest.now fault
              (then_fails this cursor next l (λ l. LabelsFailFrom pieces (Some l.0) left) fault here
              (subst
              (λ (k : ℕ). LabelsFailFrom pieces (Some k) left next.at next.rest.now fault) e
              fails))));
          stands = λ more others r stand are.
              let after =
              subst (λ (k : ℕ). OfLabels pieces (Some k) left more next.rest.now r) e stand in
              let all =
              walk.stands (l ∷ more) (cursor.rest.now ∷ others) r
              (subst (λ (k : ℕ). OfLabels pieces last k (l ∷ more) cursor.rest.now r) size
              (one_more pieces last left (l, more) cursor.rest.now r
              (small_of cursor.rest.now cursor.bytes)
              (then_stands this cursor next l (λ l. OfLabels pieces (Some l.0) left) more r here
              after)))
              (label_begins (is_next_label last) pieces cursor next l here, are) in (
                all.0,
                all.1,
                subst (λ (s : List (List ℕ)). AreFor (IsLabel pieces) s all.0)
                    (sym (append_assoc starts (cursor.rest.now ∷ []) others)) all.2,
                all.3 ∙ ap (λ (k : ℕ). last_from (Some k) more) (sym e),
              );
          after = after_part this cursor next l here ∙ walk.after;
          size = let more = length-append starts (cursor.rest.now ∷ []) in
              omega (arith, more, walk.size);
        }

    pub labels_fail_on : (fault : ContainerFault)
        → (label (is_next_label last) pieces).Fails cursor.at cursor.rest.now fault
        → LabelsFailFrom pieces None n begin.at begin.rest.now fault
    labels_fail_on fault fails =
        let left = n - (i + 1) in
        let size : suc left ≡ n - i = omega (arith, small) in
        walk.fails fault
        (subst (λ (k : ℕ). LabelsFailFrom pieces last k cursor.at cursor.rest.now fault) size
        (one_more_fails pieces last left cursor.at cursor.rest.now fault (inl fails)))

  pub labels_end : (i : ℕ) (starts : List (List ℕ)) (last : Option ℕ) (cursor : Cursor)
      → n ≤ i → IsLabelsWalk pieces n begin i starts last cursor
      → (whole : List (ℕ × Frame)) × OfLabels pieces None n whole begin.rest.now cursor.rest.now
      × AreFor (IsLabel pieces) starts whole × (last ≡ last_label whole)
  labels_end i starts last cursor all walk =
      let none : 0 ≡ n - i = omega (arith, all) in
      let end =
      walk.stands [] [] cursor.rest.now
      (subst (λ (k : ℕ). OfLabels pieces last k [] cursor.rest.now cursor.rest.now) none
      (refl, refl, refl)) tt in (
        end.0,
        end.1,
        subst (λ (s : List (List ℕ)). AreFor (IsLabel pieces) s end.0) (append-nil starts)
            end.2,
        sym end.3 ∙ sym (last_of_all end.0),
      )

-- how far reading has come: over no more bytes than `i` labels may take
pub record HasCome (begin : Cursor) (i : ℕ) (cursor : Cursor) : Type 0 where
  pub front : List ℕ
  pub cut : IsCut begin.at begin.rest.now front cursor.at cursor.rest.now
  pub short : length front ≤ i * 2254

pub came_on : (is_so : ℕ → Bool) (pieces : ℕ) → pieces ≤ 32 → (begin : Cursor) (i : ℕ) (cursor next : Cursor)
    (l : ℕ × Frame) → HasCome begin i cursor → IsAt (label is_so pieces) cursor l next
    → HasCome begin (i + 1) next
came_on is_so pieces few begin i cursor next l came here =
    let size = length-append came.front (label_bytes l) in
    let takes = label_takes is_so pieces few l here.fits in
    record {
      front = came.front ++ label_bytes l;
      cut = record {
        parts = came.cut.parts ∙ ap (λ (b : List ℕ). came.front ++ b) here.cut.parts
            ∙ sym (append_assoc came.front (label_bytes l) next.rest.now);
        moved = omega (arith, came.cut.moved, here.cut.moved, size);
      };
      short = omega (arith, came.short, size, takes);
    }

-- where it has come to
pub came_to : (begin : Cursor) (i : ℕ) (cursor : Cursor) → HasCome begin i cursor
    → (drop (cursor.at - begin.at) begin.rest.now ≡ cursor.rest.now)
    × (begin.at ≤ cursor.at) × (cursor.at - begin.at ≤ length begin.rest.now)
    × (cursor.at - begin.at ≤ i * 2254)
came_to begin i cursor came =
    let far : cursor.at - begin.at ≡ length came.front = omega (arith, came.cut.moved) in
    let all = ap (λ (b : List ℕ). length b) came.cut.parts ∙ length-append came.front cursor.rest.now in (
      ap (λ (n : ℕ). drop n begin.rest.now) far ∙ ap (λ (b : List ℕ). drop (length came.front) b) came.cut.parts
          ∙ drop-append_seam came.front cursor.rest.now,
      omega (arith, came.cut.moved),
      omega (arith, far, all),
      omega (arith, far, came.short),
    )

-- one label more, which begins at the cursor
pub starts_more : (begin : Cursor) (i : ℕ) (cursor : Cursor) (begins : List ℕ) → HasCome begin i cursor
    → starts_at begin.rest.now (begins ++ (cursor.at - begin.at) ∷ [])
    ≡ starts_at begin.rest.now begins ++ cursor.rest.now ∷ []
starts_more begin i cursor begins came =
    map-append (λ (n : ℕ). drop n begin.rest.now) begins ((cursor.at - begin.at) ∷ [])
    ∙ ap (λ (b : List ℕ). starts_at begin.rest.now begins ++ b ∷ []) (came_to begin i cursor came).0

-- each is within the bytes
abbrev pub AreWithin : List ℕ → List ℕ → Type 0
AreWithin bytes begins =
    (n begin : ℕ) → slice_get begins n ≡ Some begin → begin ≤ length bytes

pub within_more : (bytes begins : List ℕ) (last : ℕ) → AreWithin bytes begins → last ≤ length bytes
    → AreWithin bytes (begins ++ last ∷ [])
within_more bytes [] last within small zero position e = subst (λ (n : ℕ). n ≤ length bytes) (same_Some _ _ e) small
within_more bytes [] last within small (suc n) position e = absurd (none-some _ e)
within_more bytes (p ∷ begins) last within small zero position e = within 0 position e
within_more bytes (p ∷ begins) last within small (suc n) position e =
    within_more bytes begins last (λ n. within (suc n)) small n position e

-- labels after their count
pub labels_at : (pieces count : ℕ) (cursor after_count next : Cursor) (ls : List (ℕ × Frame))
    → IsAt (number 2 C4 is_label_count) cursor count after_count
    → OfLabels pieces None count ls after_count.rest.now next.rest.now
    → IsAfter after_count next → IsAt (labels pieces) cursor ls next
labels_at pieces count cursor after_count next ls head here after =
    let counted = number 2 C4 is_label_count in
    stands_at (labels pieces) cursor next ls
    (labels_back pieces (count, ls) cursor.rest.now next.rest.now
    (small_of cursor.rest.now cursor.bytes)
    (then_stands counted cursor after_count count (λ count. OfLabels pieces None count) ls
    next.rest.now head here))
    (after ∙ after_part counted cursor after_count count head)

pub labels_fail_at : (pieces count : ℕ) (cursor after_count : Cursor) (fault : ContainerFault)
    → IsAt (number 2 C4 is_label_count) cursor count after_count
    → LabelsFailFrom pieces None count after_count.at after_count.rest.now fault
    → (labels pieces).Fails cursor.at cursor.rest.now fault
labels_fail_at pieces count cursor after_count fault head fails =
    then_fails (number 2 C4 is_label_count) cursor after_count count
    (λ count. LabelsFail pieces count) fault head
    (labels_fail_back pieces count after_count.at after_count.rest.now fault fails)
