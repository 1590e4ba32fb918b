-- Reading the parts of the header and of a procedure.
use Rattle.std.proofs.Common.{◌≡◌, ℕ, ◌+◌, ◌^◌, ◌&&◌, Bool, IsTrue, nat_lt, nat_le, Option, Some, None, List, ◌++◌, length, codes, take, inl, inr, refl, sym, ap, ◌∙◌, subst, arith, length-append, lt-ltb, leb-true}
use Rattle.std.proofs.Math.Seq.{take-append_seam}
use Rattle.std.proofs.lemmas.Bool.{and_parts, and_from}
use Rattle.std.proofs.lemmas.Slice.Eq.{bytes_eq-Decides}
use Rattle.byteorder.specs.Endian.{big_bytes}
use Rattle.burr_code.specs.declared.limits.TheConstants.{MOST_CODE}
use Rattle.burr_container.specs.declared.fault.ContainerFault.{ContainerFault}
use Rattle.burr_container.specs.declared.fault.ContainerFault.TheVariants.{C2, C4, C5}
use Rattle.burr_container.specs.declared.reading.cursor.Cursor.{Cursor}
use Rattle.burr_container.specs.Views.Cuts.{AreBytes, IsCut}
use Rattle.burr_container.specs.Rules.Plans.{Frame}
use Rattle.burr_container.specs.Rules.Fitting.{is_code}
use Rattle.burr_container.specs.Rules.Faults.{field, number, frame, label, code, is_above, is_magic}
use Rattle.burr_container.specs.Views.Reading.{IsAt}
use Rattle.burr_container.proofs.Common.Lawful.{OfPart}
use Rattle.burr_container.proofs.Common.Judging.LabelLists.{label_back}
use Rattle.burr_container.proofs.Common.Judging.Procedures.{small_bytes}
use Rattle.burr_container.proofs.FormsRead.{cut_after}
use Rattle.burr_container.proofs.Chains.{small_of, after_part, stands, stands_at, then_fails, then_stands}

-- four bytes that are not the magic
pub magic_fails : (cursor next : Cursor) (bytes : List ℕ) → length bytes ≡ 4
    → IsCut cursor.at cursor.rest.now bytes next.at next.rest.now → ¬ (bytes ≡ codes "BPLN")
    → field 4 (λ at. C2 at) is_magic cursor.at cursor.rest.now (C2 cursor.at)
magic_fails cursor next bytes size cut other =
    let all : length cursor.rest.now ≡ length bytes + length next.rest.now =
    ap (λ (all : List ℕ). length all) cut.parts ∙ length-append bytes next.rest.now in
    let front : take 4 cursor.rest.now ≡ bytes =
    ap (λ (n : ℕ). take n cursor.rest.now) (sym size)
    ∙ ap (λ (all : List ℕ). take (length bytes) all) cut.parts
    ∙ take-append_seam bytes next.rest.now in
    inr (
      omega (arith, all, size),
      inl (
        λ is. other
            ((bytes_eq-Decides bytes (codes "BPLN")).0
            (subst (λ (b : List ℕ). IsTrue (is_magic b)) front is)),
        refl,
      ),
    )

-- the least length of code that is above the last label
abbrev pub least_above : Option ℕ → ℕ
least_above None = 0
least_above (Some last) = last + 1

above_least : (last : Option ℕ) (n : ℕ) → IsTrue (nat_le (least_above last) n)
    → IsTrue (is_above last n)
above_least None n is = refl
above_least (Some last) n is =
    let least = leb-true (last + 1) n is in lt-ltb last n (omega (arith, least))

pub code_at : (last : Option ℕ) (least n : ℕ) (cursor after_length next : Cursor)
    (bytes : List ℕ) → least ≡ least_above last
    → IsAt (number 2 C4 (λ n. nat_le least n && nat_le n MOST_CODE)) cursor n after_length
    → length bytes ≡ n → AreBytes bytes
    → IsCut after_length.at after_length.rest.now bytes next.at next.rest.now
    → IsAt (code last) cursor bytes next
code_at last least n cursor after_length next bytes above head size small cut =
    let counted = number 2 C4 (λ n. nat_le least n && nat_le n MOST_CODE) in
    let both = and_parts (nat_lt n (256 ^ 2)) (nat_le least n && nat_le n MOST_CODE) head.fits in
    let range = and_parts (nat_le least n) (nat_le n MOST_CODE) both.1 in
    let is =
    above_least last (length bytes)
    (subst (λ (k : ℕ). IsTrue (nat_le k (length bytes))) above
    (subst (λ (k : ℕ). IsTrue (nat_le least k)) (sym size) range.0)) in
    let short = subst (λ (k : ℕ). IsTrue (nat_le k MOST_CODE)) (sym size) range.1 in
    let fits =
    and_from (is_above last (length bytes)) (is_code bytes) is
    (and_from (nat_le (length bytes) MOST_CODE) _ short
    (small_bytes bytes (small_of bytes small))) in
    let counted_there : cursor.rest.now ≡ big_bytes 2 (length bytes) ++ after_length.rest.now =
    head.cut.parts ∙ ap (λ (k : ℕ). big_bytes 2 k ++ after_length.rest.now) (sym size) in
    stands_at (code last) cursor next bytes (
      fits,
      counted_there ∙ ap (λ (rest : List ℕ). big_bytes 2 (length bytes) ++ rest) cut.parts,
    )
    (cut_after after_length next bytes cut ∙ after_part counted cursor after_length n head)

-- a frame after a position
pub label_at : (is_so : ℕ → Bool) (pieces position : ℕ) (f : Frame)
    (cursor after_position next : Cursor)
    → IsAt (number 2 C5 is_so) cursor position after_position
    → IsAt (frame pieces) after_position f next
    → IsAt (label is_so pieces) cursor (position, f) next
label_at is_so pieces position f cursor after_position next head here =
    stands_at (label is_so pieces) cursor next (position, f)
    (label_back is_so pieces (position, f) cursor.rest.now next.rest.now
    (small_of cursor.rest.now cursor.bytes)
    (then_stands (number 2 C5 is_so) cursor after_position position
    (λ position. OfPart (frame pieces)) f next.rest.now head
    (stands (frame pieces) after_position next f here)))
    (after_part (frame pieces) after_position next f here
    ∙ after_part (number 2 C5 is_so) cursor after_position position head)

pub label_fails : (is_so : ℕ → Bool) (pieces position : ℕ) (cursor after_position : Cursor)
    (fault : ContainerFault) → IsAt (number 2 C5 is_so) cursor position after_position
    → (frame pieces).Fails after_position.at after_position.rest.now fault
    → (label is_so pieces).Fails cursor.at cursor.rest.now fault
label_fails is_so pieces position cursor after_position fault head fails =
    then_fails (number 2 C5 is_so) cursor after_position position
    (λ position. (frame pieces).Fails) fault head fails
