-- Reading one part after another.
use Rattle.std.proofs.Common.{◌≡◌, ℕ, suc, ◌+◌, ◌%◌, ◌^◌, ◌<◌, ◌≤◌, Bool, ◌&&◌, IsTrue, nat_lt, nat_le, List, [], ◌∷◌, length, inr, ap, ◌∙◌, subst, arith, length-append, leb-true, lt-ltb}
use Rattle.std.proofs.lemmas.Bool.{and_parts, and_from}
use Rattle.burr_container.specs.declared.fault.ContainerFault.{ContainerFault}
use Rattle.burr_container.specs.declared.fault.ContainerFault.TheVariants.{C4}
use Rattle.burr_container.specs.declared.reading.cursor.Cursor.{Cursor}
use Rattle.burr_container.specs.Views.Cuts.{AreBytes, IsCut}
use Rattle.burr_container.specs.Rules.Faults.{Failing, Part, first, number}
use Rattle.burr_container.specs.Views.Reading.{IsAt}
use Rattle.burr_container.proofs.Common.Lawful.{Front, OfPart, OfFirst}
use Rattle.burr_container.proofs.Common.Judging.Fronts.{AreSmall}

-- the bytes after a cursor are small
pub small_of : (bytes : List ℕ) → AreBytes bytes → AreSmall bytes
small_of [] small = tt
small_of (b ∷ bytes) small = (small 0, small_of bytes (λ i. small (suc i)))

-- a cursor after another in the same bytes
abbrev pub IsAfter : Cursor → Cursor → Type 0
IsAfter cursor next = next.at + length next.rest.now ≡ cursor.at + length cursor.rest.now

-- a byte that is so, and one that is not there
pub byte_at : (wrong : ℕ → ContainerFault) (is_so : ℕ → Bool) (cursor next : Cursor) (n : ℕ)
    → n < 256 → IsTrue (is_so n)
    → IsCut cursor.at cursor.rest.now (n ∷ []) next.at next.rest.now
    → IsAt (number 1 wrong is_so) cursor n next
byte_at wrong is_so cursor next n small so cut =
    let low : n ≡ n % 256 = omega (arith, small) in
    record {
      fits = and_from (nat_lt n (256 ^ 1)) (is_so n) (lt-ltb n 256 small) so;
      cut = subst
          (λ (b : ℕ). IsCut cursor.at cursor.rest.now (b ∷ []) next.at next.rest.now) low cut;
    }

-- a count that is at most this
pub at_most : (most : ℕ) (cursor next : Cursor) (n : ℕ)
    → IsAt (number 1 C4 (λ n. nat_le 0 n && nat_le n most)) cursor n next
    → IsAt (number 1 C4 (λ n. nat_le n most)) cursor n next
at_most most cursor next n here =
    let both = and_parts (nat_lt n (256 ^ 1)) (nat_le 0 n && nat_le n most) here.fits in
    record {
      fits = and_from (nat_lt n (256 ^ 1)) (nat_le n most) both.0
          (and_parts (nat_le 0 n) (nat_le n most) both.1).1;
      cut = here.cut;
    }

pub count_most : (most : ℕ) (cursor next : Cursor) (n : ℕ)
    → IsAt (number 1 C4 (λ n. nat_le 0 n && nat_le n most)) cursor n next → n ≤ most
count_most most cursor next n here =
    let both = and_parts (nat_lt n (256 ^ 1)) (nat_le 0 n && nat_le n most) here.fits in
    leb-true n most (and_parts (nat_le 0 n) (nat_le n most) both.1).1

module _ {A : Type 0} (part : Part A) (cursor next : Cursor) (a : A) where
  pub after_part : IsAt part cursor a next → IsAfter cursor next
  after_part here =
      let size : length cursor.rest.now ≡ length (part.bytes a) + length next.rest.now =
      ap (λ (all : List ℕ). length all) here.cut.parts
      ∙ length-append (part.bytes a) next.rest.now in
      omega (arith, size, here.cut.moved)

  pub stands_at : OfPart part a cursor.rest.now next.rest.now → IsAfter cursor next
      → IsAt part cursor a next
  stands_at here same =
      let size : length cursor.rest.now ≡ length (part.bytes a) + length next.rest.now =
      ap (λ (all : List ℕ). length all) here.1
      ∙ length-append (part.bytes a) next.rest.now in
      record {
        fits = here.0;
        cut = record { parts = here.1; moved = omega (arith, size, same) };
      }

  pub stands : IsAt part cursor a next → OfPart part a cursor.rest.now next.rest.now
  stands here = (here.fits, here.cut.parts)

  -- what follows it fails
  pub then_fails : (follows : A → Failing) (fault : ContainerFault) → IsAt part cursor a next
      → follows a next.at next.rest.now fault
      → first part follows cursor.at cursor.rest.now fault
  then_fails follows fault here fails =
      inr (
        a,
        next.rest.now,
        here.fits,
        here.cut.parts,
        subst (λ (n : ℕ). follows a n next.rest.now fault) here.cut.moved fails,
      )

  -- what follows it stands there
  pub then_stands : {B : Type 0} (Next : A → Front B) (b : B) (r : List ℕ)
      → IsAt part cursor a next → Next a b next.rest.now r
      → OfFirst part Next (a, b) cursor.rest.now r
  then_stands Next b r here more = (next.rest.now, (here.fits, here.cut.parts), more)
