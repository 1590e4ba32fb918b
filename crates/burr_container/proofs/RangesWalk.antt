-- Reading the ranges of results, one after the other.
use Rattle.std.proofs.Common.{◌≡◌, ℕ, zero, suc, ◌+◌, ◌-◌, ◌<◌, ◌==◌, Bool, IsTrue, Some, List, [], ◌∷◌, ◌++◌, length, take, inl, refl, sym, ap, ◌∙◌, subst, arith, append-nil, eq-eqb}
use Rattle.std.specs.List.{list_all}
use Rattle.std.proofs.Math.ListN.{set}
use Rattle.std.proofs.lemmas.Bool.{and_parts, and_from}
use Rattle.burr_container.specs.declared.fault.ContainerFault.{ContainerFault}
use Rattle.burr_container.specs.declared.reading.cursor.Cursor.{Cursor}
use Rattle.burr_container.specs.Rules.Plans.{Range}
use Rattle.burr_container.specs.Rules.Fitting.{is_range, are_ranges}
use Rattle.burr_container.specs.Rules.Faults.{range, ranges, each}
use Rattle.burr_container.specs.Views.Reading.{IsAt}
use Rattle.burr_container.proofs.Common.Lists.{OfEach}
use Rattle.burr_container.proofs.Common.Judging.Lists.{one_more, one_more_fails}
use Rattle.burr_container.proofs.Common.Judging.Exits.{ranges_back}
use Rattle.burr_container.proofs.Chains.{IsAfter, small_of, after_part, stands_at, then_fails, then_stands}

put_next : {A : Type 0} (n : ℕ) (xs : List A) (x : A) (more : List A) → n < length xs
    → take (n + 1) (set xs n x) ++ more ≡ take n xs ++ (x ∷ more)
put_next n [] x more small = absurd (omega (arith, small))
put_next zero (a ∷ xs) x more small = refl
put_next (suc n) (a ∷ xs) x more small =
    let moved : suc n + 1 ≡ suc (n + 1) = omega arith in
    ap (λ (k : ℕ). take k (a ∷ set xs n x) ++ more) moved
    ∙ ap (λ (l : List _). a ∷ l) (put_next n xs x more (omega (arith, small)))

length_put : {A : Type 0} (n : ℕ) (xs : List A) (x : A) → length (set xs n x) ≡ length xs
length_put zero [] x = refl
length_put zero (a ∷ xs) x = refl
length_put (suc n) [] x = refl
length_put (suc n) (a ∷ xs) x = ap suc (length_put n xs x)

all_put : {A : Type 0} (test : A → Bool) (n : ℕ) (xs : List A) (x : A)
    → IsTrue (list_all test xs) → IsTrue (test x) → IsTrue (list_all test (set xs n x))
all_put test zero [] x all is = refl
all_put test (suc n) [] x all is = refl
all_put test zero (a ∷ xs) x all is =
    and_from (test x) (list_all test xs) is (and_parts (test a) (list_all test xs) all).1
all_put test (suc n) (a ∷ xs) x all is =
    let both = and_parts (test a) (list_all test xs) all in
    and_from (test a) (list_all test (set xs n x)) both.0 (all_put test n xs x both.1 is)

-- the first n of `count` ranges stand there, and the others are to be read
pub record AreRangesRead (count : ℕ) (begin : Cursor) (n : ℕ) (rs : List Range)
    (cursor : Cursor) : Type 0 where
  pub fails : (fault : ContainerFault) → each (count - n) range cursor.at cursor.rest.now fault
      → each count range begin.at begin.rest.now fault
  pub stands : (more : List Range) (r : List ℕ) → OfEach (count - n) range more cursor.rest.now r
      → OfEach count range (take n rs ++ more) begin.rest.now r
  pub after : IsAfter begin cursor
  pub size : length rs ≡ 2
  pub fit : IsTrue (list_all (λ r. is_range (Some r)) rs)

module _ (count : ℕ) (begin : Cursor) where
  pub ranges_begin : (rs : List Range) → length rs ≡ 2
      → IsTrue (list_all (λ r. is_range (Some r)) rs) → AreRangesRead count begin 0 rs begin
  ranges_begin rs size fit =
      let all : count - 0 ≡ count = omega arith in
      record {
        fails = λ fault fails.
            subst (λ (k : ℕ). each k range begin.at begin.rest.now fault) all fails;
        stands = λ more r here.
            subst (λ (k : ℕ). OfEach k range more begin.rest.now r) all here;
        after = refl;
        size = size;
        fit = fit;
      }

  module _ (n : ℕ) (rs : List Range) (cursor : Cursor) (read : AreRangesRead count begin n rs cursor)
    where
      pub ranges_go_on : (next : Cursor) (x : Range) → n < count → n < 2 → IsAt range cursor x next
          → AreRangesRead count begin (n + 1) (set rs n x) next
      ranges_go_on next x small low here =
          let left = count - (n + 1) in
          let more_left : suc left ≡ count - n = omega (arith, small) in
          record {
            fails = λ fault fails. read.fails fault
                (subst (λ (k : ℕ). each k range cursor.at cursor.rest.now fault) more_left
                (one_more_fails range left cursor.at cursor.rest.now fault
                (then_fails range cursor next x (λ _. each left range) fault here fails)));
            stands = λ more r stand.
                let whole =
                read.stands (x ∷ more) r
                (subst (λ (k : ℕ). OfEach k range (x ∷ more) cursor.rest.now r) more_left
                (one_more range left (x, more) cursor.rest.now r
                (small_of cursor.rest.now cursor.bytes)
                (then_stands range cursor next x (λ _. OfEach left range) more r here stand))) in
                subst (λ (all : List Range). OfEach count range all begin.rest.now r)
                (sym (put_next n rs x more (omega (arith, low, read.size)))) whole;
            after = after_part range cursor next x here ∙ read.after;
            size = length_put n rs x ∙ read.size;
            fit = all_put (λ r. is_range (Some r)) n rs x read.fit here.fits;
          }

      -- the next one fails
      pub range_fails : (fault : ContainerFault) → n < count
          → range.Fails cursor.at cursor.rest.now fault
          → (ranges count).Fails begin.at begin.rest.now fault
      range_fails fault small fails =
          let left = count - (n + 1) in
          let more_left : suc left ≡ count - n = omega (arith, small) in
          read.fails fault
          (subst (λ (k : ℕ). each k range cursor.at cursor.rest.now fault) more_left
          (one_more_fails range left cursor.at cursor.rest.now fault (inl fails)))

      pub ranges_end : n ≡ count → IsAt (ranges count) begin (take count rs) cursor
      ranges_end end =
          let none : 0 ≡ count - n = omega (arith, end) in
          let stand =
          read.stands [] cursor.rest.now
          (subst (λ (k : ℕ). OfEach k range [] cursor.rest.now cursor.rest.now) none
          (refl, refl, refl)) in
          let whole : take n rs ++ [] ≡ take count rs =
          append-nil (take n rs) ∙ ap (λ (k : ℕ). take k rs) end in
          stands_at (ranges count) begin cursor (take count rs)
          (ranges_back count (take count rs) begin.rest.now cursor.rest.now
          (subst (λ (all : List Range). OfEach count range all begin.rest.now cursor.rest.now) whole
          stand))
          read.after

      pub ranges_fit : IsTrue (are_ranges 2 rs)
      ranges_fit =
          and_from (length rs == 2) (list_all (λ r. is_range (Some r)) rs)
          (eq-eqb (length rs) 2 read.size) read.fit
