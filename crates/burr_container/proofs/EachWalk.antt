-- Reading a given number of values of a part, one after the other.
use Rattle.std.proofs.Common.{◌≡◌, ℕ, suc, ◌+◌, ◌-◌, ◌<◌, ◌≤◌, List, [], ◌∷◌, inl, refl, ◌∙◌, subst, arith}
use Rattle.burr_container.specs.declared.fault.ContainerFault.{ContainerFault}
use Rattle.burr_container.specs.declared.reading.cursor.Cursor.{Cursor}
use Rattle.burr_container.specs.Rules.Faults.{Part, each}
use Rattle.burr_container.specs.Views.Reading.{IsAt}
use Rattle.burr_container.proofs.Common.Lists.{OfEach}
use Rattle.burr_container.proofs.Common.Judging.Lists.{one_more, one_more_fails}
use Rattle.burr_container.proofs.Chains.{IsAfter, small_of, after_part, then_fails, then_stands}

-- the first i of n stand there, and the others are to be read
pub record IsEachWalk {A : Type 0} (part : Part A) (n : ℕ) (begin : Cursor) (i : ℕ)
    (cursor : Cursor) : Type 0 where
  pub fails : (fault : ContainerFault) → each (n - i) part cursor.at cursor.rest.now fault
      → each n part begin.at begin.rest.now fault
  pub stands : (more : List A) (r : List ℕ) → OfEach (n - i) part more cursor.rest.now r
      → (whole : List A) × OfEach n part whole begin.rest.now r
  pub after : IsAfter begin cursor

module _ {A : Type 0} (part : Part A) (n : ℕ) (begin : Cursor) where
  pub each_begins : IsEachWalk part n begin 0 begin
  each_begins =
      let all : n - 0 ≡ n = omega arith in
      record {
        fails = λ fault fails.
            subst (λ (k : ℕ). each k part begin.at begin.rest.now fault) all fails;
        stands = λ more r here.
            (more, subst (λ (k : ℕ). OfEach k part more begin.rest.now r) all here);
        after = refl;
      }

  pub each_goes_on : (i : ℕ) (cursor next : Cursor) (a : A) → i < n
      → IsEachWalk part n begin i cursor → IsAt part cursor a next
      → IsEachWalk part n begin (i + 1) next
  each_goes_on i cursor next a small walk here =
      let left = n - (i + 1) in
      let size : suc left ≡ n - i = omega (arith, small) in
      record {
        fails = λ fault fails. walk.fails fault
            (subst (λ (k : ℕ). each k part cursor.at cursor.rest.now fault) size
            (one_more_fails part left cursor.at cursor.rest.now fault
            (then_fails part cursor next a (λ _. each left part) fault here fails)));
        stands = λ more r stand. walk.stands (a ∷ more) r
            (subst (λ (k : ℕ). OfEach k part (a ∷ more) cursor.rest.now r) size
            (one_more part left (a, more) cursor.rest.now r
            (small_of cursor.rest.now cursor.bytes)
            (then_stands part cursor next a (λ _. OfEach left part) more r here stand)));
        after = after_part part cursor next a here ∙ walk.after;
      }

  -- the next one fails
  pub each_fails : (i : ℕ) (cursor : Cursor) (fault : ContainerFault) → i < n
      → IsEachWalk part n begin i cursor → part.Fails cursor.at cursor.rest.now fault
      → each n part begin.at begin.rest.now fault
  each_fails i cursor fault small walk fails =
      let left = n - (i + 1) in
      let size : suc left ≡ n - i = omega (arith, small) in
      walk.fails fault
      (subst (λ (k : ℕ). each k part cursor.at cursor.rest.now fault) size
      (one_more_fails part left cursor.at cursor.rest.now fault (inl fails)))

  pub each_ends : (i : ℕ) (cursor : Cursor) → n ≤ i → IsEachWalk part n begin i cursor
      → (whole : List A) × OfEach n part whole begin.rest.now cursor.rest.now
  each_ends i cursor all walk =
      let none : 0 ≡ n - i = omega (arith, all) in
      walk.stands [] cursor.rest.now
      (subst (λ (k : ℕ). OfEach k part [] cursor.rest.now cursor.rest.now) none
      (refl, refl, refl))
