-- Reading a given number of values of a part, one after the other, and keeping something of each.
use Rattle.std.proofs.Common.{◌≡◌, ℕ, suc, ◌+◌, ◌-◌, ◌<◌, ◌≤◌, List, [], ◌∷◌, ◌++◌, length, refl, sym, ap, ◌∙◌, subst, arith, append_assoc, append-nil, length-append}
use Rattle.burr_container.specs.declared.reading.cursor.Cursor.{Cursor}
use Rattle.burr_container.specs.Rules.Faults.{Part}
use Rattle.burr_container.specs.Views.Reading.{IsAt}
use Rattle.burr_container.specs.Views.InPlace.{AreFor}
use Rattle.burr_container.proofs.Common.Lists.{OfEach}
use Rattle.burr_container.proofs.EachWalk.{IsEachWalk, each_begins, each_goes_on}
use Rattle.burr_container.proofs.Common.Judging.Lists.{one_more}
use Rattle.burr_container.proofs.Chains.{small_of, then_stands}

-- the first i of n stand there, and what is kept of them follows what was kept at first
pub record IsKeptWalk {A V : Type 0} (part : Part A) (Is : V → A → Type 0) (n : ℕ)
    (begin : Cursor) (first : List V) (i : ℕ) (kept : List V) (cursor : Cursor) : Type 0 where
  pub walk : IsEachWalk part n begin i cursor
  pub new : List V
  pub all : kept ≡ first ++ new
  pub size : length new ≡ i
  pub stands : (more : List A) (others : List V) (r : List ℕ)
      → OfEach (n - i) part more cursor.rest.now r → AreFor Is others more
      → (whole : List A) × OfEach n part whole begin.rest.now r × AreFor Is (new ++ others) whole

module _ {A V : Type 0} (part : Part A) (Is : V → A → Type 0) (n : ℕ) (begin : Cursor)
    (first : List V) where
  pub kept_begins : IsKeptWalk part Is n begin first 0 first begin
  kept_begins =
      let whole : n - 0 ≡ n = omega arith in
      record {
        walk = each_begins part n begin;
        new = [];
        all = sym (append-nil first);
        size = refl;
        stands = λ more others r here are.
            (more, subst (λ (k : ℕ). OfEach k part more begin.rest.now r) whole here, are);
      }

  pub kept_goes_on : (i : ℕ) (kept : List V) (cursor next : Cursor) (a : A) (v : V) → i < n
      → IsKeptWalk part Is n begin first i kept cursor → Is v a → IsAt part cursor a next
      → IsKeptWalk part Is n begin first (i + 1) (kept ++ v ∷ []) next
  kept_goes_on i kept cursor next a v small walk is here =
      let left = n - (i + 1) in
      let size : suc left ≡ n - i = omega (arith, small) in
      record {
        walk = each_goes_on part n begin i cursor next a small walk.walk here;
        new = walk.new ++ v ∷ [];
        all = ap (λ (k : List V). k ++ v ∷ []) walk.all ∙ append_assoc first walk.new (v ∷ []);
        size = let more = length-append walk.new (v ∷ []) in omega (arith, more, walk.size);
        stands = λ more others r stand are.
            let both =
            walk.stands (a ∷ more) (v ∷ others) r
            (subst (λ (k : ℕ). OfEach k part (a ∷ more) cursor.rest.now r) size
            (one_more part left (a, more) cursor.rest.now r
            (small_of cursor.rest.now cursor.bytes)
            (then_stands part cursor next a (λ _. OfEach left part) more r here stand)))
            (is, are) in (
              both.0,
              both.1,
              subst (λ (k : List V). AreFor Is k both.0)
                  (sym (append_assoc walk.new (v ∷ []) others)) both.2,
            );
      }

  pub kept_ends : (i : ℕ) (kept : List V) (cursor : Cursor) → n ≤ i
      → (walk : IsKeptWalk part Is n begin first i kept cursor)
      → (whole : List A) × OfEach n part whole begin.rest.now cursor.rest.now
      × AreFor Is walk.new whole
  kept_ends i kept cursor all walk =
      let none : 0 ≡ n - i = omega (arith, all) in
      let end =
      walk.stands [] [] cursor.rest.now
      (subst (λ (k : ℕ). OfEach k part [] cursor.rest.now cursor.rest.now) none
      (refl, refl, refl)) tt in
      (end.0, end.1, subst (λ (k : List V). AreFor Is k end.0) (append-nil walk.new) end.2)
