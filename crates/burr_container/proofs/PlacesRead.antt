-- Reading the places of all pieces.
use Rattle.std.proofs.Common.{◌≡◌, ℕ, suc, ◌+◌, ◌-◌, ◌<◌, Bool, List, subst, arith}
use Rattle.std.specs.Prelude.{IsTrue}
use Rattle.burr_code.specs.declared.placement.Placement.{Placement}
use Rattle.burr_container.specs.declared.reading.cursor.Cursor.{Cursor}
use Rattle.burr_container.specs.Rules.Plans.{FormCell}
use Rattle.burr_container.specs.Rules.Faults.{place}
use Rattle.burr_container.specs.Views.Decoding.{places_stand, IsAfterPlace}
use Rattle.burr_container.specs.Views.Reading.{IsAt}
use Rattle.burr_container.proofs.EachWalk.{IsEachWalk, each_goes_on}
use Rattle.burr_container.proofs.PlaceWalk.{stands_before}

-- where the others stand, all stand; and the first i are read
pub record ArePlacesRead (live : List Bool) (pieces : ℕ) (begin : Cursor) (i : ℕ)
    (cursor : Cursor) : Type 0 where
  pub stand : IsTrue (places_stand live (pieces - i) cursor.rest.now)
      → IsTrue (places_stand live pieces begin.rest.now)
  pub walk : IsEachWalk (place live) pieces begin i cursor

pub places_go_on : (live : List Bool) (pieces i : ℕ) (begin cursor next : Cursor)
    (p : Placement FormCell) → i < pieces → ArePlacesRead live pieces begin i cursor
    → IsAfterPlace live cursor.rest.now next.rest.now → IsAt (place live) cursor p next
    → ArePlacesRead live pieces begin (i + 1) next
places_go_on live pieces i begin cursor next p small read over here =
    let left = pieces - (i + 1) in
    let more : suc left ≡ pieces - i = omega (arith, small) in
    record {
      stand = λ others. read.stand
          (subst (λ (n : ℕ). IsTrue (places_stand live n cursor.rest.now)) more
          (stands_before live left cursor.rest.now next.rest.now over others));
      walk = each_goes_on (place live) pieces begin i cursor next p small read.walk here;
    }
