-- A piece that has a place, and one that has none.
use Rattle.std.proofs.Common.{◌≡◌, ◌↔◌, sym, subst, IsTrue, Bool, false, Some, length, nat_lt, refl, arith, ℕ, ◌≤◌}
use Rattle.std.specs.Prelude.{slice_get}
use Rattle.std.proofs.lemmas.Bool.Decides.{nat_tests}
use Rattle.std.proofs.lemmas.Option.{slice_get_read}
use Rattle.burr_text.proofs.Common.Tests.{no_iff}
use Rattle.burr_code.specs.Places.{LiesIn}
use Rattle.burr_code.proofs.PlaceTests.{lies_by_test, lies_nowhere}
use Rattle.burr_code.proofs.placement.lies_in.Goals as goal

not_below : (i j n : ℕ) → i ≡ j → false ≡ nat_lt i n → n ≤ j
not_below i j n e test = grind (arith, nat_tests)

pub returns-in-Some : goal.returns-in-Some
returns-in-Some g c =
    let places = c.args.places.now in
    let at = c.in-Some.ensures.lookup in
    let here : slice_get places c.args.piece ≡ Some c.in-Some.place.now =
    subst (λ (k : ℕ). slice_get places k ≡ Some c.in-Some.place.now) c.from.ensures
    (slice_get_read places (length places) c.from.result c.in-Some.place.now refl at.3.0 at.1) in
    subst (λ (b : Bool). IsTrue b ↔ LiesIn places c.args.piece c.args.tray) (sym c.is_in.ensures)
    (lies_by_test places c.args.piece c.args.tray c.in-Some.place.now here)

pub returns-in-None : goal.returns-in-None
returns-in-None g c =
    let at = c.in-None.ensures.lookup in
    no_iff (lies_nowhere c.args.places.now c.args.piece c.args.tray
    (not_below c.from.result c.args.piece (length c.args.places.now) c.from.ensures at.0))
