-- A tray that holds one piece is the tray of some piece.
use Rattle.std.proofs.Common.{◌≢◌, ◌<◌, ◌≡◌, ℕ, Some, length, sym, ap, ◌∙◌, arith}
use Rattle.std.specs.Prelude.{slice_get}
use Rattle.std.proofs.lemmas.Option.{slice_get_within, slice_get-get_or}
use Rattle.burr_code.specs.declared.placement.Placement.TheVariants.{On}
use Rattle.burr_text.proofs.Common.Tests.{no_of, one_more_number}
use Rattle.burr_code.specs.Places.{LiesIn, count_in}
use Rattle.burr_verify.proofs.Trays.{none_lone, some_lies}
use Rattle.burr_verify.proofs.forming.are_formed.Goals as goal

pub loop-place-preserved : goal.loop-place-preserved
loop-place-preserved c =
    let places = c.args.places.now in
    let i = c.loop-place.place-index in
    let at : slice_get places i ≡ Some c.place-item.result = slice_get-get_or places i c.place-item.result c.loop-place-test.true ∙ ap Some (sym c.place-item.is) in
    one_more_number (λ p. (tray : ℕ) → LiesIn places p tray → count_in tray places ≢ 1) i c.loop-place.invariant
    (none_lone places i c.place-item.result c.tray.result at c.tray.ensures (no_of c.if-is_lone.ensures))

pub returns : goal.returns
returns c = (
  (λ is. (c.all_lie_in.ensures.0 is, none)),
  (λ formed. c.all_lie_in.ensures.1 formed.0),
)
  where
    none : (tray : ℕ) → count_in tray c.args.places.now ≢ 1
    none tray one =
        let some = some_lies tray c.args.places.now (omega (arith, one)) in
        let inside : some.0 < length c.args.places.now = slice_get_within c.args.places.now some.0 (On tray some.1.0) some.1.1 in
        c.loop-place.invariant some.0 (omega (arith, inside, c.loop-place-test.false)) tray some.1 one
