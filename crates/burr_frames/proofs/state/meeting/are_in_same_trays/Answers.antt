-- A piece that is in another tray ends it.
use Rattle.std.proofs.Common.{◌≡◌, ◌∙◌, length, arith, ap}
use Rattle.std.specs.Prelude.{not, eqb}
use Rattle.std.specs.Option.{option_eq}
use Rattle.burr_text.proofs.Common.Tests.{no_iff}
use Rattle.burr_code.specs.Places.{tray_of}
use Rattle.burr_frames.proofs.Comparisons.{one_elsewhere}
use Rattle.burr_frames.proofs.state.meeting.are_in_same_trays.Goals as goal

pub returns-then-ne : goal.returns-then-ne
returns-then-ne c =
    let a = c.index-places-piece.result in
    let b = c.index-others-piece.result in
    let same : length c.args.places.now ≡ length c.args.others.now = omega (arith, c.if-places-others.false) in
    no_iff
    (one_elsewhere c.args.places.now c.args.others.now c.loop-piece.piece a b c.loop-piece-test.true same c.index-places-piece.is c.index-others-piece.is
    (c.if-ne.ensures ∙ ap (λ t. not (option_eq eqb t c.tray-in-loop-piece.result)) c.tray.ensures ∙ ap (λ t. not (option_eq eqb (tray_of a) t)) c.tray-in-loop-piece.ensures))
