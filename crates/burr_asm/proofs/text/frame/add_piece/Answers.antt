use Rattle.std.proofs.Common.{refl, ◌∙◌}
use Rattle.burr_asm.specs.Views.LineWords.{piece_words}
use Rattle.burr_asm.proofs.FrameParts.{piece_added}
use Rattle.burr_asm.proofs.text.frame.add_piece.Goals as goal

pub returns : goal.returns
returns c = λ f h.
    piece_added _ f (c.frame.view_is ∙ h) c.live_slots-live.result c.frame.inside.places.items c.add_place.new.places.items (piece_words c.args.words) c.args.line c.add_place.result refl c.live_slots-live.ensures c.add_place.ensures
