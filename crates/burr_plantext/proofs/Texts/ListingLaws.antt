-- The laws of listings.
use Rattle.std.proofs.Common.{sym, ap, ◌∙◌}
use Rattle.burr_plantext.specs.Rules.Texts.{lines_read}
use Rattle.burr_plantext.specs.Laws.PlanTexts.{ListingStands}
use Rattle.burr_plantext.proofs.Texts.PlansListed.{listed_back}
use Rattle.burr_plantext.proofs.Texts.SourceWritten.{listing_read}

pub listing_stands : ListingStands
listing_stands plan text fits (s, listed, e) =
    let h = listed_back plan s fits listed in
    (s, record { right = h.right; lines = ap lines_read e ∙ listing_read plan s fits listed }, sym h.back)
