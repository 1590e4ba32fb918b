use Rattle.burr_plantext.proofs.Texts.ListingLaws.{listing_stands}
use Rattle.burr_plantext.proofs.laws.a_listing_stands_for_its_plan.Goals as goal

pub returns : goal.returns
returns c = listing_stands
