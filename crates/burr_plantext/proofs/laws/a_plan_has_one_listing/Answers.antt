use Rattle.burr_plantext.proofs.Texts.Listings.{some_listing, one_listing}
use Rattle.burr_plantext.proofs.laws.a_plan_has_one_listing.Goals as goal

pub returns : goal.returns
returns c = record { some = some_listing; one = one_listing }
