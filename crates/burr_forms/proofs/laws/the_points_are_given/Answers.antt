use Rattle.burr_forms.proofs.BoxSizes.{size_counts_points}
use Rattle.burr_forms.proofs.Listing.{the_points_are_given}
use Rattle.burr_forms.proofs.OneListing.{one_list_of_points}
use Rattle.burr_forms.proofs.laws.the_points_are_given.Goals as goal

pub returns : goal.returns
returns c = record { given = the_points_are_given; one = one_list_of_points; size = size_counts_points }
