use Rattle.burr_voxels.proofs.Overlapping.{overlapping_is_not_free}
use Rattle.burr_voxels.proofs.laws.a_group_that_overlaps_is_not_free.Goals as goal

pub returns : goal.returns
returns c = overlapping_is_not_free
