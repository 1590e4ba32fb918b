-- Groups that are not free.
use Rattle.burr_voxels.specs.SpaceLaws.{OverlappingIsNotFree}

pub overlapping_is_not_free : OverlappingIsNotFree
overlapping_is_not_free group others direction k least overlap free = free k least overlap
