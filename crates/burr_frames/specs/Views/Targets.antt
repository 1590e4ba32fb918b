-- What values are compared with in an agreement.
use Rattle.burr_frames.specs.declared.state.meeting.Agreement.{Agreement}
use Rattle.burr_frames.specs.Views.Comparing.{Target}

abbrev pub target_of : Agreement → Target
target_of a = record {
  free = a.free;
  ranges = a.ranges.now;
  guards = a.guards.now;
  least = a.least.now;
  same = a.same.now;
}
