use Rattle.burr_blocking.proofs.Hulls.{displaced_corners, displaced_between, fits_minus}
use Rattle.burr_blocking.proofs.Reaches.{minus_within}
use Rattle.burr_blocking.proofs.extent.Extent.displacements_to.Goals as goal

pub sub-greatest-requires : goal.sub-greatest-requires
sub-greatest-requires c = fits_minus c.args.other.greatest c.args.self.least c.requires.other.far c.requires.small.near

pub invariant_of-result : goal.invariant_of-result
invariant_of-result c = record {
  near = rw c.sub-least.ensures (minus_within 79 79 c.args.other.least c.args.self.greatest c.requires.other.near c.requires.small.far);
  small = rw (c.sub-least.ensures, c.sub-greatest.ensures) (displaced_corners c.args.self.least c.args.self.greatest c.args.other.least c.args.other.greatest c.requires.small.small c.requires.other.small);
}

pub returns : goal.returns
returns c = record {
  corner = c.sub-least.ensures;
  holds = λ from to one other.
      rw (c.sub-least.ensures, c.sub-greatest.ensures) (displaced_between c.args.self.least c.args.self.greatest c.args.other.least c.args.other.greatest from to one other);
}
