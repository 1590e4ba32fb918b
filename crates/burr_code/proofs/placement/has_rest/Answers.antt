use Rattle.std.proofs.Common.{rules}
use Rattle.burr_text.proofs.Common.Tests.{no_iff}
use Rattle.burr_code.proofs.PlaceTests.{none_left}
use Rattle.burr_code.proofs.placement.has_rest.Goals as goal

pub returns : goal.returns
returns g c = no_iff (none_left c.args.places.now c.args.tray c.args.group c.loop-piece.piece (search rules) c.loop-piece.invariant)
