use Rattle.std.proofs.Common.{length, ap, arith}
use Rattle.burr_frames.specs.Rules.States.{AbstractState}
use Rattle.burr_frames.proofs.state.State.guards_are_few.Goals as goal

pub returns : goal.returns
returns c = omega (arith, c.len.ensures.fits, c.len.ensures.value, ap (λ (a : AbstractState). length a.guards) c.self.view_is)
