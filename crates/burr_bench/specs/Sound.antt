-- What holds of a bench that tests each move.
use Rattle.std.specs.Prelude.{◌≡◌, ◌≤◌, length}
use Rattle.burr_code.specs.Places.{AllLieIn}
use Rattle.burr_assembly.specs.Rules.Text.{IsAssembly}
use Rattle.burr_assembly.specs.Rules.Homes.{homes_of}
use Rattle.burr_state.specs.Rules.Space.{NoOverlap}
use Rattle.burr_state.specs.Views.Benches.{Benched}

-- what holds of each bench at work
pub record IsSound (b : Benched) : Type 0 where
  pub as_many : length b.state.places ≡ length b.assembly.pieces
  pub few : length b.state.places ≤ 32
  -- the grip lies in the current tray
  pub here : AllLieIn b.state.places b.state.tray b.state.grip
  -- the assembly is one
  pub whole : IsAssembly b.assembly
  -- no two pieces of a tray overlap
  pub apart : NoOverlap (homes_of b.assembly) b.state.places
