-- The motions that pieces can make.
use Rattle.std.specs.Prelude.{◌≢◌, ◌<◌, ◌^◌, ℕ}
use Rattle.burr_state.specs.declared.effect.Motion.{Motion}

-- a motion of at least one of this many pieces, in one of the 32 trays
pub record IsMotionOf (pieces : ℕ) (m : Motion) : Type 0 where
  pub some : m.group ≢ 0
  pub group : m.group < 2 ^ pieces
  pub tray : m.tray < 32
