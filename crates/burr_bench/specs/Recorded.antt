-- Records of a machine's steps.
use Rattle.std.specs.Prelude.{◌≡◌, Option, MatchOption}
use Rattle.burr_state.specs.declared.effect.Progress.{Progress}
use Rattle.burr_state.specs.declared.effect.Progress.TheVariants as progress
use Rattle.burr_state.specs.Rules.Undo.{Undo, laid_over}
use Rattle.burr_state.specs.Views.Benches.{Benched, in_state}
use Rattle.burr_state.specs.Views.Records.{IsWorkState}
use Rattle.burr_bench.specs.Soundness.Records.{IsUndoOf}
use Rattle.burr_bench.specs.Sound.{IsSound}

-- the machine with a record's old values laid over it
abbrev pub gone_back : Undo → Benched → Benched
gone_back u b = in_state (laid_over u b.state) b

-- The record takes a machine back: with its old values laid over it that is at work and runs
-- safely, and its step, with some answer or none, gives this machine and this record.
pub record TakesBack (b : Benched) (u : Undo) : Type 0 where
  pub sound : IsSound (gone_back u b)
  pub undo : IsUndoOf b u
  pub state : IsWorkState b.program.procedures (laid_over u b.state)

-- the record, if there is one, takes the machine back to what it was before; else nothing changed
abbrev pub GoesBack : Benched → Benched → Option Undo → Type 0
GoesBack old new recorded =
    MatchOption recorded (new ≡ old) (λ u. TakesBack new u × (gone_back u new ≡ old))

-- a call that tells this made a step
abbrev pub MadeStep : Progress → Type 0
MadeStep (progress.Went motion) = Unit {0}
MadeStep (progress.Asks low high) = ⊥
MadeStep progress.Again = ⊥
MadeStep progress.Ended = ⊥
