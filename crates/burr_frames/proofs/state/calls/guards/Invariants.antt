use Rattle.burr_forms.specs.Rules.Forms.{AllSmallForms}
use Rattle.burr_frames.specs.Views.Exits.{framed_ref}
use Rattle.burr_container.proofs.Common.ListsRead.{IsRead}
use Rattle.burr_frames.proofs.state.calls.guards.Given as goal

-- the first ones are read
abbrev pub invariant-loop-n : goal.invariant-loop-n
invariant-loop-n l = record {
  read : IsRead (framed_ref l.exit).guards l.n l.guards.items;
  small : AllSmallForms l.guards.items;
}
