use Rattle.std.proofs.Common.{◌≡◌, map, take}
use Rattle.burr_forms.specs.Rules.Forms.{substituted, AllSmallForms}
use Rattle.burr_frames.proofs.state.calls.guards_with.Given as goal

-- the first guards have the forms in them
abbrev pub invariant-loop-guard : goal.invariant-loop-guard
invariant-loop-guard l = record {
  is : l.guards.items ≡ map (substituted l.symbols) (take l.guard l.there);
  small : AllSmallForms l.guards.items;
}
