use Rattle.std.proofs.Common.{◌≤◌, length, take}
use Rattle.burr_forms.specs.Rules.Forms.{AllSmallForms}
use Rattle.burr_forms.specs.Views.Searching.{HoldAlike}
use Rattle.burr_forms.proofs.searching.cutting_guards.Given as goal

-- those in the room hold at the same points as the guards so far
abbrev pub invariant-loop-guard : goal.invariant-loop-guard
invariant-loop-guard l = record {
  alike : HoldAlike l.ranges (take l.guard-index l.guards) l.room.items;
  small : AllSmallForms l.room.items;
  fewer : length l.room.items ≤ l.guard-index;
}
