-- One guard more is put into the room, or left out.
use Rattle.std.proofs.Common.{rules, List, subst, arith}
use Rattle.std.proofs.lemmas.List.{take_all, length_push}
use Rattle.std.proofs.lemmas.List.Elements.{All-push}
use Rattle.burr_forms.specs.Rules.Forms.{Form, IsSmallForm}
use Rattle.burr_forms.specs.Views.Searching.{HoldAlike}
use Rattle.burr_forms.proofs.Search.{no_true}
use Rattle.burr_forms.proofs.Cutting.{alike_kept, alike_left_out}
use Rattle.burr_forms.proofs.searching.cutting_guards.Goals as goal
use Rattle.burr_forms.proofs.searching.cutting_guards.Goals.{then-is_negative_in, else-is_negative_in}

pub loop-guard-preserved : goal.loop-guard-preserved
loop-guard-preserved c =
    let i = c.loop-guard.guard-index in
    let guard = c.guard-item.result in
    elim c.if-is_negative_in.branch [
      | then-is_negative_in w ↦ rw (w.room-is, w.push.ensures.items) (record {
        alike = alike_kept c.args.ranges.now c.args.guards.now c.loop-guard.room.items i guard c.loop-guard-test.true c.guard-item.is c.loop-guard.invariant.alike;
        small = All-push IsSmallForm c.loop-guard.room.items guard c.loop-guard.invariant.small (search rules);
        fewer = omega (arith, length_push c.loop-guard.room.items guard);
      })
      | else-is_negative_in w ↦ rw w.room-is (record {
        alike = alike_left_out c.args.ranges.now c.args.guards.now c.loop-guard.room.items i guard c.loop-guard-test.true c.guard-item.is c.loop-guard.invariant.alike
            (λ n. no_true c.is_negative_in.result w.if-is_negative_in.false (c.is_negative_in.ensures.1 n));
        small = c.loop-guard.invariant.small;
        fewer = omega arith;
      })
    ]

pub returns-clause-alike : goal.returns-clause-alike
returns-clause-alike c =
    rw c.as_slice.ensures.value (subst (λ (gs : List Form). HoldAlike c.args.ranges.now gs c.loop-guard.room.items)
    (take_all c.loop-guard.guard-index c.args.guards.now c.loop-guard-test.false) c.loop-guard.invariant.alike)
