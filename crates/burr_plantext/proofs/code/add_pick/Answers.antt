-- The next label is written.
use Rattle.std.proofs.Common.{◌≡◌, ◌++◌, ◌+◌, arith, rules, codes, sym, ◌∙◌}
use Rattle.burr_plantext.proofs.Steps.{one_more, got_at}
use Rattle.burr_plantext.proofs.Offers.{pick_begun, next_offered}
use Rattle.burr_plantext.proofs.code.add_pick.Goals as goal
use Rattle.burr_plantext.proofs.code.add_pick.Goals.{in-Some+in_ok-add_number, in_default}

pub loop-n-init : goal.loop-n-init
loop-n-init c =
    let begun : c.extend_from_slice.new.self.items ≡ c.args.text.now.items ++ codes "pick" =
    search rules in
    rw begun (pick_begun c.args.text.now.items c.args.labels.now)

pub loop-n-preserved : goal.loop-n-preserved
loop-n-preserved c =
    let n = c.loop-n.n in
    let labels = c.args.labels.now in
    let (label, here) = got_at labels n (omega (arith, c.loop-n-test.true, c.len-n-end.ensures.count)) in
    elim c.match-get.branch [
      | in-Some+in_ok-add_number w ↦
          rw (w.text-is, w.in_ok-add_number.ensures)
          (one_more c.loop-n.text.items _ _ _ _ c.loop-n.invariant
          (next_offered labels n (n + 1) w.in-Some.label (omega arith) (sym c.get.ensures ∙ w.in-Some.is)))
      | in_default w ↦ absurd (w.in_default.not-Some label (c.get.ensures ∙ here))
    ]
