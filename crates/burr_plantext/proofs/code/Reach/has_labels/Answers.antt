-- A label that is not there is one of all.
use Rattle.std.proofs.Common.{arith, sym, ◌∙◌}
use Rattle.std.proofs.lemmas.Bool.{false≢true}
use Rattle.std.proofs.lemmas.Option.{none-some}
use Rattle.burr_plantext.proofs.Steps.{got_at}
use Rattle.burr_plantext.proofs.Offers.{all_fails}
use Rattle.burr_plantext.proofs.code.Reach.has_labels.Goals as goal
use Rattle.burr_plantext.proofs.code.Reach.has_labels.Goals.{in-Some, in_default-2, in_default}

pub returns-then-not-matches : goal.returns-then-not-matches
returns-then-not-matches c =
    let labels = c.args.labels.now in
    let n = c.loop-n.n in
    let (label, here) = got_at labels n (omega (arith, c.loop-n-test.true, c.len-n-end.ensures.count)) in
    elim c.match-matches.branch [
      | in-Some w ↦ absurd (false≢true (sym c.if-not-matches.true ∙ w.matches-is))
      | in_default-2 w ↦
          all_fails labels c.args.self.labels n w.in-Some.label (sym c.get.ensures ∙ w.in-Some.is) (omega (arith, w.from.ensures)) c.loop-n.invariant
      | in_default w ↦ absurd (none-some label (sym w.in_default.is ∙ c.get.ensures ∙ here))
    ]
