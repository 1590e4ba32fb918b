use Rattle.std.proofs.Common.{rules, refl, inl, inr}
use Rattle.burr_state.proofs.Offers.{labelled_all, one_missing}
use Rattle.burr_text.proofs.Common.Tests.{yes_of, no_of}
use Rattle.burr_state.proofs.state.BenchState.pick.Goals as goal

pub returns-then-not-has_labels : goal.returns-then-not-has_labels
returns-then-not-has_labels c =
    let none = one_missing c.args.procedure.now.labels c.args.labels.now (no_of c.if-not-has_labels.ensures) in
    record { next = inl (none, refl); kept = search rules; no_motion = search rules; stays = search rules }

pub returns : goal.returns
returns c =
    let to = labelled_all c.args.procedure.now.labels c.args.labels.now (yes_of c.if-not-has_labels.ensures) in
    record {
      next = inr (to.0, to.1, search rules);
      kept = search rules;
      no_motion = search rules;
      stays = search rules;
    }
