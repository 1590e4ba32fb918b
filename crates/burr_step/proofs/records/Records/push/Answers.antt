use Rattle.std.proofs.Common.{ap, ◌∙◌, ℕ}
use Rattle.burr_state.specs.Rules.Undo.{Undo}
use Rattle.std.specs.Prelude.{reverse, ◌++◌, ◌∷◌, []}
use Rattle.circular_buffer.specs.Buffer.{Buffer, keep_last}
use Rattle.burr_step.proofs.Lists.{pushed}
use Rattle.burr_step.proofs.records.Records.push.Goals as goal

pub returns : goal.returns
returns c =
    let old = c.self.inside.ring.items in
    rw (← c.self.view_is) (
    ap (λ (b : Buffer Undo). reverse b.items) c.push_back.ensures.items
    ∙ ap (λ (n : ℕ). reverse (keep_last n (old ++ c.args.undo ∷ []))) c.self.invariant
    ∙ pushed 256 old c.args.undo)
