use Rattle.std.proofs.Common.{rules, ◌≡◌, ◌<◌, ℕ, length, ◌∙◌, subst}
use Rattle.burr_container.specs.Rules.Plans.{Frame}
use Rattle.burr_state.specs.Views.Programs.{procedure_of}
use Rattle.burr_state.proofs.Programs.{made_next, made_all, some_at}
use Rattle.burr_state.proofs.program.Procedure.of.Goals as goal

pub loop-label-preserved : goal.loop-label-preserved
loop-label-preserved c = (
  search rules,
  λ p q is at.
      let more : c.loop-label.label < length q.labels = subst (λ n. c.loop-label.label < n) (c.label_count-label-end.ensures.plan p q is at) c.loop-label-test.true in
      let label = some_at q.labels c.loop-label.label more in
      c.push.ensures.items ∙ made_next (λ (l : ℕ × Frame). l.0) q.labels c.loop-label.label label.0 c.loop-label.labels.items c.label.result label.1 (c.loop-label.invariant.1 p q is at) (c.label.ensures p q is at label.0 label.1),
)

pub returns : goal.returns
returns c p q is at =
    let all : c.loop-label.label ≡ length q.labels = search rules in
    let made = made_all (λ (l : ℕ × Frame). l.0) q.labels c.loop-label.label c.loop-label.labels.items all (c.loop-label.invariant.1 p q is at) in
    λ i. procedure_of (c.params.ensures.plan p q is at i) (c.results.ensures.plan p q is at i) (made i) (c.code.ensures.plan p q is at i)
