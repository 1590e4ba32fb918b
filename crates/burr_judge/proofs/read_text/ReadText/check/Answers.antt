-- The tables are those of the text's assembly.
use Rattle.std.proofs.Common.{◌≡◌, List, ℕ, inr, subst}
use Rattle.std.specs.Prelude.{Result}
use Rattle.burr_io.specs.Sink.{SinkView}
use Rattle.burr_assembly.specs.Rules.Text.{Assembly, IsText}
use Rattle.burr_judge.specs.declared.plan_input.PlanInput.{PlanInput}
use Rattle.burr_judge.specs.declared.status.Status.{Status}
use Rattle.burr_judge.specs.declared.stop.Stop.{Stop}
use Rattle.burr_judge.specs.PlanEnds.{CheckEnds, CheckTextEnds, InputEnds, never}
use Rattle.burr_judge.specs.Stops.{ResultOn}
use Rattle.burr_judge.proofs.Common.Results.{comes_among}
use Rattle.burr_judge.proofs.read_text.ReadText.check.Goals as goal

of_text : {S : Type 0} (sink : SinkView S) (before after : S) (plan : PlanInput) (r : Result Status Stop) (held text : List ℕ) (a : Assembly) → IsText held a → held ≡ text
    → ResultOn sink before after (InputEnds plan (λ kept. CheckEnds kept a)) never r → ResultOn sink before after (CheckTextEnds text plan) never r
of_text sink before after plan r held text a is same =
    comes_among (λ output status ends. inr (a, subst (λ (t : List ℕ). IsText t a) same is, ends)) (λ line breaks. breaks)

pub returns-in-Some : goal.returns-in-Some
returns-in-Some g c =
    of_text g.W.Sink c.args.sink.now c.check_input.new.sink c.args.plan c.check_input.result _ _ _ (c.self.invariant c.in-Some.tables c.in-Some.is) c.self.view_is c.check_input.ensures
