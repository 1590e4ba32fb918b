-- The parameters and the results, and what follows by them.
use Rattle.std.proofs.Common.{◌≡◌, ◌∙◌, ℕ, List, length, drop, ap, subst, Some}
use Rattle.std.specs.Prelude.{reverse}
use Rattle.burr_code.specs.Stacks.{top_many}
use Rattle.burr_forms.specs.Rules.Forms.{Form}
use Rattle.burr_container.specs.Views.Refs.{parameters_of}
use Rattle.burr_frames.specs.declared.rule.Rule.TheVariants as rules
use Rattle.burr_frames.specs.Rules.FramedPlans.{FramedExit}
use Rattle.burr_frames.specs.Rules.ControlRules.{first_forms}
use Rattle.burr_frames.specs.Views.Exits.{framed_ref, meeting_exit_with, miss_verdict}
use Rattle.burr_frames.proofs.CallReturns.{meeting_exit_on}
use Rattle.burr_frames.proofs.state.meeting.meets_exit.Goals as goal

abbrev results_of : FramedExit → ℕ
results_of exit = length exit.results

pub returns : goal.returns
returns c =
    let s = c.args.state.now in
    let exit = framed_ref c.args.exit.now in
    let v = miss_verdict rules.ExitMissed c.meets_exit_with.result in
    let forms = c.in-Some.forms.items in
    let results = c.in-Some-top_many.results.items in
    let many : c.len.result ≡ length exit.results = c.len.ensures.value ∙ ap results_of (c.exit.view_is ∙ c.of-exit.ensures.exit) in
    let known = subst (λ n. first_forms n s.slots ≡ Some forms) c.parameters.ensures.count c.in-Some.ensures.0 in
    let enough = subst (λ n. top_many n s.operands ≡ Some (reverse results, drop c.len.result s.operands)) many c.in-Some-top_many.ensures.operands.0 in
    meeting_exit_on s exit (parameters_of c.args.exit.now) forms results (drop c.len.result s.operands) v known enough
    (subst (λ (e : FramedExit). meeting_exit_with s e forms results v) c.of-exit.ensures.exit
    (subst (λ (fs : List Form). meeting_exit_with s c.of-exit.result fs results v) c.as_slice.ensures.value
    (subst (λ (fs : List Form). meeting_exit_with s c.of-exit.result c.as_slice.result.now fs v) c.as_slice-2.ensures.value c.meets_exit_with.ensures)))
