-- What is found of the frame says the verdict.
use Rattle.std.proofs.Common.{refl}
use Rattle.std.proofs.lemmas.Result.{err_from_is_err_and}
use Rattle.burr_container.specs.Views.Refs.{frame_of}
use Rattle.burr_frames.specs.declared.rule.Rule.TheVariants as rules
use Rattle.burr_frames.specs.Rules.FramedPlans.{framed}
use Rattle.burr_frames.specs.Rules.Verdicts.{NoSuccessor, no_successor}
use Rattle.burr_frames.proofs.Meetings.{meeting_on, meeting_breaks}
use Rattle.burr_frames.proofs.state.meeting.meets_entry.Goals as goal

pub returns-in_err-met : goal.returns-in_err-met
returns-in_err-met c =
    let f = framed (frame_of c.args.frame.now) in
    let failed = err_from_is_err_and c.from_residual.result c.from_residual.ensures.1 in
    rw (failed.1, failed.2) (meeting_breaks c.args.state.now f rules.EntryMissed (λ _. no_successor) _ c.in_err-met.ensures)

pub returns : goal.returns
returns c =
    let f = framed (frame_of c.args.frame.now) in
    meeting_on c.args.state.now f rules.EntryMissed (λ _. no_successor) c.in_ok-met.field-0.items NoSuccessor c.in_ok-met.ensures.0 refl
