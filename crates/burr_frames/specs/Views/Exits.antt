-- Exit frames that are read in place, and what meets one.
use Rattle.std.specs.Prelude.{⊤, ℕ, List, length, reverse, Result, Ok, Err, option_map}
use Rattle.burr_text.specs.Checks.{needs, finds}
use Rattle.burr_code.specs.Stacks.{top_many}
use Rattle.burr_forms.specs.Rules.Forms.{Form}
use Rattle.burr_container.specs.declared.frame_ref.ExitRef.{ExitRef}
use Rattle.burr_container.specs.Views.Refs.{exit_frame_of}
use Rattle.burr_frames.specs.declared.rule.Rule.{Rule}
use Rattle.burr_frames.specs.declared.rule.Rule.TheVariants as rules
use Rattle.burr_frames.specs.declared.state.meeting.Miss.{Miss}
use Rattle.burr_frames.specs.Rules.FramedPlans.{FramedExit, framed_exit}
use Rattle.burr_frames.specs.Rules.States.{AbstractState}
use Rattle.burr_frames.specs.Views.Breaks.{missed_break}
use Rattle.burr_frames.specs.Rules.Verdicts.{Rest, Verdict, Breaks, NoSuccessor, plainly, everywhere, no_successor}
use Rattle.burr_frames.specs.Rules.ControlRules.{first_forms, IsAlikeExit, MeetsExitAt}

-- what a frame that was compared by this rule says of the verdict
abbrev pub miss_verdict : Rule → Result ⊤ Miss → Verdict
miss_verdict rule (Ok _) = NoSuccessor
miss_verdict rule (Err miss) =
    Breaks (missed_break rule (option_map (λ point. point.items) miss.point))

-- the exit frame that is read in place, its forms over symbols
abbrev pub framed_ref : ExitRef → FramedExit
framed_ref kept = framed_exit kept.places.live (exit_frame_of kept)

-- the state meets an exit frame with these forms for its parameters and its results
abbrev pub meeting_exit_with : AbstractState → FramedExit → List Form → List Form → Rest
meeting_exit_with s exit parameters results =
    needs (IsAlikeExit s exit) (plainly rules.ExitMissed)
    (everywhere s (MeetsExitAt s exit parameters results) rules.ExitMissed no_successor)

-- The state meets an exit frame over this many parameters: the topmost operands are the results.
abbrev pub meeting_exit : ℕ → AbstractState → FramedExit → Rest
meeting_exit parameters s exit =
    finds (first_forms parameters s.slots) (plainly rules.ExitMissed) λ forms.
    finds (top_many (length exit.results) s.operands) (plainly rules.ExitMissed) λ found.
    meeting_exit_with s exit forms (reverse found.0)
