-- The whole judgement of a plan: its checks in their order.
use Rattle.std.specs.Prelude.{◌≡◌, ℕ, suc, ◌≤◌, pos, ◌≤ℤ◌, List, [], ◌∷◌, length, Option, Some, None, slice_get}
use Rattle.burr_text.specs.Checks.{needs, finds}
use Rattle.burr_voxels.specs.declared.cell.Cell.{Cell}
use Rattle.burr_forms.specs.declared.limits.TheConstants.{MOST_POINTS}
use Rattle.burr_forms.specs.Rules.Forms.{value}
use Rattle.burr_forms.specs.Rules.Points.{box_size}
use Rattle.burr_container.specs.Rules.Plans.{Frame}
use Rattle.burr_frames.specs.Rules.Arrival.{Meets}
use Rattle.burr_frames.specs.Rules.ControlRules.{entry_of}
use Rattle.burr_frames.specs.Rules.FramedPlans.{FramedExit, FramedProcedure, FramedPlan}
use Rattle.burr_frames.specs.Rules.States.{live_ranges}
use Rattle.burr_verify.specs.Rules.Pass.{Judgement, Passed, Refuses, refused, pass_start, Pass}
use Rattle.burr_frames.specs.Rules.Starts.{start_state}
use Rattle.burr_verify.specs.Rules.WellFramed.{IsFormed, IsFormedEntry, IsFormedExit}
use Rattle.burr_frames.specs.declared.rule.Rule.TheVariants as rules

-- what is to be said where the checks so far hold
abbrev pub Rest : Type 1
Rest = Judgement → Type 0

-- nothing is said
abbrev pub nothing : Rest
nothing answer = ⊥

-- the box of a frame's symbols has room
abbrev pub HasRoomForPoints : Frame → Type 0
HasRoomForPoints f = box_size (live_ranges f.slots) ≤ MOST_POINTS

-- the frames of these labels, in order: each well formed, and then its box
abbrev pub judging_labels : ℕ → ℕ → List (ℕ × Frame) → Rest → Rest
judging_labels n parameters [] rest = rest
judging_labels n parameters (label ∷ labels) rest =
    needs (IsFormed parameters label.1) (refused n label.0 rules.BadFrame)
    (needs (HasRoomForPoints label.1) (refused n label.0 rules.StateTooLarge)
    (judging_labels n parameters labels rest))

-- the same where the first is the entry frame
abbrev pub judging_entry : ℕ → ℕ → List (ℕ × Frame) → Rest → Rest
judging_entry n parameters [] rest = rest
judging_entry n parameters (label ∷ labels) rest =
    needs (IsFormed parameters label.1
    × IsFormedEntry parameters label.1) (refused n label.0 rules.BadFrame)
    (needs (HasRoomForPoints label.1) (refused n label.0 rules.StateTooLarge)
    (judging_labels n parameters labels rest))

-- an exit frame, if there is one
abbrev pub judging_exit : ℕ → Option FramedExit → Rest → Rest
judging_exit n None rest = rest
judging_exit n (Some f) rest = needs (IsFormedExit f) (refused n 0 rules.BadFrame) rest

-- the frames of these procedures, numbered from n
abbrev pub judging_frames : ℕ → List FramedProcedure → Rest → Rest
judging_frames n [] rest = rest
judging_frames n (here ∷ procedures) rest =
    judging_exit n here.exit
    (judging_entry n here.parameters here.labels
    (judging_frames (suc n) procedures rest))

-- the start against main's entry frame
abbrev pub judging_start : List (List Cell) → FramedPlan → Rest → Rest
judging_start homes plan rest =
    finds (slice_get plan.procedures 0) (refused 0 0 rules.BadFrame) λ main.
    finds (entry_of main) (refused 0 0 rules.BadFrame) λ f.
    needs (Meets (start_state homes) f) (refused 0 0 rules.BadFrame)
    (needs (value [] f.cost ≤ℤ pos plan.budget) (refused 0 0 rules.BudgetTooLow)
    rest)

-- what follows a judgement: the rest, or the refusal
abbrev pub go_on : Judgement → Rest → Rest
go_on Passed rest = rest
go_on (Refuses refusal) rest = λ answer. answer ≡ Refuses refusal

-- the passes over these procedures, numbered from n
abbrev pub judging_code : List (List Cell) → FramedPlan → ℕ → List FramedProcedure → Rest → Rest
judging_code homes plan n [] rest = rest
judging_code homes plan n (here ∷ procedures) rest = λ answer.
    (j : Judgement) × Pass homes plan n here pass_start j
    × go_on j (judging_code homes plan (suc n) procedures rest) answer

abbrev pub passes : Rest
passes answer = answer ≡ Passed

-- what is judged before the code: the name and the count, the frames, the start
abbrev pub judging_before : List ℕ → List (List Cell) → FramedPlan → Rest → Rest
judging_before name homes plan rest =
    needs ((plan.name ≡ name) × (plan.pieces ≡ length homes)) (refused 0 0 rules.OtherAssembly)
    (judging_frames 0 plan.procedures
    (judging_start homes plan
    rest))

-- The whole judgement of a plan for these pieces.
abbrev pub Judging : List ℕ → List (List Cell) → FramedPlan → Rest
Judging name homes plan =
    judging_before name homes plan (judging_code homes plan 0 plan.procedures passes)
