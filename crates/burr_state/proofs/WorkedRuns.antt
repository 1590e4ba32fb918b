-- Whole runs of two cubes side by side, computed of the definitions.
use Rattle.std.proofs.Common.{◌≡◌, ◌≤◌, ℕ, List, [], ◌∷◌, map, refl, inl, inr, arith, lit<, lit≤, true}
use Rattle.std.specs.Prelude.{Some, None, replicate}
use Rattle.burr_voxels.specs.declared.cell.Cell.{Cell}
use Rattle.burr_voxels.specs.declared.direction.Direction.TheVariants.{PlusX, MinusX}
use Rattle.burr_voxels.specs.Grid.{origin}
use Rattle.burr_code.specs.declared.placement.Placement.{Placement}
use Rattle.burr_code.specs.declared.placement.Placement.TheVariants.{On}
use Rattle.burr_code.specs.Instruction.{Halt, Grip, Aside}
use Rattle.burr_state.specs.declared.effect.Mode.TheVariants.{Running, Ended}
use Rattle.burr_state.specs.declared.effect.Trap.TheVariants.{NotFree, GripOff}
use Rattle.burr_state.specs.declared.effect.Closing.TheVariants as closings
use Rattle.burr_state.specs.Rules.Bench.{BenchState, Setup, start, activation, bare, bare_procedure}
use Rattle.burr_state.specs.Rules.Next.{Goes, Traps}
use Rattle.burr_state.specs.Rules.Space.{motion_of}
use Rattle.burr_state.specs.Rules.Step.{NextIs}
use Rattle.burr_state.specs.Rules.Run.{Run, ends, traps, goes, IsGoing}
use Rattle.burr_state.proofs.Common.TwoCubes.{homes, far_homes, both_here, both_apart, one_some, a_lies, b_stays, tray_is_free, both_are_apart, group_is_free, group_is_blocked, group_is_blocked_far, a_is_gone}

-- Code

-- grip A
abbrev grip_a : List ℕ → List ℕ
grip_a rest = 0x10 ∷ 0 ∷ 0 ∷ 0 ∷ 1 ∷ rest

-- aside -x 1
abbrev aside_back : List ℕ → List ℕ
aside_back rest = 0x12 ∷ 1 ∷ 1 ∷ rest

-- aside +x 1
abbrev aside_on : List ℕ → List ℕ
aside_on rest = 0x12 ∷ 0 ∷ 1 ∷ rest

-- halt
abbrev halt : List ℕ
halt = 0x00 ∷ []

abbrev apart : Setup
apart = bare homes (grip_a (aside_back halt))

abbrev blocked : Setup
blocked = bare homes (grip_a (aside_on halt))

-- the same, with B three units away
abbrev far : Setup
far = bare far_homes (grip_a (aside_on halt))

abbrev again : Setup
again = bare homes (grip_a (aside_back (grip_a halt)))

-- States

abbrev gripped : BenchState
gripped = record { places = both_here; tray = 0; grip = 1; running = activation 0 5 (replicate 8 None) []; callers = []; steps = 1; mode = Running }

abbrev taken : BenchState
taken = record { places = both_apart; tray = 0; grip = 0; running = activation 0 8 (replicate 8 None) []; callers = []; steps = 2; mode = Running }

abbrev ended : BenchState
ended = record { places = both_apart; tray = 0; grip = 0; running = activation 0 8 (replicate 8 None) []; callers = []; steps = 3; mode = Ended }

-- Steps

abbrev at_home : List Cell → Placement Cell
at_home cells = On 0 origin

grips : (cells : List (List Cell)) (rest : List ℕ) → map at_home cells ≡ both_here
    → NextIs (bare cells (grip_a rest)) (start (bare cells (grip_a rest))) (Goes gripped None)
grips cells rest two =
    rw two (inl (bare_procedure (grip_a rest), Grip 1, (refl, record { in_range = (one_some, lit< tt); begins = (rest, refl) }), inr (a_lies, refl)))

takes_aside : (rest : List ℕ) → NextIs (bare homes (grip_a (aside_back rest))) gripped (Goes taken (Some (motion_of 1 0 MinusX true)))
takes_aside rest =
    inl (
      bare_procedure (grip_a (aside_back rest)),
      Aside MinusX 1,
      (refl, record { in_range = lit< tt; begins = (rest, refl) }),
      inr (b_stays, inr (tray_is_free, inr (group_is_free, refl))),
    )

is_stuck : NextIs blocked gripped (Traps NotFree)
is_stuck =
    inl (
      bare_procedure (grip_a (aside_on halt)),
      Aside PlusX 1,
      (refl, record { in_range = lit< tt; begins = (halt, refl) }),
      inr (b_stays, inr (tray_is_free, inl (group_is_blocked, refl))),
    )

is_stuck_far : NextIs far gripped (Traps NotFree)
is_stuck_far =
    inl (
      bare_procedure (grip_a (aside_on halt)),
      Aside PlusX 1,
      (refl, record { in_range = lit< tt; begins = (halt, refl) }),
      inr (b_stays, inr (tray_is_free, inl (group_is_blocked_far, refl))),
    )

grips_nothing : NextIs again taken (Traps GripOff)
grips_nothing =
    inl (
      bare_procedure (grip_a (aside_back (grip_a halt))),
      Grip 1,
      (refl, record { in_range = (one_some, lit< tt); begins = (halt, refl) }),
      inl (a_is_gone, refl),
    )

halts : NextIs apart taken (Goes ended None)
halts =
    inl (bare_procedure (grip_a (aside_back halt)), Halt, (refl, record { in_range = tt; begins = ([], refl) }), inr (refl, inr (both_are_apart, refl)))

going : (s : BenchState) → s.mode ≡ Running → s.steps ≤ 2 → IsGoing 1000000 s
going s running few = record { running = running; within = λ all. omega (arith, few, all) }

-- Runs

-- A goes out by -x, and both are apart
pub comes_apart : Run apart 1000000 (start apart) [] (motion_of 1 0 MinusX true ∷ []) 3 closings.Apart
comes_apart =
    goes (start apart) gripped None [] (motion_of 1 0 MinusX true ∷ []) 3 closings.Apart (going _ refl (lit≤ tt)) (grips homes _ refl)
    (goes gripped taken (Some (motion_of 1 0 MinusX true)) [] [] 3 closings.Apart (going _ refl (lit≤ tt)) (takes_aside _)
    (goes taken ended None [] [] 3 closings.Apart (going _ refl (lit≤ tt)) halts (ends ended [] refl)))

-- B is in A's way along +x
pub is_blocked : Run blocked 1000000 (start blocked) [] [] 1 (closings.Trapped NotFree 0 5)
is_blocked =
    goes (start blocked) gripped None [] [] 1 (closings.Trapped NotFree 0 5) (going _ refl (lit≤ tt)) (grips homes _ refl)
    (traps gripped [] NotFree (going _ refl (lit≤ tt)) is_stuck)

-- and it is in the way three units off
pub is_blocked_far : Run far 1000000 (start far) [] [] 1 (closings.Trapped NotFree 0 5)
is_blocked_far =
    goes (start far) gripped None [] [] 1 (closings.Trapped NotFree 0 5) (going _ refl (lit≤ tt)) (grips far_homes _ refl)
    (traps gripped [] NotFree (going _ refl (lit≤ tt)) is_stuck_far)

-- a piece that is apart is not gripped again
pub is_not_gripped_again : Run again 1000000 (start again) [] (motion_of 1 0 MinusX true ∷ []) 2 (closings.Trapped GripOff 0 8)
is_not_gripped_again =
    goes (start again) gripped None [] (motion_of 1 0 MinusX true ∷ []) 2 (closings.Trapped GripOff 0 8) (going _ refl (lit≤ tt)) (grips homes _ refl)
    (goes gripped taken (Some (motion_of 1 0 MinusX true)) [] [] 2 (closings.Trapped GripOff 0 8) (going _ refl (lit≤ tt)) (takes_aside _)
    (traps taken [] GripOff (going _ refl (lit≤ tt)) grips_nothing))
