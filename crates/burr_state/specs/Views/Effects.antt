-- What the code's instructions came to.
use Rattle.std.specs.Prelude.{◌≡◌, ◌⊎◌, ◌+◌, ◌-◌, ◌≤◌, ◌<◌, ◌++◌, ℕ, ℤ, pos, List, [], ◌∷◌, map, take, drop, length, replicate, Bool, true, false, Option, Some, None, Result, MatchResult, Ok, Err, slice_get}
use Rattle.burr_code.specs.Instruction.{Instruction, Ask, IsInRange, spelled}
use Rattle.burr_code.specs.Places.{AllLieIn}
use Rattle.burr_code.specs.Stacks.{top_many}
use Rattle.burr_code.specs.Labels.{argument_slots}
use Rattle.burr_code.specs.declared.limits.TheConstants.{MOST_CODE, SLOTS}
use Rattle.burr_state.specs.declared.effect.Trap.{Trap}
use Rattle.burr_state.specs.declared.effect.Trap.TheVariants as traps
use Rattle.burr_state.specs.declared.effect.Motion.{Motion}
use Rattle.burr_state.specs.declared.effect.Effect.{Effect}
use Rattle.burr_state.specs.declared.effect.Effect.TheVariants as effects
use Rattle.burr_state.specs.Rules.Bench.{Activation, activation, BenchState, BenchProcedure}
use Rattle.burr_state.specs.Rules.Next.{Next, Goes, Asks, Traps, after, at_label}
use Rattle.burr_state.specs.Rules.Numbers.{HasRoom, pushed, with_operands}
use Rattle.burr_state.specs.Rules.Questions.{Fits}
use Rattle.burr_state.specs.Views.Programs.{HasLabels, HasRoomFor, FitsProgram}

-- what an instruction came to, and the state after it
abbrev pub next_of : Result Effect Trap → BenchState → Next
next_of (Ok (effects.Goes motion)) new = Goes new motion
next_of (Ok (effects.Asks low high)) new = Asks low high
next_of (Err trap) new = Traps trap

-- the motion that an instruction made
abbrev pub motion_made : Result Effect Trap → Option Motion
motion_made (Ok (effects.Goes motion)) = motion
motion_made (Ok (effects.Asks low high)) = None
motion_made (Err trap) = None

-- the question that an instruction came to, by its least and its greatest answer
abbrev pub question_in : Result Effect Trap → Option (ℤ × ℤ)
question_in (Ok (effects.Goes motion)) = None
question_in (Ok (effects.Asks low high)) = Some (low, high)
question_in (Err trap) = None

-- no motion was made
abbrev pub NeverMoves : Result Effect Trap → Type 0
NeverMoves (Ok (effects.Goes motion)) = motion ≡ None
NeverMoves (Ok (effects.Asks low high)) = Unit {0}
NeverMoves (Err trap) = Unit {0}

-- a question and a trap change nothing
abbrev pub KeepsUnlessGoes : {A : Type 0} → Result Effect Trap → A → A → Type 0
KeepsUnlessGoes (Ok (effects.Goes motion)) old new = Unit {0}
KeepsUnlessGoes (Ok (effects.Asks low high)) old new = new ≡ old
KeepsUnlessGoes (Err trap) old new = new ≡ old

-- no piece moved, and the grip lies in the current tray
pub record PiecesStay (old new : BenchState) : Type 0 where
  pub places : new.places ≡ old.places
  pub here : AllLieIn new.places new.tray new.grip

-- nothing was called and nothing returned
pub record StaysWithin (old new : BenchState) : Type 0 where
  pub procedure : new.running.procedure ≡ old.running.procedure
  pub callers : new.callers ≡ old.callers

-- no piece moved, the grip lies in the current tray, and nothing was called or returned
pub record ChoosesPieces (old new : BenchState) : Type 0 where
  pub pieces : PiecesStay old new
  pub within : StaysWithin old new

-- no piece, tray or grip changed, and nothing was called or returned
pub record StaysPut (old new : BenchState) : Type 0 where
  pub places : new.places ≡ old.places
  pub tray : new.tray ≡ old.tray
  pub grip : new.grip ≡ old.grip
  pub within : StaysWithin old new

-- where a step was made, nothing was called or returned, and the grip lies in the current tray
abbrev pub StaysWhereGoes : Result Effect Trap → BenchState → BenchState → Type 0
StaysWhereGoes (Ok (effects.Goes motion)) old new = ChoosesPieces old new
StaysWhereGoes (Ok (effects.Asks low high)) old new = Unit {0}
StaysWhereGoes (Err trap) old new = Unit {0}

-- an instruction with this rule was carried out, which moves no piece, and neither calls nor returns
pub record CarriedOut (Rule : Next → Type 0) (result : Result Effect Trap) (old new : BenchState)
    : Type 0 where
  pub next : Rule (next_of result new)
  pub kept : KeepsUnlessGoes result old new
  pub no_motion : NeverMoves result
  pub stays : StaysWhereGoes result old new

-- the instruction, of `size` bytes, is read where the run stands
pub record IsRead (s : BenchState) (i : Instruction) (size : ℕ) : Type 0 where
  pub in_range : IsInRange i
  pub spelled_in : size ≡ length (spelled i)
  pub within : s.running.pc + size ≤ MOST_CODE

-- no piece moved, the grip lies in the current tray, and the state still fits what is run
pub record StaysFitting (procedures : List BenchProcedure) (old new : BenchState) : Type 0 where
  pub pieces : PiecesStay old new
  pub fits : FitsProgram procedures new

-- slots with these numbers in the first of them
abbrev pub slots_with : List ℤ → List (Option ℤ)
slots_with numbers = map Some numbers ++ replicate (SLOTS - length numbers) None

-- a procedure with this many parameters and results is called: its activation, and its caller
-- without the arguments
pub record IsCalledFor (old : Activation) (procedure parameters results : ℕ)
    (begun left : Activation) : Type 0 where
  pub enough : top_many parameters old.operands
      ≡ Some (take parameters old.operands, drop parameters old.operands)
  pub room : HasRoomFor results left
  pub callee : begun ≡ activation procedure 0 (argument_slots (take parameters old.operands)) []
  pub caller : left ≡ with_operands (drop parameters old.operands) old

-- the procedure can't be called, and this trap tells why: the first that applies
abbrev pub CannotBeCalled : Activation → ℕ → ℕ → Trap → Type 0
CannotBeCalled old parameters results trap =
    ((top_many parameters old.operands ≡ None) × (trap ≡ traps.MissingOperand))
    ⊎ ((top_many parameters old.operands
    ≡ Some (take parameters old.operands, drop parameters old.operands))
    × (¬ (length (drop parameters old.operands) + results ≤ 8)) × (trap ≡ traps.StackFull))

-- the procedure is called, or it can't be called and nothing changes
abbrev pub CallsFor : Activation → ℕ → ℕ → ℕ → Result Activation Trap → Activation → Type 0
CallsFor old procedure parameters results called new =
    MatchResult called (λ begun. IsCalledFor old procedure parameters results begun new)
    (λ trap. CannotBeCalled old parameters results trap × (new ≡ old))

-- the nearest caller, if one waits, has room for this many results
abbrev pub CallerHasRoom : ℕ → List Activation → Type 0
CallerHasRoom results [] = Unit {0}
CallerHasRoom results (caller ∷ callers) = HasRoomFor results caller

-- the nearest caller goes on, and the others wait
pub record CallerGoesOn (old new : BenchState) : Type 0 where
  pub caller : Activation
  pub callers : old.callers ≡ caller ∷ new.callers
  pub procedure : new.running.procedure ≡ caller.procedure
  pub lower : caller.procedure < old.running.procedure

-- a number that answers `ask`: it is taken where there is room and it fits, else nothing changes
abbrev pub TakesNumber : BenchState → ℤ → ℤ → ℤ → Bool → BenchState → Type 0
TakesNumber s low high answer true new =
    HasRoom s.running × Fits low high answer
    × (new ≡ after (Ask low high) (pushed answer s.running) s)
TakesNumber s low high answer false new =
    (¬ (HasRoom s.running × Fits low high answer)) × (new ≡ s)

-- the answer numbers one of these labels, which stands at this position
abbrev pub PicksAt : List ℕ → List ℕ → ℤ → ℕ → Type 0
PicksAt positions labels answer to =
    (n label : ℕ) × (answer ≡ pos n) × (slice_get labels n ≡ Some label)
    × (slice_get positions label ≡ Some to)

abbrev pub IsPicked : List ℕ → List ℕ → ℤ → Type 0
IsPicked positions labels answer = (to : ℕ) × PicksAt positions labels answer to

-- a number that answers `pick`: the run goes on at its label, where all labels are there and it is
-- one of them, else nothing changes
abbrev pub TakesLabel : BenchProcedure → BenchState → List ℕ → ℤ → Bool → BenchState → Type 0
TakesLabel here s labels answer true new =
    HasLabels here.labels labels
    × ((to : ℕ) × PicksAt here.labels labels answer to × (new ≡ at_label to s.running s))
TakesLabel here s labels answer false new =
    (¬ (HasLabels here.labels labels × IsPicked here.labels labels answer)) × (new ≡ s)
