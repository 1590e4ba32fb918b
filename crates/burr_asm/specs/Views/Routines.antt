-- Procedures and plans as far as the code has read them.
use Rattle.std.specs.Prelude.{◌≡◌, ◌⊎◌, ℕ, List, [], ◌∷◌, ◌++◌, length, map, Option, Some, None, Bool, true, false, not, ◌&&◌, ◌==◌, nat_lt, if◌then◌else◌}
use Rattle.burr_code.specs.declared.limits.TheConstants.{MOST_LABELS, MOST_PROCEDURES, MOST_PARAMETERS}
use Rattle.burr_container.specs.Rules.Plans.{Frame, ExitFrame, PlanProcedure, Plan}
use Rattle.burr_plantext.specs.Rules.Written.{natural_in, is_within}
use Rattle.burr_plantext.specs.Rules.Lines.{PlanWords, ProcedureWords}
use Rattle.burr_plantext.specs.Rules.Checks.{FaultKind, P2, P3, P4, unless, is_empty, is_known, is_result_count}
use Rattle.burr_asm.specs.declared.fault.AsmFault.{AsmFault}
use Rattle.burr_asm.specs.declared.fault.AsmFault.TheVariants as fault
use Rattle.burr_asm.specs.declared.text.signature.Signature.{Signature}
use Rattle.burr_asm.specs.Views.CodeParts.{CodeParts, no_code, code_of_all, first_unknown}

-- Procedures

-- what the code has of a procedure
pub record RoutineParts : Type 0 where
  pub signature : Signature
  pub exit : Option ExitFrame
  -- of its labels
  pub names : List (List ℕ)
  -- of those whose frame has been read: the position and the frame
  pub labels : List (ℕ × Frame)
  -- the line of the last label
  pub last : ℕ
  pub code : CodeParts

-- a procedure whose first line has been read, and no other
abbrev pub begun : Signature → RoutineParts
begun signature = record {
  signature = signature;
  exit = None;
  names = [];
  labels = [];
  last = 0;
  code = no_code;
}

-- the last of the labels stands at this position
abbrev pub ends_at : ℕ → List (ℕ × Frame) → Bool
ends_at size [] = false
ends_at size (label ∷ []) = label.0 == size
ends_at size (label ∷ next ∷ labels) = ends_at size (next ∷ labels)

-- the last label has no code after it
abbrev pub ends_with_label : RoutineParts → Bool
ends_with_label r = ends_at r.code.size r.labels

-- what is wrong with one label more
abbrev pub label_refusal : RoutineParts → List ℕ → Option FaultKind
label_refusal r name =
    unless (not (is_known r.names name)) P2
    (unless (nat_lt (length r.names) MOST_LABELS && not (ends_with_label r)) P4 None)

-- the procedure with that label, whose frame is to come
abbrev pub with_label : RoutineParts → List ℕ → ℕ → RoutineParts
with_label r name line = record r { names = r.names ++ name ∷ []; last = line }

-- the procedure with the frame of its last label
abbrev pub with_frame : RoutineParts → Frame → RoutineParts
with_frame r frame = record r { labels = r.labels ++ (r.code.size, frame) ∷ [] }

-- the procedure of a plan, where procedures have these names
abbrev pub procedure_of : RoutineParts → List (List ℕ) → PlanProcedure
procedure_of r procedures = record {
  parameters = r.signature.parameters;
  results = r.signature.results;
  exit = r.exit;
  labels = r.labels;
  code = code_of_all r.names procedures r.code.statements;
}

-- Plans

-- what the code has of a plan
pub record OutlineParts : Type 0 where
  pub version : ℕ
  pub name : List ℕ
  pub pieces : ℕ
  pub budget : ℕ
  -- of all procedures that have begun
  pub names : List (List ℕ)
  -- the procedures that have ended
  pub ended : List RoutineParts

-- a plan whose first line has been read, and no other
abbrev pub titled_outline : PlanWords → OutlineParts
titled_outline t = record {
  version = t.version;
  name = t.name;
  pieces = natural_in t.pieces;
  budget = natural_in t.budget;
  names = [];
  ended = [];
}

-- the numbers of parameters and of results are in their ranges; main, which is first, has neither
abbrev pub are_counts : OutlineParts → ProcedureWords → Bool
are_counts o h =
    is_within 0 (if is_empty o.ended then 0 else MOST_PARAMETERS) h.parameters
    && is_result_count (if is_empty o.ended then 0 else 2) h.results

-- what is wrong with the first line of one procedure more
abbrev pub head_refusal : OutlineParts → ProcedureWords → Option FaultKind
head_refusal o h =
    unless (not (is_known o.names h.name)) P2
    (unless (are_counts o h) P3
    (unless (nat_lt (length o.names) MOST_PROCEDURES) P4 None))

-- the plan with that procedure begun
abbrev pub with_name : OutlineParts → List ℕ → OutlineParts
with_name o name = record o { names = o.names ++ name ∷ [] }

-- the plan with a procedure that has ended
abbrev pub with_routine : OutlineParts → RoutineParts → OutlineParts
with_routine o r = record o { ended = o.ended ++ r ∷ [] }

-- memory is wanting, or the procedure's last label has no code after it
abbrev pub IsLabelAtEnd : RoutineParts → AsmFault → Type 0
IsLabelAtEnd r e = (e ≡ fault.Memory) ⊎ ((ends_with_label r ≡ true) × (e ≡ fault.P4 r.last))

-- this line, or else another one
abbrev pub line_or : Option ℕ → Option ℕ → Option ℕ
line_or None other = other
line_or (Some line) other = Some line

-- the line of the first unknown name in procedures
abbrev pub unknown_among : List (List ℕ) → List RoutineParts → Option ℕ
unknown_among procedures [] = None
unknown_among procedures (r ∷ routines) =
    line_or (first_unknown r.names procedures r.code.statements)
    (unknown_among procedures routines)

-- the same of the plan
abbrev pub unknown_line : OutlineParts → Option ℕ
unknown_line o = unknown_among o.names o.ended

-- the procedures of the plan
abbrev pub procedures_of : List (List ℕ) → List RoutineParts → List PlanProcedure
procedures_of procedures routines = map (λ (r : RoutineParts). procedure_of r procedures) routines

-- the plan
abbrev pub plan_of_outline : OutlineParts → Plan
plan_of_outline o = record {
  version = o.version;
  name = o.name;
  pieces = o.pieces;
  budget = o.budget;
  procedures = procedures_of o.names o.ended;
}
