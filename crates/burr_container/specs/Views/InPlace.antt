-- What stands for the procedures of a plan that are read in place.
use Rattle.std.specs.Prelude.{◌≡◌, ℕ, List, [], ◌∷◌, ◌++◌, length, Option, Some, None, Result, MatchResult, true, IsTrue}
use Rattle.std.specs.Borrow.{Bor}
use Rattle.burr_container.specs.declared.fault.ContainerFault.{ContainerFault}
use Rattle.burr_container.specs.declared.reading.cursor.Cursor.{Cursor}
use Rattle.burr_container.specs.declared.container.Header.{Header}
use Rattle.burr_container.specs.declared.frame_ref.ExitRef.{ExitRef}
use Rattle.burr_container.specs.declared.procedure_ref.StoredProcedure.{StoredProcedure}
use Rattle.burr_container.specs.Rules.Plans.{Frame, ExitFrame, PlanProcedure, exit_symbols}
use Rattle.burr_container.specs.Views.Cuts.{IsCut}
use Rattle.burr_container.specs.Views.Readable.{LabelsView}
use Rattle.burr_container.specs.Rules.Spelling.{front_bytes}
use Rattle.burr_container.specs.Rules.Fitting.{is_version, is_budget, is_piece_count, is_name_text}
use Rattle.burr_container.specs.Rules.Faults.{Part, label, last_label, ProceduresFail, ContainerFails}
use Rattle.burr_container.specs.Views.Refs.{exit_frame_of, parameters_of}

-- the bytes begin with this value of the part
pub record BeginWith {A : Type 0} (part : Part A) (bytes : List ℕ) (a : A) : Type 0 where
  pub rest : List ℕ
  pub fits : IsTrue (part.fits a)
  pub parts : bytes ≡ part.bytes a ++ rest

-- a list for another, element for element
abbrev pub AreFor : {A B : Type 0} → (A → B → Type 0) → List A → List B → Type 0
AreFor Is [] [] = Unit {0}
AreFor Is (x ∷ xs) (y ∷ ys) = Is x y × AreFor Is xs ys
AreFor Is [] (y ∷ ys) = ⊥
AreFor Is (x ∷ xs) [] = ⊥

-- the bytes from a label on, wherever it stands
abbrev pub IsLabel : ℕ → List ℕ → ℕ × Frame → Type 0
IsLabel pieces start l = BeginWith (label (λ position. true) pieces) start l

-- a header stands at the cursor, and after it the next one; how the procedures fail there is how
-- the container fails
pub record IsHeaderAt (cursor : Cursor) (h : Header) (next : Cursor) : Type 0 where
  pub version : IsTrue (is_version h.version)
  pub budget : IsTrue (is_budget h.budget)
  pub pieces : IsTrue (is_piece_count h.pieces)
  pub name : IsTrue (is_name_text h.name.now)
  pub cut : IsCut cursor.at cursor.rest.now
      (front_bytes h.version h.budget h.pieces h.name.now) next.at next.rest.now
  pub fails : (fault : ContainerFault)
      → ProceduresFail h.version h.pieces next.at next.rest.now fault
      → ContainerFails cursor.at cursor.rest.now fault

-- the header is read; or how the container fails
abbrev pub ReadsHeader : (cursor next : Cursor) → Result Header ContainerFault → Type 0
ReadsHeader cursor next result =
    MatchResult result (λ h. IsHeaderAt cursor h next)
    (λ fault. ContainerFails cursor.at cursor.rest.now fault)

-- labels, and the position of the last one
pub record AreLabels (pieces : ℕ) (kept : LabelsView × Option ℕ) (ls : List (ℕ × Frame)) : Type 0
  where
    pub of_plan : kept.0.layout.pieces ≡ pieces
    pub labels : AreFor (IsLabel pieces) kept.0.starts ls
    pub last : kept.1 ≡ last_label ls

-- labels and code
pub record IsBody (pieces : ℕ) (kept : LabelsView × Bor (List ℕ))
    (body : List (ℕ × Frame) × List ℕ) : Type 0 where
  pub of_plan : kept.0.layout.pieces ≡ pieces
  pub labels : AreFor (IsLabel pieces) kept.0.starts body.0
  pub code : kept.1.now ≡ body.1

-- the exit frame of a procedure with this many parameters and results
pub record IsExitFrame (pieces parameters results : ℕ) (kept : ExitRef) (f : ExitFrame) : Type 0
  where
    pub frame : exit_frame_of kept ≡ f
    -- as many as the procedure has
    pub many : length f.results ≡ results
    -- its forms are over as many parameters as the procedure has
    pub over : parameters_of kept ≡ parameters
    pub live : kept.places.live ≡ exit_symbols parameters results
    pub count : kept.places.count ≡ pieces

abbrev pub IsExit : ℕ → ℕ → ℕ → Option ExitRef → Option ExitFrame → Type 0
IsExit pieces parameters results None None = Unit {0}
IsExit pieces parameters results (Some kept) (Some f) =
    IsExitFrame pieces parameters results kept f
IsExit pieces parameters results None (Some f) = ⊥
IsExit pieces parameters results (Some kept) None = ⊥

pub record IsProcedure (pieces : ℕ) (kept : StoredProcedure) (p : PlanProcedure) : Type 0 where
  pub parameters : kept.parameters ≡ p.parameters
  pub results : kept.results ≡ p.results
  pub exit : IsExit pieces p.parameters p.results kept.exit p.exit
  pub of_plan : kept.labels.layout.pieces ≡ pieces
  pub labels : AreFor (IsLabel pieces) kept.labels.starts p.labels
  pub code : kept.code.now ≡ p.code
