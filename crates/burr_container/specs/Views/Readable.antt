-- Parts of a container that can be read again.
use Rattle.std.specs.Prelude.{◌≡◌, ◌≤◌, ℕ, List, Some, slice_get, length, map, drop, true}
use Rattle.burr_container.specs.declared.fault.ContainerFault.{ContainerFault}
use Rattle.burr_container.specs.declared.layout.Layout.{Layout}
use Rattle.burr_container.specs.Rules.Faults.{Part, label}

-- the part does not fail in these bytes, wherever they stand
abbrev pub NeverFails : {A : Type 0} → Part A → List ℕ → Type 0
NeverFails part bytes = (at : ℕ) (fault : ContainerFault) → ¬ part.Fails at bytes fault

-- in a plan with this many pieces a label can be read at the begin of each of these
abbrev pub AllReadable : ℕ → List (List ℕ) → Type 0
AllReadable pieces starts =
    (n : ℕ) (start : List ℕ) → slice_get starts n ≡ Some start
    → NeverFails (label (λ position. true) pieces) start

-- the labels of a procedure: of each the bytes from it on
pub record LabelsView : Type 0 where
  pub layout : Layout
  pub starts : List (List ℕ)

-- the bytes from each of these places on
abbrev pub starts_at : List ℕ → List ℕ → List (List ℕ)
starts_at bytes begins = map (λ begin. drop begin bytes) begins

abbrev pub labels_at : Layout → List ℕ → List ℕ → LabelsView
labels_at layout bytes begins =
    record { layout = layout; starts = starts_at bytes begins }

-- each is within these bytes, and a label can be read there
pub record AreReadable (pieces : ℕ) (bytes begins : List ℕ) : Type 0 where
  pub within : (n begin : ℕ) → slice_get begins n ≡ Some begin → begin ≤ length bytes
  pub readable : AllReadable pieces (starts_at bytes begins)
