-- What the frames stand for that are read in place.
use Rattle.std.specs.Prelude.{ℕ, List, take, Option, Some, None, Result, MatchResult, IfSome}
use Rattle.burr_code.specs.declared.placement.Placement.{Placement}
use Rattle.burr_code.specs.declared.placement.Placement.TheVariants.{Apart, On}
use Rattle.burr_forms.specs.Rules.Forms.{Form, IsSmallForm}
use Rattle.burr_container.specs.declared.fault.ContainerFault.{ContainerFault}
use Rattle.burr_container.specs.declared.reading.cursor.Cursor.{Cursor}
use Rattle.burr_container.specs.declared.lists.FormList.{FormList}
use Rattle.burr_container.specs.declared.lists.PlaceList.{PlaceList}
use Rattle.burr_container.specs.declared.frame_ref.FrameRef.{FrameRef}
use Rattle.burr_container.specs.declared.frame_ref.ExitRef.{ExitRef}
use Rattle.burr_container.specs.Rules.Plans.{FormCell, Frame, ExitFrame}
use Rattle.burr_container.specs.Views.Decoding.{forms_in, form_in, places_in}
use Rattle.burr_container.specs.Rules.Faults.{Part}
use Rattle.burr_container.specs.Views.Reading.{IsAt}

abbrev pub forms_of : FormList → List Form
forms_of run = forms_in run.live run.count run.bytes.now

-- a single form
abbrev pub form_in_list : FormList → Form
form_in_list run = form_in run.live run.bytes.now

abbrev pub places_of : PlaceList → List (Placement FormCell)
places_of run = places_in run.live run.count run.bytes.now

abbrev pub frame_of : FrameRef → Frame
frame_of f = record {
  tray = f.tray;
  grip = f.grip;
  slots = f.slots;
  guards = forms_of f.guards;
  stack = forms_of f.stack;
  cost = form_in_list f.cost;
  places = places_of f.places;
}

abbrev pub exit_frame_of : ExitRef → ExitFrame
exit_frame_of f = record {
  tray = f.tray;
  grip = f.grip;
  results = take f.result_count f.results;
  guards = forms_of f.guards;
  places = places_of f.places;
}

-- how many parameters the procedure of an exit frame has
abbrev pub parameters_of : ExitRef → ℕ
parameters_of f = f.parameters

-- a part is read in place: what is kept stands for the value at the cursor; or how the part fails
abbrev pub ReadsInPlace : {A V : Type 0} → (V → A) → Part A → (cursor next : Cursor)
    → Result V ContainerFault → Type 0
ReadsInPlace value_of part cursor next result =
    MatchResult result (λ kept. IsAt part cursor (value_of kept) next)
    (λ fault. part.Fails cursor.at cursor.rest.now fault)

-- where a piece lies, as it is told: apart, or its tray and three forms
abbrev pub placement_view : Option (ℕ × Form × Form × Form) → Placement FormCell
placement_view None = Apart
placement_view (Some at) = On at.0 (record { x = at.1; y = at.2; z = at.3 })

-- all numbers of the three forms are small
abbrev pub IsSmallPlace : Option (ℕ × Form × Form × Form) → Type 0
IsSmallPlace place =
    IfSome place (λ at. IsSmallForm at.1 × IsSmallForm at.2 × IsSmallForm at.3)
