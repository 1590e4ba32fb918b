-- As many pieces at home as there are homes.
use Rattle.std.proofs.Common.{◌≡◌, ℕ, List, [], ◌∷◌, length, sym, ap, ◌∙◌, refl}
use Rattle.std.specs.Prelude.{replicate, map, reverse, Option, None}
use Rattle.burr_forms.specs.Rules.Forms.{Form}
use Rattle.burr_voxels.specs.declared.cell.Cell.{Cell}
use Rattle.burr_code.specs.declared.placement.Placement.{Placement}
use Rattle.burr_code.specs.declared.placement.Placement.TheVariants.{On}
use Rattle.burr_container.specs.Rules.Plans.{FormCell}
use Rattle.burr_frames.specs.Rules.Starts.{home_position}
use Rattle.burr_frames.proofs.state.State.at_home.Goals as goal

all_at_home : (homes : List (List Cell)) (place : Placement FormCell) → replicate (length homes) place ≡ map (λ (cells : List Cell). place) homes
all_at_home [] place = refl
all_at_home (cells ∷ homes) place = ap (λ (places : List (Placement FormCell)). place ∷ places) (all_at_home homes place)

pub returns : goal.returns
returns c homes many =
    let places = c.home_places.ensures.places ∙ ap (λ (n : ℕ). replicate n (On 0 home_position)) (sym many) ∙ all_at_home homes (On 0 home_position) in
    let operands = ap reverse c.new-3.ensures in
    λ i. record { ranges = c.new.ensures i; guards = c.new-2.ensures i; slots = replicate {A = Option Form} 8 None; operands = operands i; places = places i; tray = 0; grip = 0; cost = c.number_form.ensures.form i }
