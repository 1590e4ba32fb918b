-- For crates above: whether the conditions of the rules hold.
use Rattle.std.proofs.Common.{◌≡◌, ℕ, ◌≤◌, ℤ, List, [], ◌∷◌, length, Option, Some, None, refl, sym, ap, subst, ◌∙◌, inl, inr, arith}
use Rattle.std.specs.Prelude.{pos, neg_ℤ, ◌^◌, map}
use Rattle.std.proofs.lemmas.Option.{none-some, same_Some}
use Rattle.burr_text.proofs.Common.Decisions.{Decided, decided_like, decided_and, decided_and_three, decided_not, decide_same, decide_at_most, decide_same_whole, decide_all}
use Rattle.burr_voxels.specs.declared.cell.Cell.{Cell}
use Rattle.burr_voxels.specs.Grid.{shifted}
use Rattle.burr_voxels.specs.Near.{IsWithin}
use Rattle.burr_code.specs.PieceSets.{IsInSet}
use Rattle.burr_code.specs.declared.placement.Placement.{Placement}
use Rattle.burr_code.specs.declared.placement.Placement.TheVariants.{Apart, On}
use Rattle.burr_code.specs.Places.{LiesAt, tray_of}
use Rattle.burr_code.proofs.Common.Orders.{decide_le}
use Rattle.burr_code.proofs.Common.PieceSets.{decide_bit}
use Rattle.burr_assembly.specs.Rules.Homes.{HasHome}
use Rattle.burr_forms.specs.Rules.Forms.{Form, Point, values, IsSmall, AllSmall, IsSmallForm, AllSmallForms}
use Rattle.burr_forms.specs.Rules.Points.{box_size}
use Rattle.burr_container.specs.Rules.Plans.{FormCell, Frame}
use Rattle.burr_frames.specs.Rules.States.{AbstractState, IsPoint, Everywhere, cell_at, places_at, state_of}
use Rattle.burr_frames.specs.Rules.Arrival.{live_forms, IsAlike, Agrees, Meets}
use Rattle.burr_frames.specs.Rules.SpaceRules.{OnBenchAt, PairAt, AllSmallPlaces}
use Rattle.burr_frames.specs.Rules.ControlRules.{HasRoomForSymbols}
use Rattle.burr_code.proofs.Common.Conditions.{decided_implies, decide_all_numbers, decide_of_the_one, decide_found, one_in_list, decide_lies, one_position, lies_within}
use Rattle.burr_voxels.proofs.Common.Decided.{decide_same_cell}
use Rattle.burr_frames.proofs.Common.Search.{decide_in_box, decide_guards, first_failing}

-- Equal values

pub decide_same_list : {A : Type 0} → ((a b : A) → Decided (a ≡ b)) → (xs ys : List A) → Decided (xs ≡ ys)
decide_same_list each [] [] = inl refl
decide_same_list each (x ∷ xs) (y ∷ ys) =
    decided_like (λ both. cc) (λ e. (cc, cc)) (decided_and (each x y) (decide_same_list each xs ys))
decide_same_list each xs ys = inr (λ e. cc)

pub decide_same_option : {A : Type 0} → ((a b : A) → Decided (a ≡ b)) → (o p : Option A) → Decided (o ≡ p)
decide_same_option each None None = inl refl
decide_same_option each (Some x) (Some y) = decided_like (λ e. ap Some e) (λ e. cc) (each x y)
decide_same_option each o p = inr (λ e. cc)

pub decide_same_place : (a b : Placement Cell) → Decided (a ≡ b)
decide_same_place Apart Apart = inl refl
decide_same_place (On t x) (On u y) =
    decided_like (λ both. cc) (λ e. (cc, cc)) (decided_and (decide_same t u) (decide_same_cell x y))
decide_same_place a b = inr (λ e. cc)

pub decide_same_trays : (xs ys : List (Option ℕ)) → Decided (xs ≡ ys)
decide_same_trays xs ys = decide_same_list (decide_same_option decide_same) xs ys

pub decide_same_values : (xs ys : List ℤ) → Decided (xs ≡ ys)
decide_same_values xs ys = decide_same_list decide_same_whole xs ys

pub decide_same_places : (xs ys : List (Placement Cell)) → Decided (xs ≡ ys)
decide_same_places xs ys = decide_same_list decide_same_place xs ys

-- Small numbers

pub decide_small : (n : ℤ) → Decided (IsSmall n)
decide_small n = decided_and (decide_le (neg_ℤ (pos (2 ^ 40))) n) (decide_le n (pos (2 ^ 40)))

decide_all_small : (numbers : List ℤ) → Decided (AllSmall numbers)
decide_all_small numbers = decide_all IsSmall decide_small numbers

pub decide_small_form : (f : Form) → Decided (IsSmallForm f)
decide_small_form f = decided_and (decide_small f.constant) (decide_all_small f.coefs)

pub decide_small_forms : (forms : List Form) → Decided (AllSmallForms forms)
decide_small_forms forms = decide_all IsSmallForm decide_small_form forms

decided_and_four : {P Q R S : Type 0} → Decided P → Decided Q → Decided R → Decided S → Decided (P × Q × R × S)
decided_and_four p q r s =
    decided_like (λ all. (all.0, all.1.0, all.1.1, all.1.2)) (λ all. (all.0, (all.1, all.2, all.3)))
    (decided_and p (decided_and_three q r s))

pub decide_small_places : (places : List (Placement FormCell)) → Decided (AllSmallPlaces places)
decide_small_places [] = inl tt
decide_small_places (Apart ∷ places) = decide_small_places places
decide_small_places (On tray c ∷ places) =
    decided_and_four (decide_small_form c.x) (decide_small_form c.y) (decide_small_form c.z)
    (decide_small_places places)

pub decide_room : (s : AbstractState) → Decided (HasRoomForSymbols s)
decide_room s =
    decided_and_three (decide_at_most (length s.ranges) 8) (decide_at_most (length s.guards) 8)
    (decide_at_most (box_size s.ranges) 4096)

-- Pieces

pub decide_within : (n : ℕ) (c : Cell) → Decided (IsWithin n c)
decide_within n c =
    decided_like (λ all. record {
      x_above = all.0.0;
      x_below = all.0.1;
      y_above = all.1.0;
      y_below = all.1.1;
      z_above = all.2.0;
      z_below = all.2.1;
    })
    (λ w. ((w.x_above, w.x_below), (w.y_above, w.y_below), (w.z_above, w.z_below)))
    (decided_and_three (decided_and (decide_le _ _) (decide_le _ _)) (decided_and (decide_le _ _) (decide_le _ _))
    (decided_and (decide_le _ _) (decide_le _ _)))

pub decide_on_bench : (places : List (Placement FormCell)) (tray : ℕ) (point : Point)
    → Decided (OnBenchAt places tray point)
decide_on_bench places tray point =
    decide_all_numbers (λ p. (c : FormCell) → LiesAt places p tray c → IsWithin 256 (cell_at point c))
    (λ p. decide_of_the_one (LiesAt places p tray) (λ c. IsWithin 256 (cell_at point c)) (one_position places p tray)
    (decide_lies places p tray) (λ c. decide_within 256 (cell_at point c)))
    (length places) (λ p far c lies. let near = lies_within places p tray (c, lies) in absurd (omega (arith, far, near)))

-- the same condition on a pair, its parts in another order
abbrev PairInOrder : (List Cell → List Cell → Type 0) → List (List Cell) → List (Placement FormCell)
    → ℕ → ℕ → Point → ℕ → ℕ → Type 0
PairInOrder Good homes places tray grip point p q =
    IsInSet grip p → (¬ IsInSet grip q)
    → (p_home : List Cell) → HasHome homes p p_home → (q_home : List Cell) → HasHome homes q q_home
    → (c : FormCell) → LiesAt places p tray c → (d : FormCell) → LiesAt places q tray d
    → Good (shifted (cell_at point c) p_home) (shifted (cell_at point d) q_home)

pub decide_pair : (Good : List Cell → List Cell → Type 0) → ((a b : List Cell) → Decided (Good a b))
    → (homes : List (List Cell)) (places : List (Placement FormCell)) (tray grip : ℕ) (point : Point) (p q : ℕ)
    → Decided (PairAt Good homes places tray grip point p q)
decide_pair Good each homes places tray grip point p q =
    decided_like (λ all p_home q_home c d in_grip outside p_has q_has p_lies q_lies.
    all in_grip outside p_home p_has q_home q_has c p_lies d q_lies)
    (λ all in_grip outside p_home p_has q_home q_has c p_lies d q_lies.
    all p_home q_home c d in_grip outside p_has q_has p_lies q_lies)
    in_order
  where
    with_home : {P : List Cell → Type 0} (piece : ℕ) → ((home : List Cell) → Decided (P home))
        → Decided ((home : List Cell) → HasHome homes piece home → P home)
    with_home piece at = decide_of_the_one (HasHome homes piece) _ (one_in_list homes piece) (decide_found _) at

    with_place : {P : FormCell → Type 0} (piece : ℕ) → ((c : FormCell) → Decided (P c))
        → Decided ((c : FormCell) → LiesAt places piece tray c → P c)
    with_place piece at =
        decide_of_the_one (LiesAt places piece tray) _ (one_position places piece tray)
        (decide_lies places piece tray) at

    in_order : Decided (PairInOrder Good homes places tray grip point p q)
    in_order =
        decided_implies (decide_bit grip p) (decided_implies (decided_not (decide_bit grip q))
        (with_home p λ p_home. with_home q λ q_home. with_place p λ c. with_place q λ d.
        each (shifted (cell_at point c) p_home) (shifted (cell_at point d) q_home)))

pub pair_past_p : (Good : List Cell → List Cell → Type 0) (homes : List (List Cell))
    (places : List (Placement FormCell)) (tray grip : ℕ) (point : Point) (p q : ℕ) → length places ≤ p
    → PairAt Good homes places tray grip point p q
pair_past_p Good homes places tray grip point p q far p_home q_home c d in_grip outside p_has q_has p_lies q_lies =
    let near = lies_within places p tray (c, p_lies) in absurd (omega arith)

pub pair_past_q : (Good : List Cell → List Cell → Type 0) (homes : List (List Cell))
    (places : List (Placement FormCell)) (tray grip : ℕ) (point : Point) (p q : ℕ) → length places ≤ q
    → PairAt Good homes places tray grip point p q
pair_past_q Good homes places tray grip point p q far p_home q_home c d in_grip outside p_has q_has p_lies q_lies =
    let near = lies_within places q tray (d, q_lies) in absurd (omega arith)

-- Frames

pub decide_alike : (s t : AbstractState) → Decided (IsAlike s t)
decide_alike s t =
    decided_like (λ all. record { tray = all.0; grip = all.1; operands = all.2; trays = all.3 })
    (λ (a : IsAlike s t). (a.tray, a.grip, a.operands, a.trays))
    (decided_and_four (decide_same s.tray t.tray) (decide_same s.grip t.grip)
    (decide_same (length s.operands) (length t.operands))
    (decide_same_trays (map tray_of s.places) (map tray_of t.places)))

pub decide_point : (s : AbstractState) (point : Point) → Decided (IsPoint s point)
decide_point s point = decided_and (decide_in_box s.ranges point) (decide_guards s.guards point)

pub decide_agrees : (s : AbstractState) (point : Point) (t : AbstractState) (there : Point)
    → Decided (Agrees s point t there)
decide_agrees s point t there =
    decided_like (λ all. record { is_point = all.0; operands = all.1; places = all.2 })
    (λ (a : Agrees s point t there). (a.is_point, a.operands, a.places))
    (decided_and_three (decide_point t there) (decide_same_values (values point s.operands) (values there t.operands))
    (decide_same_places (places_at point s.places) (places_at there t.places)))

pub decide_everywhere : (s : AbstractState) (P : Point → Type 0) → ((point : Point) → Decided (P point))
    → Decided (Everywhere s P)
decide_everywhere s P each =
    elim (first_failing s P each) [
      | inl found ↦ inr (λ all. found.1.fails (all found.0 found.1.is_point))
      | inr all ↦ inl all
    ]

pub decide_meets : (s : AbstractState) (f : Frame) → Decided (Meets s f)
decide_meets s f = by_forms (live_forms f.slots s.slots) refl
  where
    AgreeBy : List Form → Type 0
    AgreeBy forms = Everywhere s (λ point. Agrees s point (state_of f) (values point forms))

    by_forms : (found : Option (List Form)) → live_forms f.slots s.slots ≡ found → Decided (Meets s f)
    by_forms None none = inr (λ (m : Meets s f). none-some m.forms (sym none ∙ m.known))
    by_forms (Some forms) known =
        decided_like (λ both. record { forms = forms; known = known; alike = both.0; agrees = both.1 })
        (λ (m : Meets s f). (m.alike, subst AgreeBy (same_Some m.forms forms (sym m.known ∙ known)) m.agrees))
        (decided_and (decide_alike s (state_of f))
        (decide_everywhere s (λ point. Agrees s point (state_of f) (values point forms))
        (λ point. decide_agrees s point (state_of f) (values point forms))))
