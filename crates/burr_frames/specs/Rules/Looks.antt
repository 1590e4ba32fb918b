-- Looks: the queries of pairs of pieces, counted where a rule is judged. This project's own.
use Rattle.std.specs.Prelude.{◌≡◌, ◌≢◌, ◌≤◌, ℕ, zero, suc, List, [], ◌∷◌, length, map, filter, flat_map, take, not, if◌then◌else◌}
use Rattle.burr_text.specs.Checks.{needs}
use Rattle.burr_voxels.specs.declared.cell.Cell.{Cell}
use Rattle.burr_voxels.specs.declared.direction.Direction.{Direction}
use Rattle.burr_code.specs.Instruction.{Instruction, Step, Aside}
use Rattle.burr_code.specs.PieceSets.{is_left_out}
use Rattle.burr_code.specs.declared.placement.Placement.{Placement}
use Rattle.burr_code.specs.Places.{is_in, IsPartOfTray, IsEmptyTray}
use Rattle.burr_blocking.specs.declared.blocking.Query.{Query}
use Rattle.burr_blocking.specs.declared.blocking.Query.TheVariants as queries
use Rattle.burr_forms.specs.declared.limits.TheConstants.{MOST_POINTS}
use Rattle.burr_forms.specs.Rules.Forms.{Point}
use Rattle.burr_forms.specs.Rules.Points.{box_size, points_of}
use Rattle.burr_container.specs.Rules.Plans.{FormCell}
use Rattle.burr_frames.specs.Rules.States.{AbstractState, Everywhere}
use Rattle.burr_frames.specs.Rules.SpaceRules.{OnBenchAt, PairAt, AllSmallPlaces, moved}
use Rattle.burr_frames.specs.Rules.SpaceRules.{IsApartBy}

-- How many elements of a list are looked at, in order: all, or those up to and with the first that
-- is not so.
abbrev pub until_one_fails : {A : Type 0} → (A → Type 0) → List A → ℕ → Type 0
until_one_fails IsSo [] zero = Unit {0}
until_one_fails IsSo [] (suc n) = ⊥
until_one_fails IsSo (x ∷ xs) zero = ⊥
until_one_fails IsSo (x ∷ xs) (suc n) = needs (IsSo x) 0 (until_one_fails IsSo xs) n

-- a query at a point, of a gripped piece and one that is left in its tray
pub record Look : Type 0 where
  pub point : Point
  pub piece : ℕ
  pub other : ℕ

-- the pieces in the tray, rising; the first place is that of piece p
abbrev pub pieces_in : {Position : Type 0} → ℕ → ℕ → List (Placement Position) → List ℕ
pieces_in tray p [] = []
pieces_in tray p (place ∷ places) =
    if is_in tray place then p ∷ pieces_in tray (suc p) places
    else pieces_in tray (suc p) places

-- those that are gripped, and those that are not
abbrev pub gripped_in : ℕ → List ℕ → List ℕ
gripped_in grip pieces = filter (λ p. not (is_left_out grip p)) pieces

abbrev pub left_in : ℕ → List ℕ → List ℕ
left_in grip pieces = filter (is_left_out grip) pieces

-- each of the first with each of the second, in order
abbrev pub pairs_of : {A : Type 0} → List A → List A → List (A × A)
pairs_of ps qs = flat_map (λ p. map (λ q. (p, q)) qs) ps

-- each gripped piece of the tray with each piece of it that is not gripped
abbrev pub grip_pairs : {Position : Type 0} → ℕ → ℕ → List (Placement Position) → List (ℕ × ℕ)
grip_pairs tray grip places =
    pairs_of (gripped_in grip (pieces_in tray 0 places)) (left_in grip (pieces_in tray 0 places))

abbrev pub look_of : Point → ℕ × ℕ → Look
look_of point pair = record { point = point; piece = pair.0; other = pair.1 }

-- at each of the points, in order, each of the pairs, in order
abbrev pub looks_of : List (ℕ × ℕ) → List Point → List Look
looks_of pairs points = flat_map (λ point. map (look_of point) pairs) points

-- each pair at each point of the state, of the pieces that have a home
abbrev pub all_looks : List (List Cell) → AbstractState → List (Placement FormCell) → List Look
all_looks homes s places =
    looks_of (grip_pairs s.tray s.grip (take (length homes) places)) (points_of s.ranges s.guards)

-- the two pieces are to each other as the query asks
abbrev pub IsGoodLook : List (List Cell) → AbstractState → List (Placement FormCell) → Query
    → Look → Type 0
IsGoodLook homes s places query look =
    PairAt (IsApartBy query) homes places s.tray s.grip look.point look.piece look.other

-- the looks where the pieces lie at these places: none where one of the tray is off the bench
abbrev pub clearing_looks : List (List Cell) → AbstractState → List (Placement FormCell) → Query
    → ℕ → Type 0
clearing_looks homes s places query =
    needs (Everywhere s (OnBenchAt places s.tray)) 0
    (until_one_fails (IsGoodLook homes s places query) (all_looks homes s places))

abbrev pub step_looks : List (List Cell) → AbstractState → Direction → ℕ → Type 0
step_looks homes s direction =
    needs (s.grip ≢ 0) 0
    (needs (AllSmallPlaces (moved s.grip direction s.places)) 0
    (clearing_looks homes s (moved s.grip direction s.places) queries.Overlap))

abbrev pub aside_looks : List (List Cell) → AbstractState → Direction → ℕ → ℕ → Type 0
aside_looks homes s direction tray =
    needs (IsPartOfTray s.grip s.places s.tray) 0
    (needs (IsEmptyTray s.places tray) 0
    (clearing_looks homes s s.places (queries.Exit direction)))

-- The looks of an instruction's rule in a state, up to the first that fails. Rules that move no
-- piece have none.
abbrev pub RuleLooks : List (List Cell) → AbstractState → Instruction → ℕ → Type 0
RuleLooks homes s (Step direction) looks = step_looks homes s direction looks
RuleLooks homes s (Aside direction tray) looks = aside_looks homes s direction tray looks
RuleLooks homes s i looks = looks ≡ 0

-- the symbols of a state have at most 4,096 points, guards not counted
abbrev pub HasRoom : AbstractState → Type 0
HasRoom s = box_size s.ranges ≤ MOST_POINTS
