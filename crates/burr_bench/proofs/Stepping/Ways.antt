-- What the tests of the grip's way come to.
use Rattle.std.proofs.Common.{◌≡◌, ◌↔◌, ◌<◌, ◌≤◌, ℕ, List, [], length, subst, inl, inr, arith, IsTrue, Bool}
use Rattle.std.specs.Prelude.{pos}
use Rattle.std.proofs.lemmas.List.{length-map}
use Rattle.std.proofs.lemmas.Option.{get_or_from_slice_get, slice_get-get_or}
use Rattle.burr_voxels.specs.declared.cell.Cell.{Cell}
use Rattle.burr_voxels.specs.declared.direction.Direction.{Direction}
use Rattle.burr_voxels.specs.Grid.{plus, minus, along, shifted}
use Rattle.burr_voxels.specs.Near.{IsWithin}
use Rattle.burr_voxels.specs.CellSets.{Overlap, IsFree}
use Rattle.burr_code.specs.PieceSets.{IsInSet}
use Rattle.burr_code.specs.declared.placement.Placement.{Placement}
use Rattle.burr_code.specs.Places.{LiesAt, LiesIn}
use Rattle.burr_assembly.specs.Rules.Text.{Assembly}
use Rattle.burr_assembly.specs.Rules.Homes.{HasHome, home_at, home_of, homes_of}
use Rattle.burr_blocking.specs.declared.blocking.Query.{Query}
use Rattle.burr_blocking.specs.Rules.Pairs.{Clears}
use Rattle.burr_blocking.proofs.Common.Displaced.{free_of_difference, difference_of_free, blocked_of_overlap, overlap_of_blocked, overlap_before}
use Rattle.burr_bench.specs.declared.checked.Way.{Way}
use Rattle.burr_bench.specs.declared.checked.Way.TheVariants as ways
use Rattle.burr_state.specs.Rules.Space.{IsFreeGroup, NoOverlapIn, moved_places}
use Rattle.burr_state.specs.Views.Benches.{Benched}
use Rattle.burr_bench.specs.BenchViews.{SetsOut}
use Rattle.burr_bench.specs.Ways.{PassesPiece, PassesRest, GroupPasses, query_of, setting_out}
use Rattle.burr_code.proofs.Common.Conditions.{one_position, lies_within}
use Rattle.burr_state.proofs.Common.Stepping.Near.{staying_of_on_bench}
use Rattle.burr_state.proofs.Common.Trays.Shifts.{IsShifted, lay_before_shift, lies_at_shifted, lies_at_kept}

-- Pair by pair

-- a piece elsewhere is passed
pub passes_absent : (query : Query) (homes : List (List Cell)) (places : List (Placement Cell)) (tray p : ℕ) (from : Cell) (q : ℕ) → (¬ LiesIn places q tray) → PassesPiece query homes places tray p from q
passes_absent query homes places tray p from q none there lies = absurd (none (there, lies))

-- the query of a piece that lies here is made for the difference of the offsets
pub passes_present : (test : Bool) (query : Query) (homes : List (List Cell)) (places : List (Placement Cell)) (tray p : ℕ) (from : Cell) (q : ℕ) (there : Cell)
    → LiesAt places q tray there → IsTrue test ↔ Clears query (home_at homes p) (home_at homes q) (minus from there) → IsTrue test ↔ PassesPiece query homes places tray p from q
passes_present test query homes places tray p from q there lies tells = (
  λ yes other lies_other. subst (λ (c : Cell). Clears query (home_at homes p) (home_at homes q) (minus from c)) (one_position places q tray there other lies lies_other) (tells.0 yes),
  λ passes. tells.1 (passes there lies),
)

-- a piece passes the rest where it passes each piece that may lie here
pub passes_of_each : (way : Way) (homes : List (List Cell)) (places : List (Placement Cell)) (tray group n p : ℕ) (offset : Cell) → LiesAt places p tray offset → length places ≤ n
    → ((q : ℕ) → q < n → (¬ IsInSet group q) → PassesPiece (query_of way) homes places tray p (setting_out way offset) q) → PassesRest way homes places tray group p
passes_of_each way homes places tray group n p offset lies all each other lies_other q rest there lies_q =
    let within = lies_within places q tray (there, lies_q) in
    subst (λ (c : Cell). Clears (query_of way) (home_at homes p) (home_at homes q) (minus (setting_out way c) there)) (one_position places p tray offset other lies lies_other)
    (each q (omega (arith, within, all)) rest there lies_q)

-- a piece that is in another's way bars it
pub barred : (way : Way) (homes : List (List Cell)) (places : List (Placement Cell)) (tray group p : ℕ) (offset : Cell) (q : ℕ)
    → LiesAt places p tray offset → (¬ IsInSet group q) → (¬ PassesPiece (query_of way) homes places tray p (setting_out way offset) q) → ¬ PassesRest way homes places tray group p
barred way homes places tray group p offset q lies rest bars passes = bars (passes offset lies q rest)

-- a group passes where each of its pieces does
pub passes_of_pieces : (way : Way) (homes : List (List Cell)) (places : List (Placement Cell)) (tray group n : ℕ) → length places ≤ n
    → ((p : ℕ) → p < n → IsInSet group p → PassesRest way homes places tray group p) → GroupPasses way homes places tray group
passes_of_pieces way homes places tray group n all each p bit offset lies =
    let within = lies_within places p tray (offset, lies) in each p (omega (arith, within, all)) bit offset lies

-- Homes

-- there are as many homes as pieces
pub as_many_homes : (a : Assembly) (places : List (Placement Cell)) → length places ≡ length a.pieces → length places ≤ length (homes_of a)
as_many_homes a places same = let homes = length-map a.pieces (home_of a.shapes) in omega (arith, same, homes)

-- the home cells of a piece are those of the function
home_is : (homes : List (List Cell)) (p : ℕ) (home : List Cell) → HasHome homes p home → home_at homes p ≡ home
home_is homes p home has = get_or_from_slice_get homes p home [] has

-- a piece that lies in a tray has a home
has_home : (homes : List (List Cell)) (places : List (Placement Cell)) (tray p : ℕ) → length places ≤ length homes → LiesIn places p tray → HasHome homes p (home_at homes p)
has_home homes places tray p as_many lies = let within = lies_within places p tray lies in slice_get-get_or homes p [] (omega (arith, within, as_many))

-- All the way out

pub free_of_passing : (homes : List (List Cell)) (places : List (Placement Cell)) (tray group : ℕ) (direction : Direction) → GroupPasses (ways.Out direction) homes places tray group → IsFreeGroup homes places tray group direction
free_of_passing homes places tray group direction passes p q p_home q_home p_offset q_offset bit rest has has_q lies lies_q =
    subst (λ (cells : List Cell). IsFree (shifted p_offset cells) (shifted q_offset q_home) direction) (home_is homes p p_home has)
    (subst (λ (cells : List Cell). IsFree (shifted p_offset (home_at homes p)) (shifted q_offset cells) direction) (home_is homes q q_home has_q)
    (free_of_difference p_offset q_offset (home_at homes p) (home_at homes q) direction (passes p bit p_offset lies q rest q_offset lies_q)))

pub passing_of_free : (homes : List (List Cell)) (places : List (Placement Cell)) (tray group : ℕ) (direction : Direction) → length places ≤ length homes
    → IsFreeGroup homes places tray group direction → GroupPasses (ways.Out direction) homes places tray group
passing_of_free homes places tray group direction as_many free p bit offset lies q rest there lies_q =
    difference_of_free offset there (home_at homes p) (home_at homes q) direction
    (free p q (home_at homes p) (home_at homes q) offset there bit rest (has_home homes places tray p as_many (offset, lies)) (has_home homes places tray q as_many (there, lies_q)) lies lies_q)

-- One unit

-- no piece of the group, one unit on, meets a piece of the tray that is not in the group
abbrev pub AllKeepClear : List (List Cell) → List (Placement Cell) → ℕ → ℕ → Direction → Type 0
AllKeepClear homes places tray group direction =
    (p q : ℕ) (p_home q_home : List Cell) (p_offset q_offset : Cell) → IsInSet group p → (¬ IsInSet group q) → HasHome homes p p_home → HasHome homes q q_home
    → LiesAt places p tray p_offset → LiesAt places q tray q_offset → ¬ Overlap (shifted (plus p_offset (along direction (pos 1))) p_home) (shifted q_offset q_home)

-- then no two pieces of the tray overlap after the unit: two pieces of the group, or two of the rest, lie to each other as before
pub no_overlap_past : (homes : List (List Cell)) (places : List (Placement Cell)) (tray group : ℕ) (direction : Direction) → NoOverlapIn homes places tray
    → AllKeepClear homes places tray group direction → NoOverlapIn homes (moved_places group direction places) tray
no_overlap_past homes places tray group direction apart clear p q p_home q_home p_offset q_offset other has has_q lies lies_q over =
    let p_lay = lay_before_shift move group p tray p_offset places lies in
    let q_lay = lay_before_shift move group q tray q_offset places lies_q in
    by_cases p_lay.0 q_lay.0 p_lay.1 q_lay.1 p_lay.2 q_lay.2 over
  where
    move : Cell → Cell
    move offset = plus offset (along direction (pos 1))

    by_cases : (x y : Cell) → LiesAt places p tray x → LiesAt places q tray y → IsShifted move group p x p_offset → IsShifted move group q y q_offset → ¬ Overlap (shifted p_offset p_home) (shifted q_offset q_home)
    by_cases x y p_lay q_lay (inl moved) (inl also) over = apart p q p_home q_home x y other has has_q p_lay q_lay (overlap_before x y (along direction (pos 1)) p_home q_home (rw (moved.1, also.1) at over))
    by_cases x y p_lay q_lay (inl moved) (inr still) over = clear p q p_home q_home x y moved.0 still.0 has has_q p_lay q_lay (rw (moved.1, still.1) at over)
    by_cases x y p_lay q_lay (inr still) (inl moved) over = let met = rw (still.1, moved.1) at over in clear q p q_home p_home y x moved.0 still.0 has_q has q_lay p_lay (met.0, met.2, met.1)
    by_cases x y p_lay q_lay (inr still) (inr also) over = apart p q p_home q_home x y other has has_q p_lay q_lay (rw (still.1, also.1) at over)

pub no_overlap_of_passing : (homes : List (List Cell)) (places : List (Placement Cell)) (tray group : ℕ) (direction : Direction) → NoOverlapIn homes places tray
    → GroupPasses (ways.Unit direction) homes places tray group → NoOverlapIn homes (moved_places group direction places) tray
no_overlap_of_passing homes places tray group direction apart passes =
    no_overlap_past homes places tray group direction apart (λ p q p_home q_home x y bit rest has has_q lies lies_q meets.
    passes p bit x lies q rest y lies_q
    (rw (home_is homes p p_home has, home_is homes q q_home has_q) (blocked_of_overlap (plus x (along direction (pos 1))) y p_home q_home meets)))

pub passing_of_no_overlap : (homes : List (List Cell)) (places : List (Placement Cell)) (tray group : ℕ) (direction : Direction) → length places ≤ length homes
    → NoOverlapIn homes (moved_places group direction places) tray → GroupPasses (ways.Unit direction) homes places tray group
passing_of_no_overlap homes places tray group direction as_many apart p bit offset lies q rest there lies_q blocked =
    let f : Cell → Cell = λ (o : Cell). plus o (along direction (pos 1)) in
    apart p q (home_at homes p) (home_at homes q) (plus offset (along direction (pos 1))) there (λ same. rest (subst (λ n. IsInSet group n) same bit))
    (has_home homes places tray p as_many (offset, lies)) (has_home homes places tray q as_many (there, lies_q))
    (lies_at_shifted f group p tray offset places bit lies) (lies_at_kept f group q tray there places rest lies_q)
    (overlap_of_blocked (plus offset (along direction (pos 1))) there (home_at homes p) (home_at homes q) blocked)

-- the offset for which the query of a gripped piece is made is on the bench
pub near_start : (b : Benched) (way : Way) (p : ℕ) (offset : Cell) → SetsOut b way → IsInSet b.state.grip p → LiesAt b.state.places p b.state.tray offset → IsWithin 256 offset → IsWithin 256 (setting_out way offset)
near_start b (ways.Unit direction) p offset sets_out bit lies near = staying_of_on_bench b.state.places b.state.tray b.state.grip direction sets_out p bit offset lies
near_start b (ways.Out direction) p offset sets_out bit lies near = near
