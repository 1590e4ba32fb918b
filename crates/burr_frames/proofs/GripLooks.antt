-- What the search for a pair in the way counts, are the looks of the rule.
use Rattle.std.proofs.Common.{◌≡◌, ◌≢◌, ◌↔◌, ◌∙◌, ℕ, List, length, ap, subst, inl, inr, refl}
use Rattle.std.specs.Prelude.{map, take}
use Rattle.burr_voxels.specs.declared.cell.Cell.{Cell}
use Rattle.burr_voxels.specs.declared.direction.Direction.{Direction}
use Rattle.burr_assembly.specs.Rules.Text.{Assembly}
use Rattle.burr_assembly.specs.Rules.Homes.{homes_of}
use Rattle.burr_blocking.specs.declared.blocking.Query.{Query}
use Rattle.burr_blocking.specs.declared.blocking.Query.TheVariants as queries
use Rattle.burr_blocking.specs.Rules.Counted.{Counted, counted, with_more, HasCounted}
use Rattle.burr_blocking.proofs.Common.Counts.{none_more}
use Rattle.burr_code.specs.declared.placement.Placement.{Placement}
use Rattle.burr_code.specs.Places.{IsPartOfTray, IsEmptyTray}
use Rattle.burr_container.specs.Rules.Plans.{FormCell}
use Rattle.burr_forms.specs.Views.Counting.{searched, looks_at_values}
use Rattle.burr_forms.specs.Rules.Forms.{Point, values}
use Rattle.burr_forms.specs.Rules.Points.{points_of}
use Rattle.burr_frames.specs.Views.Clearing.{IsPairClear, offsets_in}
use Rattle.burr_frames.specs.Rules.Looks.{until_one_fails, Look, look_of, grip_pairs, IsGoodLook, clearing_looks, step_looks, aside_looks}
use Rattle.burr_frames.specs.Rules.SpaceRules.{OnBenchAt, moved, AllSmallPlaces}
use Rattle.burr_frames.specs.Rules.States.{AbstractState, Everywhere, IsFirstFailing}
use Rattle.burr_frames.proofs.Clearances.{clear_where_good, same_pairs}
use Rattle.burr_frames.proofs.Common.Until.{EachIs, until_like}
use Rattle.burr_frames.proofs.Each.{each_true, each_map, each_unmap}
use Rattle.burr_frames.proofs.GripPairs.{pair_in}
use Rattle.burr_frames.proofs.MoveVerdicts.{Searched, search_of, AllAreClear}
use Rattle.burr_frames.proofs.SearchedPairs.{pairs_searched, searched_same}

-- the looks of a search at a point
abbrev pub LooksOf : Assembly → Query → Searched → Point → ℕ → Type 0
LooksOf assembly query h =
    looks_at_values (λ numbers. until_one_fails (IsPairClear assembly query numbers) h.pairs) h.forms

-- at each point, a search looks at the pairs at which the rule looks
module _ (assembly : Assembly) (s : AbstractState) (places : List (Placement FormCell)) (query : Query) where
  abbrev pairs : List (ℕ × ℕ)
  pairs = grip_pairs s.tray s.grip (take (length (homes_of assembly)) places)

  abbrev Good : Look → Type 0
  Good = IsGoodLook (homes_of assembly) s places query

  holds_here : (point : Point) → AllAreClear assembly query (search_of assembly s places) point
      ↔ EachIs Good (map (look_of point) pairs)
  holds_here point =
      let same = clear_where_good query assembly places s.tray s.grip point in (
        (λ all. each_map (look_of point) Good pairs (same.0 all)),
        (λ each. same.1 (each_unmap (look_of point) Good pairs each)),
      )

  looks_here : (point : Point) (n : ℕ) → LooksOf assembly query (search_of assembly s places) point n
      → until_one_fails Good (map (look_of point) pairs) n
  looks_here point n =
      until_like
      (λ (pair : ℕ × ℕ). pair_in s.tray (take (length (homes_of assembly)) places) pair.0 pair.1) (look_of point)
      (IsPairClear assembly query (values point (offsets_in s.tray places))) Good pairs n
      (same_pairs query assembly places s.tray s.grip point)

  pub looks_of_search : (h : Searched) (looks : ℕ) → h ≡ search_of assembly s places
      → Everywhere s (OnBenchAt places s.tray)
      → searched (AllAreClear assembly query h) (LooksOf assembly query h) (points_of h.region.ranges h.region.guards) looks
      → clearing_looks (homes_of assembly) s places query looks
  looks_of_search h looks is on made =
      inr (
        on,
        pairs_searched (λ point. map (look_of point) pairs) Good (points_of s.ranges s.guards) looks
            (searched_same (AllAreClear assembly query (search_of assembly s places))
            (λ point. EachIs Good (map (look_of point) pairs)) (LooksOf assembly query (search_of assembly s places))
            (λ point. until_one_fails Good (map (look_of point) pairs)) (points_of s.ranges s.guards) looks
            (each_true _ (points_of s.ranges s.guards) (λ point. (holds_here point, looks_here point)))
            (subst (λ (h : Searched). searched (AllAreClear assembly query h) (LooksOf assembly query h)
            (points_of h.region.ranges h.region.guards) looks) is made)),
      )

-- where a piece is off the bench there are no looks
pub no_looks_off_bench : (homes : List (List Cell)) (s : AbstractState) (places : List (Placement FormCell))
    (query : Query) (point : Point) → IsFirstFailing s (OnBenchAt places s.tray) point
    → clearing_looks homes s places query 0
no_looks_off_bench homes s places query point first =
    inl ((λ all. first.fails (all point first.is_point)), refl)

-- the same assembly, with n looks more
pub counted_more : (old new : Counted) (n : ℕ) → new.assembly ≡ old.assembly → new.count ≡ (with_more n old).count
    → new ≡ with_more n old
counted_more old new n same more =
    ap (λ (a : Assembly). counted a new.count) same ∙ ap (counted old.assembly) more

-- Of the whole rule, after its own checks

pub step_looks_on : (homes : List (List Cell)) (s : AbstractState) (direction : Direction) (old new : Counted)
    → s.grip ≢ 0 → AllSmallPlaces (moved s.grip direction s.places)
    → HasCounted (clearing_looks homes s (moved s.grip direction s.places) queries.Overlap) old new
    → HasCounted (step_looks homes s direction) old new
step_looks_on homes s direction old new some small (n, looks, more) = (n, inr (some, inr (small, looks)), more)

pub step_looks_large : (homes : List (List Cell)) (s : AbstractState) (direction : Direction) (looks : Counted)
    → s.grip ≢ 0 → (¬ AllSmallPlaces (moved s.grip direction s.places)) → HasCounted (step_looks homes s direction) looks looks
step_looks_large homes s direction looks some large = (0, inr (some, inl (large, refl)), none_more looks)

pub aside_looks_on : (homes : List (List Cell)) (s : AbstractState) (direction : Direction) (tray : ℕ) (old new : Counted)
    → IsPartOfTray s.grip s.places s.tray → IsEmptyTray s.places tray
    → HasCounted (clearing_looks homes s s.places (queries.Exit direction)) old new
    → HasCounted (aside_looks homes s direction tray) old new
aside_looks_on homes s direction tray old new part empty (n, looks, more) = (n, inr (part, inr (empty, looks)), more)

pub aside_looks_whole : (homes : List (List Cell)) (s : AbstractState) (direction : Direction) (tray : ℕ)
    (looks : Counted) → (¬ IsPartOfTray s.grip s.places s.tray)
    → HasCounted (aside_looks homes s direction tray) looks looks
aside_looks_whole homes s direction tray looks whole = (0, inl (whole, refl), none_more looks)

pub aside_looks_in_use : (homes : List (List Cell)) (s : AbstractState) (direction : Direction) (tray : ℕ)
    (looks : Counted) → IsPartOfTray s.grip s.places s.tray → (¬ IsEmptyTray s.places tray)
    → HasCounted (aside_looks homes s direction tray) looks looks
aside_looks_in_use homes s direction tray looks part in_use = (0, inr (part, inl (in_use, refl)), none_more looks)
