-- At a point, the pairs of a search are clear where those of the rule are.
use Rattle.std.proofs.Common.{◌≡◌, ◌↔◌, ℕ, ◌<◌, ℤ, List, [], ◌∷◌, length, take, Option, Some, None, refl, sym, subst, ap, ◌∙◌, inl, inr}
use Rattle.std.specs.Prelude.{All, map}
use Rattle.std.proofs.lemmas.List.Elements.{All-nil, All-cons, All-head, All-tail}
use Rattle.std.proofs.lemmas.Option.{none-some, slice_get_within, slice_get-get_or, get_or_from_slice_get}
use Rattle.burr_voxels.specs.declared.cell.Cell.{Cell}
use Rattle.burr_voxels.specs.Grid.{minus, shifted}
use Rattle.burr_code.specs.PieceSets.{IsInSet}
use Rattle.burr_code.specs.declared.placement.Placement.{Placement}
use Rattle.burr_code.specs.Places.{LiesAt}
use Rattle.burr_assembly.specs.Rules.Text.{Assembly}
use Rattle.burr_assembly.specs.Rules.Homes.{homes_of, home_at}
use Rattle.burr_blocking.specs.declared.blocking.Query.{Query}
use Rattle.burr_blocking.specs.declared.blocking.Query.TheVariants as queries
use Rattle.burr_blocking.specs.Rules.Pairs.{Clears}
use Rattle.burr_blocking.proofs.Common.Displaced.{free_of_difference, difference_of_free, blocked_of_overlap, overlap_of_blocked}
use Rattle.burr_forms.specs.Rules.Forms.{Point, values}
use Rattle.burr_container.specs.Rules.Plans.{FormCell}
use Rattle.burr_frames.specs.Rules.States.{cell_at}
use Rattle.burr_frames.specs.Rules.SpaceRules.{PairAt, IsApartBy}
use Rattle.burr_frames.specs.Rules.Looks.{pieces_in, gripped_in, left_in, grip_pairs}
use Rattle.burr_frames.specs.Rules.Verdicts.{IsFirstPair}
use Rattle.burr_frames.specs.Views.Clearing.{TrayPair, IsPairClear, FirstPairOf, number_in, cell_of, offsets_in}
use Rattle.burr_frames.proofs.BenchOffsets.{stands_at}
use Rattle.burr_frames.proofs.Common.Until.{EachIs}
use Rattle.burr_frames.proofs.Each.{each_of_all, all_of_each, each_true, each_map, each_unmap, each_same}
use Rattle.burr_frames.proofs.GripPairs.{pair_in, tray_pairs, each_grip_pair, of_grip_pair, of_rows, FirstOf, Earlier, first_in_rows, rising_pieces, rising_filter}

-- Two groups of cells at offsets

clear_where_apart : (query : Query) (a b : Cell) (ps qs : List Cell) → IsApartBy query (shifted a ps) (shifted b qs)
    → Clears query ps qs (minus a b)
clear_where_apart queries.Overlap a b ps qs apart = λ blocked. apart (overlap_of_blocked a b ps qs blocked)
clear_where_apart (queries.Exit direction) a b ps qs apart = difference_of_free a b ps qs direction apart

apart_where_clear : (query : Query) (a b : Cell) (ps qs : List Cell) → Clears query ps qs (minus a b)
    → IsApartBy query (shifted a ps) (shifted b qs)
apart_where_clear queries.Overlap a b ps qs clear = λ overlap. clear (blocked_of_overlap a b ps qs overlap)
apart_where_clear (queries.Exit direction) a b ps qs clear = free_of_difference a b ps qs direction clear

-- there is no first pair that is not clear where all are
pub first_none : (assembly : Assembly) (query : Query) (numbers : List ℤ) (pairs : List TrayPair) (found : Option (ℕ × ℕ))
    → FirstPairOf assembly query numbers pairs found → (found ≡ None) ↔ All (IsPairClear assembly query numbers) pairs
first_none assembly query numbers [] found h = ((λ none. All-nil (IsPairClear assembly query numbers)), (λ all. h))
first_none assembly query numbers (pair ∷ pairs) found (inl (fails, e)) = (
  (λ none. absurd (none-some _ (sym none ∙ e))),
  (λ all. absurd (fails (All-head (IsPairClear assembly query numbers) pair pairs all))),
)
first_none assembly query numbers (pair ∷ pairs) found (inr (is, rest)) =
    let none_left = first_none assembly query numbers pairs found rest in (
      (λ none. All-cons (IsPairClear assembly query numbers) pair pairs is (none_left.0 none)),
      (λ all. none_left.1 (All-tail (IsPairClear assembly query numbers) pair pairs all)),
    )

-- the first pair that is not clear, by another condition on its pieces
first_like : (assembly : Assembly) (query : Query) (numbers : List ℤ) (f : ℕ → ℕ → TrayPair) (P : ℕ → ℕ → Type 0) (pairs : List (ℕ × ℕ))
    (found : Option (ℕ × ℕ))
    → ((p q : ℕ) → ((f p q).0.piece ≡ p) × ((f p q).1.piece ≡ q))
    → EachIs (λ pair. IsPairClear assembly query numbers (f pair.0 pair.1) ↔ P pair.0 pair.1) pairs
    → FirstPairOf assembly query numbers (map (λ pair. f pair.0 pair.1) pairs) found → FirstOf P pairs found
first_like assembly query numbers f P [] found named same h = h
first_like assembly query numbers f P ((p, q) ∷ pairs) found named same (inl (fails, e)) =
    inl (
      (λ good. fails (same.0.1 good)),
      e ∙ ap (λ (r : ℕ). Some (r, (f p q).1.piece)) (named p q).0 ∙ ap (λ (t : ℕ). Some (p, t)) (named p q).1,
    )
first_like assembly query numbers f P ((p, q) ∷ pairs) found named same (inr (is, rest)) =
    inr (same.0.0 is, first_like assembly query numbers f P pairs found named same.1 rest)

module _ (query : Query) (assembly : Assembly) (places : List (Placement FormCell)) (tray grip : ℕ) (point : Point) where
  abbrev homes : List (List Cell)
  homes = homes_of assembly

  abbrev homed : List (Placement FormCell)
  homed = take (length homes) places

  abbrev numbers : List ℤ
  numbers = values point (offsets_in tray places)

  -- as the rule asks of two pieces
  abbrev Good : ℕ → ℕ → Type 0
  Good p q = PairAt (IsApartBy query) homes places tray grip point p q

  abbrev ClearFor : ℕ → ℕ → Cell → Cell → Type 0
  ClearFor p q a b = Clears query (home_at homes p) (home_at homes q) (minus a b)

  good_of_clear : (p q : ℕ) → IsPairClear assembly query numbers (pair_in tray homed p q) → Good p q
  good_of_clear p q clear p_home q_home c d gripped out home home_q lies lies_q =
      let a = cell_at point c in
      let b = cell_at point d in
      let first = (stands_at (length homes) places tray p c point (slice_get_within homes p p_home home) lies).0 in
      let second = (stands_at (length homes) places tray q d point (slice_get_within homes q q_home home_q) lies_q).0 in
      subst (λ (cells : List Cell). IsApartBy query (shifted a cells) (shifted b q_home))
      (get_or_from_slice_get homes p p_home [] home)
      (subst (λ (cells : List Cell). IsApartBy query (shifted a (home_at homes p)) (shifted b cells))
      (get_or_from_slice_get homes q q_home [] home_q)
      (apart_where_clear query a b (home_at homes p) (home_at homes q)
      (subst (ClearFor p q a) second
      (subst (λ (x : Cell). ClearFor p q x (cell_of numbers (number_in tray homed q))) first clear))))

  clear_of_good : (p q : ℕ) (c d : FormCell) → p < length homes → q < length homes → LiesAt places p tray c
      → LiesAt places q tray d → IsInSet grip p → (¬ IsInSet grip q) → Good p q
      → IsPairClear assembly query numbers (pair_in tray homed p q)
  clear_of_good p q c d below below_q lies lies_q gripped out good =
      let a = cell_at point c in
      let b = cell_at point d in
      let first = (stands_at (length homes) places tray p c point below lies).0 in
      let second = (stands_at (length homes) places tray q d point below_q lies_q).0 in
      subst (λ (x : Cell). ClearFor p q x (cell_of numbers (number_in tray homed q))) (sym first)
      (subst (ClearFor p q a) (sym second)
      (clear_where_apart query a b (home_at homes p) (home_at homes q)
      (good (home_at homes p) (home_at homes q) c d gripped out (slice_get-get_or homes p [] below)
      (slice_get-get_or homes q [] below_q) lies lies_q)))

  pub same_pairs : EachIs (λ pair. IsPairClear assembly query numbers (pair_in tray homed pair.0 pair.1) ↔ Good pair.0 pair.1)
      (grip_pairs tray grip homed)
  same_pairs =
      each_grip_pair (λ p q. IsPairClear assembly query numbers (pair_in tray homed p q) ↔ Good p q) tray grip
      (length homes) places
      (λ p q c d below below_q lies lies_q gripped out.
      (good_of_clear p q, clear_of_good p q c d below below_q lies lies_q gripped out))

  abbrev pairs : List (ℕ × ℕ)
  pairs = grip_pairs tray grip homed

  abbrev made : ℕ × ℕ → TrayPair
  made pair = pair_in tray homed pair.0 pair.1

  -- those of the search are clear where each is good
  pub clear_where_good : All (IsPairClear assembly query numbers) (tray_pairs tray grip homed)
      ↔ EachIs (λ pair. Good pair.0 pair.1) pairs
  clear_where_good =
      let same = each_same (λ pair. IsPairClear assembly query numbers (made pair)) (λ pair. Good pair.0 pair.1) pairs same_pairs in (
        (λ all. same.0 (each_unmap made (IsPairClear assembly query numbers) pairs
            (each_of_all (IsPairClear assembly query numbers) (map made pairs) all))),
        (λ good. all_of_each (IsPairClear assembly query numbers) (map made pairs)
            (each_map made (IsPairClear assembly query numbers) pairs (same.1 good))),
      )

  -- all pairs are good where those of the search are clear
  pub all_good : All (IsPairClear assembly query numbers) (tray_pairs tray grip homed) → (p q : ℕ) → Good p q
  all_good all p q p_home q_home c d gripped out home home_q lies lies_q =
      of_grip_pair Good tray grip (length homes) places (clear_where_good.0 all) p q c d
      (slice_get_within homes p p_home home) (slice_get_within homes q q_home home_q) lies lies_q gripped out
      p_home q_home c d gripped out home home_q lies lies_q

  pub all_clear : ((p q : ℕ) → Good p q) → All (IsPairClear assembly query numbers) (tray_pairs tray grip homed)
  all_clear good =
      clear_where_good.1 (each_true (λ (pair : ℕ × ℕ). Good pair.0 pair.1) (grip_pairs tray grip homed)
      (λ pair. good pair.0 pair.1))

  -- the first pair of the search that is not clear is the first that is not good
  pub first_bad : (p q : ℕ) → FirstPairOf assembly query numbers (tray_pairs tray grip homed) (Some (p, q))
      → IsFirstPair Good p q
  first_bad p q first = (rows.0, earlier)
    where
      rows : (¬ Good p q)
          × EachIs (λ r. EachIs (λ t. Earlier r t p q → Good r t) (left_in grip (pieces_in tray 0 homed)))
          (gripped_in grip (pieces_in tray 0 homed))
      rows =
          first_in_rows Good 0 0 (gripped_in grip (pieces_in tray 0 homed)) (left_in grip (pieces_in tray 0 homed)) p q
          (rising_filter _ 0 (pieces_in tray 0 homed) (rising_pieces tray 0 homed))
          (rising_filter _ 0 (pieces_in tray 0 homed) (rising_pieces tray 0 homed))
          (first_like assembly query numbers (pair_in tray homed) Good (grip_pairs tray grip homed) (Some (p, q))
          (λ r t. (refl, refl)) same_pairs first)

      earlier : (r t : ℕ) → Earlier r t p q → Good r t
      earlier r t before r_home t_home c d gripped out home home_t lies lies_t =
          of_rows (λ j k. Earlier j k p q → Good j k) tray grip (length homes) places rows.1 r t c d
          (slice_get_within homes r r_home home) (slice_get_within homes t t_home home_t) lies lies_t gripped out before
          r_home t_home c d gripped out home home_t lies lies_t
