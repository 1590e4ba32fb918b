-- What the searches for a piece off the bench, and for a pair in each other's way, say of the
-- verdict.
use Rattle.std.proofs.Common.{◌≡◌, ◌∙◌, ℕ, ℤ, List, [], ◌∷◌, length, Option, Some, None, inl, inr, refl, sym, subst, ap, arith}
use Rattle.std.specs.Prelude.{All, take, min}
use Rattle.std.proofs.lemmas.List.Elements.{All-nil, All-cons, All-head, All-tail}
use Rattle.burr_voxels.specs.declared.cell.Cell.{Cell}
use Rattle.burr_code.specs.declared.placement.Placement.{Placement}
use Rattle.burr_assembly.specs.Rules.Text.{Assembly}
use Rattle.burr_assembly.specs.Rules.Homes.{homes_of}
use Rattle.burr_blocking.specs.declared.blocking.Query.{Query}
use Rattle.burr_forms.specs.Rules.Forms.{Form, Point, values, IsNear, AllNear}
use Rattle.burr_forms.specs.Rules.Points.{IsRange, AreRanges, InBox}
use Rattle.burr_forms.specs.Rules.Conditions.{Region, at_values, Throughout, FailsFirstAt}
use Rattle.burr_container.specs.Rules.Plans.{FormCell}
use Rattle.burr_frames.specs.declared.rule.Rule.{Rule}
use Rattle.burr_frames.specs.declared.rule.Rule.TheVariants as rules
use Rattle.burr_frames.specs.declared.clearing.TrayPiece.{TrayPiece}
use Rattle.burr_frames.specs.Rules.Looks.{pairs_of}
use Rattle.burr_frames.specs.Views.Clearing.{TrayPair, IsPairClear, FirstPairOf, offsets_in, gripped_pieces, left_pieces}
use Rattle.burr_frames.specs.Views.Moving.{break_of_pieces}
use Rattle.burr_frames.specs.Rules.SpaceRules.{IsApartBy, OnBenchAt, PairAt}
use Rattle.burr_frames.specs.Views.Ranges.{AllInReach}
use Rattle.burr_frames.specs.Rules.States.{AbstractState, Everywhere, IsFirstFailing, region_of}
use Rattle.burr_frames.specs.Rules.Verdicts.{Broken, Verdict, Breaks, NoSuccessor, Rest, everywhere, everywhere_of_pairs, no_successor}
use Rattle.burr_frames.proofs.BenchOffsets.{reach_of_on_bench, on_bench_of_reach}
use Rattle.burr_frames.proofs.Comparisons.{near_in_range}
use Rattle.burr_frames.proofs.Clearances.{first_none, all_good, all_clear, first_bad}
use Rattle.burr_frames.proofs.GripPairs.{tray_pairs, pairs_are}
use Rattle.burr_frames.proofs.TrayPairs.{homed_pairs, homed_places}

-- On the bench

-- the values of all offsets in a tray are in reach
abbrev pub InReachAt : List (Placement FormCell) → ℕ → Point → Type 0
InReachAt places tray point = AllInReach 256 (values point (offsets_in tray places))

on_bench_everywhere : (s : AbstractState) (places : List (Placement FormCell)) → Everywhere s (InReachAt places s.tray)
    → Everywhere s (OnBenchAt places s.tray)
on_bench_everywhere s places all point is = on_bench_of_reach places s.tray point (all point is)

first_off_bench : (s : AbstractState) (places : List (Placement FormCell)) (point : Point) → IsFirstFailing s (InReachAt places s.tray) point
    → IsFirstFailing s (OnBenchAt places s.tray) point
first_off_bench s places point first = record {
  is_point = first.is_point;
  fails = λ on. first.fails (reach_of_on_bench places s.tray point on);
  before = λ q is before. on_bench_of_reach places s.tray q (first.before q is before);
}

-- the same of the forms that the search is handed
pub on_bench_of_forms : (s : AbstractState) (forms : List Form) → forms ≡ offsets_in s.tray s.places
    → Everywhere s (λ point. AllInReach 256 (values point forms)) → Everywhere s (OnBenchAt s.places s.tray)
on_bench_of_forms s forms are all = on_bench_everywhere s s.places (rw are at all)

pub off_bench_of_forms : (s : AbstractState) (forms : List Form) (point : Point) → forms ≡ offsets_in s.tray s.places
    → IsFirstFailing s (λ x. AllInReach 256 (values x forms)) point → IsFirstFailing s (OnBenchAt s.places s.tray) point
off_bench_of_forms s forms point are first = first_off_bench s s.places point (rw are at first)

-- the numbers of a point of a box are near
pub near_inside : (ranges : List (ℤ × ℤ)) (point : Point) → AreRanges ranges → InBox ranges point → AllNear point
near_inside [] [] are inside = All-nil IsNear
near_inside (range ∷ ranges) (x ∷ point) are inside =
    All-cons IsNear x point (near_in_range range x (All-head IsRange range ranges are) inside.0)
    (near_inside ranges point (All-tail IsRange range ranges are) inside.1)
near_inside ranges point are inside = absurd inside

-- Pairs

-- what the search is handed, but for its query
pub record Searched : Type 0 where
  pub region : Region
  pub forms : List Form
  pub pairs : List TrayPair

-- what it is handed for these places of a state
abbrev pub search_of : Assembly → AbstractState → List (Placement FormCell) → Searched
search_of assembly s places = record {
  region = region_of s;
  forms = offsets_in s.tray places;
  pairs = homed_pairs assembly s.tray s.grip places;
}

pub is_search : (assembly lent : Assembly) (s : AbstractState) (places : List (Placement FormCell)) (tray grip many pieces : ℕ) (r : Region)
    (forms : List Form) (gripped left : List TrayPiece) → r ≡ region_of s → forms ≡ offsets_in tray places
    → gripped ≡ gripped_pieces tray grip (take many places) → left ≡ left_pieces tray grip (take many places)
    → pieces ≡ length lent.pieces → lent ≡ assembly → many ≡ min (length places) pieces
    → tray ≡ s.tray → grip ≡ s.grip → places ≡ s.places
    → ◌≡◌ {A = Searched} (record { region = r; forms = forms; pairs = pairs_of gripped left }) (search_of assembly s s.places)
is_search assembly lent s places tray grip many pieces r forms gripped left region are first second count same homed t g here =
    let pairs = pairs_are tray grip (take many places) gripped left first second
    ∙ ap (tray_pairs tray grip) (homed_places assembly lent places many pieces count same homed) in
    (λ i. record { region = region i; forms = are i; pairs = pairs i })
    ∙ (λ i. record { region = region_of s; forms = offsets_in (t i) (here i); pairs = homed_pairs assembly (t i) (g i) (here i) })

-- each pair of the search is clear at this point
abbrev pub AllAreClear : Assembly → Query → Searched → Point → Type 0
AllAreClear assembly query h = at_values (λ numbers. All (IsPairClear assembly query numbers) h.pairs) h.forms

-- what is said of the verdict
abbrev pub Says : List (List Cell) → AbstractState → List (Placement FormCell) → Query → Rule → Verdict → Type 0
Says homes s places query rule verdict =
    everywhere s (OnBenchAt places s.tray) rules.OffBench
    (everywhere_of_pairs s (PairAt (IsApartBy query) homes places s.tray s.grip) rule no_successor) verdict

module _ (assembly : Assembly) (s : AbstractState) (places : List (Placement FormCell)) (query : Query) (rule : Rule)
    (h : Searched) (is : h ≡ search_of assembly s places) (on : Everywhere s (OnBenchAt places s.tray)) where
  -- no pair is in each other's way
  pub none_in_way : Throughout h.region (AllAreClear assembly query h)
      → Says (homes_of assembly) s places query rule NoSuccessor
  none_in_way =
      subst (λ (h : Searched). Throughout h.region (AllAreClear assembly query h)
      → Says (homes_of assembly) s places query rule NoSuccessor) (sym is)
      (λ all. inr (on, inr ((λ point at. all_good query assembly places s.tray s.grip point (all point at)), refl)))

  -- a pair is in each other's way
  pub first_in_way : (point : Point) (pieces : Option (ℕ × ℕ)) (broken : Broken)
      → FailsFirstAt h.region (AllAreClear assembly query h) point → FirstPairOf assembly query (values point h.forms) h.pairs pieces
      → broken ≡ break_of_pieces rule pieces point → Says (homes_of assembly) s places query rule (Breaks broken)
  first_in_way point pieces broken first found e =
      by_pair pieces
      (subst (λ (h : Searched). FailsFirstAt h.region (AllAreClear assembly query h) point) is first)
      (subst (λ (h : Searched). FirstPairOf assembly query (values point h.forms) h.pairs pieces) is found) e
    where
      by_pair : (pieces : Option (ℕ × ℕ)) → IsFirstFailing s (AllAreClear assembly query (search_of assembly s places)) point
          → FirstPairOf assembly query (values point (offsets_in s.tray places)) (search_of assembly s places).pairs pieces
          → broken ≡ break_of_pieces rule pieces point → Says (homes_of assembly) s places query rule (Breaks broken)
      by_pair None first found e = absurd (first.fails ((first_none assembly query _ _ None found).0 refl))
      by_pair (Some (p, q)) first found e =
          let failing : IsFirstFailing s (λ (x : Point). (r t : ℕ)
          → PairAt (IsApartBy query) (homes_of assembly) places s.tray s.grip x r t) point = record {
            is_point = first.is_point;
            fails = λ good. first.fails (all_clear query assembly places s.tray s.grip point good);
            before = λ x at before. all_good query assembly places s.tray s.grip x (first.before x at before);
          } in
          inr (
            on,
            inl (point, p, q, failing, first_bad query assembly places s.tray s.grip point p q found, ap Breaks e),
          )

-- What follows

-- nothing is broken, and what follows is said of the verdict
pub clear_on : (s : AbstractState) (P : Point → Type 0) (Q : Point → ℕ → ℕ → Type 0) (first second : Rule) (rest : Rest) (v : Verdict)
    → everywhere s P first (everywhere_of_pairs s Q second no_successor) NoSuccessor → rest v
    → everywhere s P first (everywhere_of_pairs s Q second rest) v
clear_on s P Q first second rest v clear h = grind (arith, clear, h)

-- a rule is broken, whatever follows
pub clear_breaks : (s : AbstractState) (P : Point → Type 0) (Q : Point → ℕ → ℕ → Type 0) (first second : Rule) (rest : Rest) (b : Broken)
    → everywhere s P first (everywhere_of_pairs s Q second no_successor) (Breaks b)
    → everywhere s P first (everywhere_of_pairs s Q second rest) (Breaks b)
clear_breaks s P Q first second rest b breaks = grind (arith, breaks)
