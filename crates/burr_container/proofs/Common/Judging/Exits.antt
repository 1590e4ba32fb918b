-- For crates above: bytes have an exit frame at their front, or fail to.
use Rattle.std.proofs.Common.{◌≡◌, ℕ, ◌&&◌, ◌==◌, Bool, true, false, Some, List, [], ◌∷◌, ◌++◌, length, refl, sym, ap, ◌∙◌, eq-eqb}
use Rattle.std.specs.List.{list_all}
use Rattle.std.proofs.lemmas.Bool.{and_from}
use Rattle.byteorder.specs.Endian.{big_bytes}
use Rattle.burr_code.specs.declared.limits.TheConstants.{MOST_GUARDS}
use Rattle.burr_container.specs.Rules.Plans.{Range, exit_symbols}
use Rattle.burr_container.specs.Rules.Spelling.{ranges_bytes, exit_guards_bytes, places_bytes}
use Rattle.burr_container.specs.Rules.Fitting.{is_range, are_ranges, are_forms, most_exit_guards, is_tray, is_set_of, are_places, is_exit_rest}
use Rattle.burr_container.specs.Rules.Faults.{range, ranges, place, exit_guards, ExitRestFails, exit_frame, passes, each}
use Rattle.burr_container.proofs.Common.Lawful.{OfPart, OfNothing}
use Rattle.burr_container.proofs.Common.Lists.{OfEach}
use Rattle.burr_container.proofs.Common.Frames.{head_fails}
use Rattle.burr_container.proofs.Common.Exits.{guards_by, OfExitGuards, exit_guards_fail, OfExitRest, AfterGrip, exit_frame_of, exit_apart, OfExitFrame}
use Rattle.burr_container.proofs.Common.Judging.Fronts.{AreSmall, Judged, JudgedPart, first_judged, judged_as, passes_judged}
use Rattle.burr_container.proofs.Common.Judging.Lists.{each_judged}
use Rattle.burr_container.proofs.Common.Judging.Places.{forms_judged, place_judged}
use Rattle.burr_container.proofs.Common.Judging.Slots.{range_judged}
use Rattle.burr_container.proofs.Common.Judging.Frames.{head_judged, head_back, places_back}

pub ranges_back : (count : ℕ) (rs : List Range) (bytes r : List ℕ) → OfEach count range rs bytes r
    → OfPart (ranges count) rs bytes r
ranges_back count rs bytes r here = (
  and_from (length rs == count) (list_all (λ r. is_range (Some r)) rs)
      (eq-eqb (length rs) count here.0) here.1,
  here.2,
)

ranges_judged : (count : ℕ) → JudgedPart (ranges count)
ranges_judged count =
    judged_as (λ (rs : List Range). rs) (OfPart (ranges count)) (OfEach count range)
    (ranges count).Fails (each count range) (λ rs bytes r small here. ranges_back count rs bytes r here)
    (λ at bytes fault fails. fails) (each_judged range count range_judged)

guards_by_judged : (second : Bool) (live : List Bool) → JudgedPart (guards_by second live)
guards_by_judged true live = forms_judged MOST_GUARDS live
guards_by_judged false live =
    judged_as (λ (u : Unit {0}). []) (OfPart (guards_by false live)) OfNothing passes passes
    (λ u bytes r small here. (refl, here)) (λ at bytes fault fails. fails) passes_judged

exit_guards_judged : (version : ℕ) (live : List Bool) → JudgedPart (exit_guards version live)
exit_guards_judged version live = guards_by_judged (version == 2) live

exit_rest_judged : (version pieces results : ℕ) (live : List Bool)
    → Judged (OfExitRest version pieces results live) (ExitRestFails version pieces results live)
exit_rest_judged version pieces results live =
    first_judged (ranges results) (λ rs. OfExitGuards version pieces live)
    (λ rs. exit_guards_fail version pieces live) (ranges_judged results)
    (λ rs fits.
    first_judged (exit_guards version live) (λ guards. OfEach pieces (place live))
    (λ guards. each pieces (place live)) (exit_guards_judged version live)
    (λ guards fit. each_judged (place live) pieces (place_judged live)))

pub exit_back : (version pieces parameters results : ℕ) (v : ℕ × (ℕ × AfterGrip))
    (bytes r : List ℕ) → AreSmall bytes
    → OfExitFrame version pieces parameters results v bytes r
    → OfPart (exit_frame version pieces parameters results) (exit_frame_of v) bytes r
exit_back version pieces parameters results v bytes r small here =
    let f = exit_frame_of v in
    let live = exit_symbols parameters results in
    let head = head_back pieces (OfExitRest version pieces results live) v bytes r here in
    let ranges = head.4 in
    let guards = ranges.2 in
    let places = places_bytes live f.places ++ r in
    let from_guards : ranges.0 ≡ exit_guards_bytes version live f.guards ++ places =
    guards.1.1 ∙ ap (λ (rest : List ℕ). exit_guards_bytes version live f.guards ++ rest) guards.2.2 in
    let from_ranges : head.0 ≡ ranges_bytes
    f.results ++ (exit_guards_bytes version live f.guards ++ places) =
    ranges.1.1 ∙ ap (λ (rest : List ℕ). ranges_bytes f.results ++ rest) from_guards in (
      and_from (is_tray f.tray && is_set_of pieces f.grip)
          (is_exit_rest version pieces results live f)
          (and_from (is_tray f.tray) (is_set_of pieces f.grip) head.1 head.2)
          (and_from
          (are_ranges results f.results && are_forms (most_exit_guards version) live f.guards)
          (are_places pieces live f.places)
          (and_from (are_ranges results f.results)
          (are_forms (most_exit_guards version) live f.guards) ranges.1.0 guards.1.0)
          (places_back pieces live f.places guards.0 r guards.2)),
      head.3 ∙ ap (λ (rest : List ℕ). f.tray ∷ (big_bytes 4 f.grip ++ rest)) from_ranges
          ∙ sym (exit_apart f.tray (big_bytes 4 f.grip) (ranges_bytes f.results)
          (exit_guards_bytes version live f.guards) (places_bytes live f.places) r),
    )

pub exit_frame_judged : (version pieces parameters results : ℕ)
    → JudgedPart (exit_frame version pieces parameters results)
exit_frame_judged version pieces parameters results =
    let live = exit_symbols parameters results in
    judged_as exit_frame_of (OfPart (exit_frame version pieces parameters results))
    (OfExitFrame version pieces parameters results)
    (exit_frame version pieces parameters results).Fails
    (head_fails pieces (ExitRestFails version pieces results live))
    (exit_back version pieces parameters results) (λ at bytes fault fails. fails)
    (head_judged pieces (OfExitRest version pieces results live)
    (ExitRestFails version pieces results live) (exit_rest_judged version pieces results live))
