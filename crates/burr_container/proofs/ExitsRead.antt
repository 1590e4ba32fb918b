-- Reading exit frames, part by part.
use Rattle.std.proofs.Common.{◌≡◌, ℕ, ◌==◌, Bool, IsTrue, Some, List, length, inl, ◌∙◌, subst, eqb-true}
use Rattle.std.specs.List.{list_all}
use Rattle.std.proofs.lemmas.Bool.{and_parts}
use Rattle.burr_forms.specs.Rules.Forms.{Form}
use Rattle.burr_container.specs.declared.fault.ContainerFault.{ContainerFault}
use Rattle.burr_container.specs.declared.fault.ContainerFault.TheVariants.{C4}
use Rattle.burr_container.specs.declared.reading.cursor.Cursor.{Cursor}
use Rattle.burr_container.specs.Rules.Plans.{Range, ExitFrame, exit_symbols}
use Rattle.burr_container.specs.Rules.Fitting.{is_range, is_tray, is_set_of, is_exit_frame}
use Rattle.burr_container.specs.Rules.Faults.{number, ranges, exit_guards, place, places, each, ExitRestFails, exit_frame}
use Rattle.burr_container.specs.Views.Reading.{IsAt}
use Rattle.burr_container.proofs.Common.Lists.{OfEach}
use Rattle.burr_container.proofs.Common.Frames.{FormPlaces, places_made}
use Rattle.burr_container.proofs.Common.Exits.{AfterGrip, OfExitGuards, exit_guards_fail, OfExitRest, exit_frame_of, exit_fits}
use Rattle.burr_container.proofs.Common.Judging.Exits.{exit_back}
use Rattle.burr_container.proofs.Chains.{small_of, after_part, stands_at, then_fails, then_stands}
use Rattle.burr_container.proofs.FramesRead.{head_then_fails, head_then_stands, head_after}

-- an exit frame has as many results as are counted
pub so_many_results : (version pieces parameters results : ℕ) (f : ExitFrame)
    → IsTrue (is_exit_frame version pieces parameters results f) → length f.results ≡ results
so_many_results version pieces parameters results f fits =
    let all =
    (exit_fits version pieces results (exit_symbols parameters results) f fits).ranges in
    eqb-true (length f.results) results
    (and_parts (length f.results == results) (list_all (λ r. is_range (Some r)) f.results) all).0

module _ (version pieces parameters results tray grip : ℕ)
    (cursor after_tray after_grip : Cursor)
    (tray_at : IsAt (number 1 C4 is_tray) cursor tray after_tray)
    (grip_at : IsAt (number 4 C4 (is_set_of pieces)) after_tray grip after_grip) where
  abbrev live_ones : List Bool
  live_ones = exit_symbols parameters results

  rest_fails : (fault : ContainerFault)
      → ExitRestFails version pieces results live_ones after_grip.at after_grip.rest.now fault
      → (exit_frame version pieces parameters results).Fails cursor.at cursor.rest.now fault
  rest_fails fault fails =
      head_then_fails pieces tray grip cursor after_tray after_grip tray_at grip_at
      (ExitRestFails version pieces results live_ones) fault fails

  pub ranges_fail_in_exit : (fault : ContainerFault)
      → (ranges results).Fails after_grip.at after_grip.rest.now fault
      → (exit_frame version pieces parameters results).Fails cursor.at cursor.rest.now fault
  ranges_fail_in_exit fault fails = rest_fails fault (inl fails)

  module _ (live : List Bool) (e : live ≡ exit_symbols parameters results) (rs : List Range)
      (after_ranges : Cursor) (ranges_at : IsAt (ranges results) after_grip rs after_ranges)
    where
      ranges_then_fail : (fault : ContainerFault)
          → exit_guards_fail version pieces live after_ranges.at after_ranges.rest.now fault
          → (exit_frame version pieces parameters results).Fails cursor.at cursor.rest.now fault
      ranges_then_fail fault fails =
          rest_fails fault
          (then_fails (ranges results) after_grip after_ranges rs
          (λ rs. exit_guards_fail version pieces live_ones) fault ranges_at
          (subst
          (λ (l : List Bool).
          exit_guards_fail version pieces l after_ranges.at after_ranges.rest.now fault) e fails))

      pub guards_fail_in_exit : (fault : ContainerFault)
          → (exit_guards version live).Fails after_ranges.at after_ranges.rest.now fault
          → (exit_frame version pieces parameters results).Fails cursor.at cursor.rest.now fault
      guards_fail_in_exit fault fails = ranges_then_fail fault (inl fails)

      module _ (guards : List Form) (after_guards : Cursor)
          (guards_at : IsAt (exit_guards version live) after_ranges guards after_guards) where
        pub places_fail_in_exit : (fault : ContainerFault)
            → (places pieces live).Fails after_guards.at after_guards.rest.now fault
            → (exit_frame version pieces parameters results).Fails cursor.at cursor.rest.now fault
        places_fail_in_exit fault fails =
            ranges_then_fail fault
            (then_fails (exit_guards version live) after_ranges after_guards guards
            (λ guards. each pieces (place live)) fault guards_at fails)

        pub exit_frame_at : (ps : FormPlaces) (next : Cursor)
            → IsAt (places pieces live) after_guards ps next
            → IsAt (exit_frame version pieces parameters results) cursor
            (exit_frame_of (tray, (grip, (rs, (guards, ps))))) next
        exit_frame_at ps next places_at =
            let values : ℕ × (ℕ × AfterGrip) = (tray, (grip, (rs, (guards, ps)))) in
            let r = next.rest.now in
            let from_guards : OfExitGuards version pieces live (guards, ps) after_ranges.rest.now r =
            then_stands (exit_guards version live) after_ranges after_guards guards
            (λ guards. OfEach pieces (place live)) ps r guards_at
            (places_made pieces live ps after_guards.rest.now r places_at.fits
            places_at.cut.parts) in
            let from_ranges : OfExitRest version pieces results live_ones (rs, (guards, ps))
            after_grip.rest.now r =
            then_stands (ranges results) after_grip after_ranges rs
            (λ rs. OfExitGuards version pieces live_ones) (guards, ps) r ranges_at
            (subst
            (λ (l : List Bool).
            OfExitGuards version pieces l (guards, ps) after_ranges.rest.now r) e from_guards) in
            let stand =
            head_then_stands pieces tray grip cursor after_tray after_grip tray_at grip_at
            (OfExitRest version pieces results live_ones) (rs, (guards, ps)) r from_ranges in
            stands_at (exit_frame version pieces parameters results) cursor next
            (exit_frame_of values)
            (exit_back version pieces parameters results values cursor.rest.now r
            (small_of cursor.rest.now cursor.bytes) stand)
            (after_part (places pieces live) after_guards next ps places_at
            ∙ after_part (exit_guards version live) after_ranges after_guards guards guards_at
            ∙ after_part (ranges results) after_grip after_ranges rs ranges_at
            ∙ head_after pieces tray grip cursor after_tray after_grip tray_at grip_at)
