-- For crates above: exit frames are lawful parts, of up to 32 pieces.
use Rattle.std.proofs.Common.{◌≡◌, ℕ, ◌≤◌, ◌&&◌, ◌==◌, Bool, true, false, IsTrue, Some, List, [], ◌∷◌, ◌++◌, length, refl, ap, ◌∙◌, arith, append_assoc, eqb-true, leb-true, nat_le, if◌then◌else◌}
use Rattle.std.specs.List.{list_all}
use Rattle.std.proofs.lemmas.Bool.{and_parts}
use Rattle.byteorder.specs.Endian.{big_bytes}
use Rattle.burr_code.specs.declared.limits.TheConstants.{MOST_GUARDS}
use Rattle.burr_forms.specs.Rules.Forms.{Form}
use Rattle.burr_container.specs.Rules.Plans.{Range, ExitFrame, exit_symbols}
use Rattle.burr_container.specs.Rules.Spelling.{forms_bytes, ranges_bytes, exit_guards_bytes, places_bytes}
use Rattle.burr_container.specs.Rules.Fitting.{is_form, is_range, are_ranges, are_forms, most_exit_guards, is_tray, is_set_of, are_places, is_exit_rest}
use Rattle.burr_container.specs.Rules.Faults.{Failing, Part, forms, range, ranges, place, exit_guards, ExitRestFails, exit_frame, by_test, passes, first, each}
use Rattle.burr_container.proofs.Common.Spelled.{apart_three}
use Rattle.burr_container.proofs.Common.Lawful.{Front, Lawful, OfPart, OfFirst, OfNothing, Sound, first_lawful, lawful_as, passes_lawful}
use Rattle.burr_container.proofs.Common.Lists.{OfEach, each_lawful}
use Rattle.burr_container.proofs.Common.Places.{forms_sound, place_sound}
use Rattle.burr_container.proofs.Common.Slots.{range_sound}
use Rattle.burr_container.proofs.Common.Frames.{FormPlaces, OfHead, head_fails, head_lawful, of_head, places_made}

-- The ranges of results

ranges_made : (count : ℕ) (rs : List Range) (bytes r : List ℕ) → OfPart (ranges count) rs bytes r
    → (all : List Range) × (all ≡ rs) × OfEach count range all bytes r
ranges_made count rs bytes r here =
    let parts = and_parts (length rs == count) (list_all (λ r. is_range (Some r)) rs) here.0 in
    (rs, refl, (eqb-true (length rs) count parts.0, parts.1, here.1))

pub ranges_sound : (count : ℕ) → Sound (ranges count)
ranges_sound count =
    lawful_as (λ (rs : List Range). rs) (OfPart (ranges count)) (OfEach count range)
    (ranges count).Fails (each count range) (ranges_made count) (λ at bytes fault fails. fails)
    (each_lawful range count range_sound)

-- The guards, by whether the version is 2

abbrev pub guards_by : Bool → List Bool → Part (List Form)
guards_by second live = record {
  bytes = λ guards. if second then forms_bytes live guards else [];
  fits = are_forms (if second then MOST_GUARDS else 0) live;
  Fails = by_test second (forms MOST_GUARDS live).Fails passes;
}

no_guards : (live : List Bool) (guards : List Form) (bytes r : List ℕ)
    → OfPart (guards_by false live) guards bytes r
    → (u : Unit {0}) × ([] ≡ guards) × OfNothing u bytes r
no_guards live [] bytes r here = (tt, refl, here.1)
no_guards live (g ∷ guards) bytes r here =
    let few =
    leb-true (length (g ∷ guards)) 0
    (and_parts (nat_le (length (g ∷ guards)) 0) (list_all (is_form live) (g ∷ guards)) here.0).0 in
    absurd (omega (arith, few))

guards_by_sound : (second : Bool) (live : List Bool) → Sound (guards_by second live)
guards_by_sound true live = forms_sound MOST_GUARDS live (omega arith)
guards_by_sound false live =
    lawful_as (λ (u : Unit {0}). []) (OfPart (guards_by false live)) OfNothing passes passes
    (no_guards live) (λ at bytes fault fails. fails) passes_lawful

pub exit_guards_sound : (version : ℕ) (live : List Bool) → Sound (exit_guards version live)
exit_guards_sound version live = guards_by_sound (version == 2) live

-- The parts of an exit frame after its grip

abbrev pub AfterResults : Type 0
AfterResults = List Form × FormPlaces

abbrev pub AfterGrip : Type 0
AfterGrip = List Range × AfterResults

abbrev pub OfExitGuards : ℕ → ℕ → List Bool → Front AfterResults
OfExitGuards version pieces live =
    OfFirst (exit_guards version live) (λ guards. OfEach pieces (place live))

abbrev pub exit_guards_fail : ℕ → ℕ → List Bool → Failing
exit_guards_fail version pieces live =
    first (exit_guards version live) (λ guards. each pieces (place live))

exit_guards_lawful : (version pieces : ℕ) (live : List Bool)
    → Lawful (OfExitGuards version pieces live) (exit_guards_fail version pieces live)
exit_guards_lawful version pieces live =
    first_lawful (exit_guards version live) (λ guards. OfEach pieces (place live))
    (λ guards. each pieces (place live)) (exit_guards_sound version live)
    (λ guards fits. each_lawful (place live) pieces (place_sound live))

abbrev pub OfExitRest : ℕ → ℕ → ℕ → List Bool → Front AfterGrip
OfExitRest version pieces results live =
    OfFirst (ranges results) (λ rs. OfExitGuards version pieces live)

exit_rest_lawful : (version pieces results : ℕ) (live : List Bool)
    → Lawful (OfExitRest version pieces results live) (ExitRestFails version pieces results live)
exit_rest_lawful version pieces results live =
    first_lawful (ranges results) (λ rs. OfExitGuards version pieces live)
    (λ rs. exit_guards_fail version pieces live) (ranges_sound results)
    (λ rs fits. exit_guards_lawful version pieces live)

-- Exit frames

abbrev pub exit_frame_of : ℕ × (ℕ × AfterGrip) → ExitFrame
exit_frame_of v =
    record {
      tray = v.0;
      grip = v.1.0;
      results = v.1.1.0;
      guards = v.1.1.1.0;
      places = v.1.1.1.1;
    }

pub exit_apart : (tray : ℕ) (grip results guards places r : List ℕ)
    → (tray ∷ grip ++ (results ++ guards ++ places)) ++ r
    ≡ tray ∷ (grip ++ (results ++ (guards ++ (places ++ r))))
exit_apart tray grip results guards places r =
    ap (λ (all : List ℕ). tray ∷ all)
    (append_assoc grip (results ++ guards ++ places) r
    ∙ ap (λ (rest : List ℕ). grip ++ rest) (apart_three results guards places r))

-- what an exit frame that fits is asked
pub record ExitFits (version pieces results : ℕ) (live : List Bool) (f : ExitFrame) : Type 0 where
  pub tray : IsTrue (is_tray f.tray)
  pub grip : IsTrue (is_set_of pieces f.grip)
  pub ranges : IsTrue (are_ranges results f.results)
  pub guards : IsTrue (are_forms (most_exit_guards version) live f.guards)
  pub places : IsTrue (are_places pieces live f.places)

pub exit_fits : (version pieces results : ℕ) (live : List Bool) (f : ExitFrame)
    → IsTrue (is_tray f.tray && is_set_of pieces f.grip && is_exit_rest version pieces results live f)
    → ExitFits version pieces results live f
exit_fits version pieces results live f fits =
    let a =
    and_parts (is_tray f.tray && is_set_of pieces f.grip)
    (is_exit_rest version pieces results live f) fits in
    let b = and_parts (is_tray f.tray) (is_set_of pieces f.grip) a.0 in
    let c =
    and_parts
    (are_ranges results f.results && are_forms (most_exit_guards version) live f.guards)
    (are_places pieces live f.places) a.1 in
    let d =
    and_parts (are_ranges results f.results) (are_forms (most_exit_guards version) live f.guards)
    c.0 in
    record { tray = b.0; grip = b.1; ranges = d.0; guards = d.1; places = c.1 }

abbrev pub OfExitFrame : ℕ → ℕ → ℕ → ℕ → Front (ℕ × (ℕ × AfterGrip))
OfExitFrame version pieces parameters results =
    OfHead pieces (OfExitRest version pieces results (exit_symbols parameters results))

of_exit_frame : (version pieces parameters results : ℕ) → pieces ≤ 32 → (f : ExitFrame)
    (bytes r : List ℕ) → OfPart (exit_frame version pieces parameters results) f bytes r
    → (v : ℕ × (ℕ × AfterGrip)) × (exit_frame_of v ≡ f)
    × OfExitFrame version pieces parameters results v bytes r
of_exit_frame version pieces parameters results few f bytes r here =
    let live = exit_symbols parameters results in
    let fits = exit_fits version pieces results live f here.0 in
    let after_guards = places_bytes live f.places ++ r in
    let after_results = exit_guards_bytes version live f.guards ++ after_guards in
    let rest = ranges_bytes f.results ++ after_results in
    let from_guards : OfExitGuards version pieces live (f.guards, f.places) after_results r = (
      after_guards,
      (fits.guards, refl),
      places_made pieces live f.places after_guards r fits.places refl,
    ) in (
      (f.tray, (f.grip, (f.results, (f.guards, f.places)))),
      refl,
      of_head pieces f.tray f.grip (OfExitRest version pieces results live)
          (f.results, (f.guards, f.places)) bytes rest r few fits.tray fits.grip
          (here.1
          ∙ exit_apart f.tray (big_bytes 4 f.grip) (ranges_bytes f.results)
          (exit_guards_bytes version live f.guards) (places_bytes live f.places) r)
          (after_results, (fits.ranges, refl), from_guards),
    )

pub exit_frame_sound : (version pieces parameters results : ℕ) → pieces ≤ 32
    → Sound (exit_frame version pieces parameters results)
exit_frame_sound version pieces parameters results few =
    let live = exit_symbols parameters results in
    lawful_as exit_frame_of (OfPart (exit_frame version pieces parameters results))
    (OfExitFrame version pieces parameters results)
    (exit_frame version pieces parameters results).Fails
    (head_fails pieces (ExitRestFails version pieces results live))
    (of_exit_frame version pieces parameters results few) (λ at bytes fault fails. fails)
    (head_lawful pieces (OfExitRest version pieces results live)
    (ExitRestFails version pieces results live) (exit_rest_lawful version pieces results live))
