-- Exit frames and procedures' lines as they are listed are right, and are read back.
use Rattle.std.proofs.Common.{◌≡◌, ℕ, ◌+◌, ◌-◌, ◌≤◌, ◌==◌, ◌⊎◌, inl, inr, List, [], ◌∷◌, ◌++◌, length, map, replicate, Bool, true, false, IsTrue, refl, sym, ap, subst, ◌∙◌, arith, lt-ltb, eqb-true, eq-eqb, leb-true, length-append, Option, Some, None, is_none, ◌&&◌, nat_le, nat_lt, if◌then◌else◌}
use Rattle.std.specs.List.{list_all}
use Rattle.std.specs.Fmt.{decimal}
use Rattle.std.proofs.lemmas.Bool.{and_from, and_parts}
use Rattle.std.proofs.lemmas.List.{length-replicate, length-map}
use Rattle.burr_code.specs.declared.limits.TheConstants.{SLOTS, MOST_GUARDS, MOST_PARAMETERS}
use Rattle.burr_container.specs.Rules.Plans.{Range, ExitFrame, PlanProcedure, exit_symbols}
use Rattle.burr_plantext.specs.Rules.Written.{natural_in, are_ends, is_form_over}
use Rattle.burr_plantext.specs.Rules.Lines.{ProcedureWords, GripWords, RangeWords, PieceWords}
use Rattle.burr_plantext.specs.Rules.Sources.{ExitSource}
use Rattle.burr_plantext.specs.Rules.Meaning.{range_in, exit_in, some_exit_in, result_count}
use Rattle.burr_plantext.specs.Rules.Checks.{P1, P3, P4, unless, is_empty, piece_check, exit_live, result_check, exit_guard_check, exit_piece_check}
use Rattle.burr_container.specs.Rules.Fitting.{is_tray, is_set_of, is_place, are_places, are_forms, is_exit_frame, are_parameters, are_results, are_ranges}
use Rattle.burr_plantext.specs.Rules.Listing.{form_word, ends_of, spots_of, grip_of, exit_listed, head_of}
use Rattle.burr_plantext.specs.Rules.Right.{is_exit, each_after, all_right, exit_source, has_exit}
use Rattle.burr_container.specs.Rules.Fitting as fitting
use Rattle.burr_plantext.proofs.Common.Numbers.{natural_back}
use Rattle.burr_plantext.proofs.Texts.Sets.{set_back}
use Rattle.burr_plantext.proofs.Texts.Frames.{grip_right, tray_back, set_few, ends_right, ends_back, forms_right, forms_back, spots_right, places_back, spots_length}
use Rattle.burr_plantext.proofs.Texts.Tests.{and_four, passes, all_back}

-- Counts

pub eight_symbols : (parameters results : ℕ) → parameters + results ≤ 8 → length (exit_symbols parameters results) ≡ 8
eight_symbols parameters results few =
    let n = parameters + results in
    length-append (replicate n true) (replicate (SLOTS - n) false) ∙ (λ i. length-replicate n true i + length-replicate (SLOTS - n) false i) ∙ omega (arith, few)

pub record Counts (version : ℕ) (p : PlanProcedure) : Type 0 where
  pub parameters : p.parameters ≤ 4
  pub results : p.results ≤ 2
  pub old : version ≡ 1 → p.results ≡ 0

pub most_by : (main : Bool) (n a : ℕ) → IsTrue (nat_le n (if main then 0 else a)) → n ≤ a
most_by true n a h = let low = leb-true n 0 h in omega arith
most_by false n a h = leb-true n a h

pub results_most : (main two : Bool) (n : ℕ) → IsTrue (nat_le n (if main then 0 else (if two then 2 else 0))) → (n ≤ 2) × (two ≡ false → n ≡ 0)
results_most true two n h = let low = leb-true n 0 h in (omega arith, λ e. omega arith)
results_most false true n h = let low = leb-true n 2 h in (low, λ e. absurd (cc))
results_most false false n h = let low = leb-true n 0 h in (omega arith, λ e. omega arith)

pub counts : (version : ℕ) (main : Bool) (p : PlanProcedure) → IsTrue ((are_parameters main p.parameters && are_results version main p.results)) → Counts version p
counts version main p h =
    let parts = and_parts (nat_le p.parameters (if main then 0 else MOST_PARAMETERS)) (nat_le p.results (if main then 0 else (if version == 2 then 2 else 0))) h in
    let results = results_most main (version == 2) p.results parts.1 in
    record { parameters = most_by main p.parameters 4 parts.0; results = results.0; old = λ e. results.1 (ap (λ (v : ℕ). v == 2) e) }

-- the number of results that is given, or none
given_results : (version : ℕ) (p : PlanProcedure) → (version ≡ 1) ⊎ (version ≡ 2) → Counts version p → result_count (if version == 2 then Some (decimal p.results) else None) ≡ p.results
given_results version p (inl one) c = ap (λ (v : ℕ). result_count (if v == 2 then Some (decimal p.results) else None)) one ∙ sym (c.old one)
given_results version p (inr two) c = ap (λ (v : ℕ). result_count (if v == 2 then Some (decimal p.results) else None)) two ∙ natural_back p.results (let k = c.results in omega arith)

module _ (version n : ℕ) (p : PlanProcedure) (versions : (version ≡ 1) ⊎ (version ≡ 2)) (c : Counts version p) where
  abbrev head : ProcedureWords
  head = head_of version n p

  pub results_back : result_count head.results ≡ p.results
  results_back = given_results version p versions c

  pub parameters_back : natural_in head.parameters ≡ p.parameters
  parameters_back = natural_back p.parameters (let k = c.parameters in omega arith)

  abbrev live : List Bool
  live = exit_symbols p.parameters p.results

  same_live : exit_live head ≡ live
  same_live = λ i. exit_symbols (parameters_back i) (results_back i)

  eight_live : length live ≡ 8
  eight_live = eight_symbols p.parameters p.results (let k = c.parameters in let l = c.results in omega arith)

  over_live : (x : List ℕ) → IsTrue (is_form_over live x) → IsTrue (is_form_over (exit_live head) x)
  over_live x k = subst (λ (l : List Bool). IsTrue (is_form_over l x)) (sym same_live) k

  results_right : (grip : GripWords) (all : List Range) (before : List RangeWords) → length before + length all ≤ p.results → IsTrue (list_all (λ (r : Range). fitting.is_range (Some r)) all)
      → IsTrue (each_after (λ b r. is_none (result_check head (exit_source grip b [] []) r)) before (map ends_of all))
  results_right grip [] before few h = refl
  results_right grip (r ∷ all) before few h =
      let parts = and_parts (fitting.is_range (Some r)) (list_all (λ (r : Range). fitting.is_range (Some r)) all) h in
      let e = exit_source grip before [] [] in
      and_from (is_none (result_check head e (ends_of r))) (each_after (λ b r. is_none (result_check head (exit_source grip b [] []) r)) (before ++ ends_of r ∷ []) (map ends_of all))
      (passes (nat_lt (length before) (result_count head.results)) P1 (unless (are_ends (ends_of r).low (ends_of r).high) P3 None)
      (lt-ltb (length before) (result_count head.results) (omega (arith, results_back)))
      (passes (are_ends (ends_of r).low (ends_of r).high) P3 None (ends_right r parts.0) refl))
      (results_right grip all (before ++ ends_of r ∷ []) (omega (arith, length-append before (ends_of r ∷ []))) parts.1)

  record Fitting (pieces : ℕ) (f : ExitFrame) : Type 0 where
    tray : IsTrue (is_tray f.tray)
    grip : IsTrue (is_set_of pieces f.grip)
    size : length f.results ≡ p.results
    results : IsTrue (list_all (λ (r : Range). fitting.is_range (Some r)) f.results)
    guards : IsTrue (are_forms (if version == 2 then MOST_GUARDS else 0) live f.guards)
    places : IsTrue (are_places pieces live f.places)

  fits_of : (pieces : ℕ) (f : ExitFrame) → IsTrue (is_exit_frame version pieces p.parameters p.results f) → Fitting pieces f
  fits_of pieces f h =
      let guards = are_forms (if version == 2 then MOST_GUARDS else 0) live f.guards in
      let size = length f.results == p.results in
      let rest = are_ranges p.results f.results && guards && are_places pieces live f.places in
      let z = and_parts (is_tray f.tray && is_set_of pieces f.grip) rest h in
      let tests = and_four z.1 in
      let a = and_parts (is_tray f.tray) (is_set_of pieces f.grip) z.0 in
      record { tray = a.0; grip = a.1; size = eqb-true (length f.results) p.results tests.0; results = tests.1; guards = tests.2; places = tests.3 }

  module _ (pieces : ℕ) (few : pieces ≤ 32) (f : ExitFrame) (h : IsTrue (is_exit_frame version pieces p.parameters p.results f)) where
    fit : Fitting pieces f
    fit = fits_of pieces f h

    abbrev listed : ExitSource
    listed = record { grip = grip_of f.tray f.grip; results = map ends_of f.results; guards = map form_word f.guards; pieces = spots_of 0 f.places }

    all_given : IsTrue (length (map ends_of f.results) == result_count head.results)
    all_given = eq-eqb (length (map ends_of f.results)) (result_count head.results) (length-map f.results ends_of ∙ fit.size ∙ sym results_back)

    guards_right : (version ≡ 1) ⊎ (version ≡ 2) → IsTrue (all_right (λ before g. exit_guard_check version head (exit_source listed.grip listed.results before []) g) listed.guards)
    guards_right (inl one) =
        let none = subst (λ (v : ℕ). IsTrue (are_forms (if v == 2 then MOST_GUARDS else 0) live f.guards)) one fit.guards in
        let low = leb-true (length f.guards) 0 (and_parts (nat_le (length f.guards) 0) (list_all (fitting.is_form live) f.guards) none).0 in
        by f.guards low
      where
        by : (guards : _) → length guards ≤ 0 → IsTrue (all_right (λ before g. exit_guard_check version head (exit_source listed.grip listed.results before []) g) (map form_word guards))
        by [] k = refl
        by (g ∷ gs) k = absurd (omega arith)
    guards_right (inr two) =
        let some = subst (λ (v : ℕ). IsTrue (are_forms (if v == 2 then MOST_GUARDS else 0) live f.guards)) two fit.guards in
        let parts = and_parts (nat_le (length f.guards) 4) (list_all (fitting.is_form live) f.guards) some in
        forms_right live eight_live 4 (λ before g. exit_guard_check version head (exit_source listed.grip listed.results before []) g)
        (λ before x over room. passes ((version == 2) && is_empty {A = PieceWords} [] && (length listed.results == result_count head.results)) P1
        (unless (is_form_over (exit_live head) x) P3 (unless (nat_lt (length before) MOST_GUARDS) P4 None))
        (and_from ((version == 2) && true) (length listed.results == result_count head.results) (and_from (version == 2) true (ap (λ (v : ℕ). v == 2) two) refl) all_given)
        (passes (is_form_over (exit_live head) x) P3 (unless (nat_lt (length before) MOST_GUARDS) P4 None) (over_live x over)
        (passes (nat_lt (length before) MOST_GUARDS) P4 None (lt-ltb (length before) 4 room) refl)))
        f.guards [] (let k = leb-true (length f.guards) 4 parts.0 in omega arith) parts.1

    forms_of_guards : IsTrue (list_all (fitting.is_form live) f.guards)
    forms_of_guards = (and_parts (nat_le (length f.guards) (if version == 2 then MOST_GUARDS else 0)) (list_all (fitting.is_form live) f.guards) fit.guards).1

    pub exit_right : IsTrue (is_exit version pieces head listed)
    exit_right =
        let parts = and_parts (length f.places == pieces) (list_all (is_place live) f.places) fit.places in
        let size : length f.places ≡ pieces = eqb-true (length f.places) pieces parts.0 in
        and_from _ _ (and_from _ _ (and_from _ _ (and_from _ _ (grip_right pieces f.tray f.grip fit.tray fit.grip)
        (results_right listed.grip f.results [] (let k = fit.size in omega arith) fit.results))
        (guards_right versions))
        (spots_right live eight_live (λ before q. exit_piece_check head (exit_source listed.grip listed.results listed.guards before) q)
        (λ before q right. passes (length listed.results == result_count head.results) P1 (piece_check (exit_live head) before q) all_given
        (subst (λ (l : List Bool). IsTrue (is_none (piece_check l before q))) (sym same_live) right)) 0 f.places [] refl (omega arith) parts.1))
        (eq-eqb (length (spots_of 0 f.places)) pieces (spots_length 0 f.places ∙ size))

    pub exit_back : exit_in listed ≡ f
    exit_back =
        let places = and_parts (length f.places == pieces) (list_all (is_place live) f.places) fit.places in
        let tray = tray_back f.tray fit.tray in
        let grip = set_back f.grip (set_few pieces f.grip few fit.grip) in
        let results = all_back (λ (r : Range). fitting.is_range (Some r)) ends_of range_in ends_back f.results fit.results in
        let guards = forms_back live eight_live f.guards forms_of_guards in
        let spots = places_back live eight_live 0 f.places places.1 in
        λ i. record { tray = tray i; grip = grip i; results = results i; guards = guards i; places = spots i }

  pub some_exit_right : (pieces : ℕ) (main : Bool) (exit : Option ExitFrame) → pieces ≤ 32 → IsTrue (fitting.is_exit version main pieces p.parameters p.results exit)
      → IsTrue (has_exit version pieces main head (exit_listed exit))
  some_exit_right pieces true None few h = refl
  some_exit_right pieces true (Some f) few h = grind arith
  some_exit_right pieces false None few h = grind arith
  some_exit_right pieces false (Some f) few h = exit_right pieces few f h

  pub some_exit_back : (pieces : ℕ) (main : Bool) (exit : Option ExitFrame) → pieces ≤ 32 → IsTrue (fitting.is_exit version main pieces p.parameters p.results exit)
      → some_exit_in (exit_listed exit) ≡ exit
  some_exit_back pieces main None few h = refl
  some_exit_back pieces true (Some f) few h = grind arith
  some_exit_back pieces false (Some f) few h = ap (λ (e : ExitFrame). Some e) (exit_back pieces few f h)
