-- What a line makes of an exit frame that has been read so far, by its words.
use Rattle.std.proofs.Common.{◌≡◌, ℕ, ◌≤◌, List, [], ◌∷◌, ◌++◌, length, map, Bool, true, false, not, Option, Some, None, refl, sym, ap, subst, ◌∙◌, arith}
use Rattle.std.specs.Prelude.{◌&&◌, ◌==◌, nat_lt, Result, Ok, Err, MatchResult}
use Rattle.std.proofs.lemmas.Bool.{and_parts, both_ways, not-true, ltb-true, ltb-false, lt-ltb, eq-eqb, ne_eqb}
use Rattle.std.proofs.lemmas.Bool.Decides.{nat_tests}
use Rattle.std.proofs.lemmas.List.{length-map, map-append}
use Rattle.burr_code.specs.declared.limits.TheConstants.{MOST_GUARDS}
use Rattle.burr_container.specs.Rules.Plans.{ExitFrame, exit_symbols}
use Rattle.burr_plantext.specs.Rules.Written.{form_in, are_ends, is_form_over}
use Rattle.burr_plantext.specs.Rules.Lines.{RangeWords, PieceWords, ProcedureWords}
use Rattle.burr_plantext.specs.Rules.Sources.{ExitSource}
use Rattle.burr_plantext.specs.Rules.Meaning.{range_in, place_in, result_count}
use Rattle.burr_plantext.specs.Rules.Checks.{FaultKind, P1, P3, P4, unless, is_empty, piece_check, exit_live, result_check, exit_guard_check, exit_piece_check}
use Rattle.burr_asm.specs.declared.fault.AsmFault.{AsmFault}
use Rattle.burr_asm.specs.declared.text.exit.Exit.{Exit}
use Rattle.burr_asm.specs.Views.Faults.{IsRefusal}
use Rattle.burr_asm.specs.Views.Frames.{form_check}
use Rattle.burr_asm.specs.Views.Exits.{IsExitFor}
use Rattle.burr_asm.specs.Views.ExitFrames.{AddsExitGuard, AddsExitPiece, with_pieces}
use Rattle.burr_asm.proofs.Refusals.{failed, passed}
use Rattle.burr_asm.proofs.FrameParts.{empty_map}

-- a number that is at most `most` equals it just where it isn't below it
all_there : (n most : ℕ) → n ≤ most → (n == most) ≡ not (nat_lt n most)
all_there n most few = grind (arith, nat_tests, few)

swapped : (x y z : Bool) → (x && y && z) ≡ (x && z && y)
swapped true true true = refl
swapped true false true = refl
swapped _ _ _ = refl

none : (a b : Bool) → (a && b && false) ≡ false
none true true = refl
none _ _ = refl

module _ (x : Exit) (version : ℕ) (h : ProcedureWords) (e : ExitSource) (is : IsExitFor x version h e) where
  -- results are still due
  abbrev lacks : Bool
  lacks = nat_lt (length x.frame.results) x.signature.results

  many : length x.frame.results ≡ length e.results
  many = ap (λ (f : ExitFrame). length f.results) is.frame ∙ length-map e.results range_in

  lacks_is : lacks ≡ nat_lt (length e.results) (result_count h.results)
  lacks_is i = nat_lt (many i) (is.signature.results i)

  whole_is : (length e.results == result_count h.results) ≡ not lacks
  whole_is = all_there (length e.results) (result_count h.results) is.few ∙ ap not (sym lacks_is)

  -- Results

  first_is : (is_empty e.guards && is_empty e.pieces && nat_lt (length e.results) (result_count h.results)) ≡ lacks
  first_is = by (nat_lt (length e.results) (result_count h.results)) refl ∙ sym lacks_is
    where
      by : (t : Bool) → nat_lt (length e.results) (result_count h.results) ≡ t → (is_empty e.guards && is_empty e.pieces && t) ≡ t
      by true l =
          let order = is.order (ltb-true (length e.results) (result_count h.results) l) in
          λ i. is_empty (order.0 i) && is_empty (order.1 i) && true
      by false l = none (is_empty e.guards) (is_empty e.pieces)

  -- the words are no ends of a range
  pub no_result : (ends : RangeWords) (test : Bool) → test ≡ lacks → test ≡ true → are_ends ends.low ends.high ≡ false → result_check h e ends ≡ Some P3
  no_result ends test test_is more no_ends = passed _ P1 (unless (are_ends ends.low ends.high) P3 None) (first_is ∙ sym test_is ∙ more) ∙ failed _ P3 None no_ends

  -- no result may stand here
  pub late_result : (ends : RangeWords) (test : Bool) → test ≡ lacks → test ≡ false → result_check h e ends ≡ Some P1
  late_result ends test test_is no_more = failed _ P1 (unless (are_ends ends.low ends.high) P3 None) (first_is ∙ sym test_is ∙ no_more)

  -- Guards

  taken_is : ((x.signature.version == 2) && not lacks && is_empty x.frame.places) ≡ ((version == 2) && is_empty e.pieces && (length e.results == result_count h.results))
  taken_is =
      (λ i. (x.signature.version == 2) && sym whole_is i && is_empty ((is.frame i).places))
      ∙ (λ i. (is.signature.version_is i == 2) && (length e.results == result_count h.results) && empty_map (λ (p : PieceWords). place_in p.spot) e.pieces i)
      ∙ swapped (version == 2) (length e.results == result_count h.results) (is_empty e.pieces)

  live_is : (live : List Bool) → live ≡ exit_symbols x.signature.parameters x.signature.results → live ≡ exit_live h
  live_is live live_so = live_so ∙ (λ i. exit_symbols (is.signature.parameters i) (is.signature.results i))

  -- no guard may stand here
  pub late_guard : (word : List ℕ) (test : Bool) → test ≡ ((x.signature.version == 2) && not lacks && is_empty x.frame.places) → test ≡ false → exit_guard_check version h e word ≡ Some P1
  late_guard word test test_is no_more = failed _ P1 (unless (is_form_over (exit_live h) word) P3 (unless (nat_lt (length e.guards) MOST_GUARDS) P4 None)) (sym taken_is ∙ sym test_is ∙ no_more)

  same_guards : length x.frame.guards ≡ length e.guards
  same_guards = ap (λ (f : ExitFrame). length f.guards) is.frame ∙ length-map e.guards form_in

  guard_checked : (live : List Bool) (word : List ℕ) (test : Bool) → live ≡ exit_symbols x.signature.parameters x.signature.results
      → test ≡ ((x.signature.version == 2) && not lacks && is_empty x.frame.places) → test ≡ true → form_check MOST_GUARDS live x.frame.guards word ≡ exit_guard_check version h e word
  guard_checked live word test live_so test_is more =
      (λ i. unless (is_form_over (live_is live live_so i) word) P3 (unless (nat_lt (same_guards i) MOST_GUARDS) P4 None))
      ∙ sym (passed _ P1 (unless (is_form_over (exit_live h) word) P3 (unless (nat_lt (length e.guards) MOST_GUARDS) P4 None)) (sym taken_is ∙ sym test_is ∙ more))

  -- A guard more, or its refusal.
  pub guard_added : {A : Type 0} (live : List Bool) (word : List ℕ) (line : ℕ) (test : Bool) (new : ExitFrame) (result : Result A AsmFault)
      → live ≡ exit_symbols x.signature.parameters x.signature.results → test ≡ ((x.signature.version == 2) && not lacks && is_empty x.frame.places) → test ≡ true
      → AddsExitGuard live x.frame word line new result
      → MatchResult result (λ done. (exit_guard_check version h e word ≡ None) × IsExitFor (record x { frame = new }) version h (record e { guards = e.guards ++ word ∷ [] }))
      (IsRefusal (exit_guard_check version h e word) line)
  guard_added live word line test new (Ok done) live_so test_is more p =
      let tests = and_parts ((x.signature.version == 2) && not lacks) (is_empty x.frame.places) (sym test_is ∙ more) in
      let full = and_parts (x.signature.version == 2) (not lacks) tests.0 in
      let put : x.frame.guards ++ form_in word ∷ [] ≡ map form_in (e.guards ++ word ∷ []) = (λ i. (is.frame i).guards ++ form_in word ∷ []) ∙ sym (map-append form_in e.guards (word ∷ [])) in (
        sym (guard_checked live word test live_so test_is more) ∙ p.0,
        record {
          signature = is.signature;
          frame = p.1 ∙ (λ i. record (is.frame i) { guards = put i });
          few = is.few;
          order = λ l. absurd (both_ways lacks (not-true lacks full.1) (lacks_is ∙ lt-ltb (length e.results) (result_count h.results) l));
        },
      )
  guard_added live word line test new (Err fault) live_so test_is more p = subst (λ (k : Option FaultKind). IsRefusal k line fault) (guard_checked live word test live_so test_is more) p

  -- Pieces

  -- results are still due
  pub early_piece : (piece : PieceWords) (test : Bool) → test ≡ lacks → test ≡ true → exit_piece_check h e piece ≡ Some P1
  early_piece piece test test_is due = failed _ P1 (piece_check (exit_live h) e.pieces piece) (whole_is ∙ ap not (sym test_is ∙ due))

  piece_checked : (live : List Bool) (piece : PieceWords) (test : Bool) → live ≡ exit_symbols x.signature.parameters x.signature.results → test ≡ lacks → test ≡ false
      → piece_check live e.pieces piece ≡ exit_piece_check h e piece
  piece_checked live piece test live_so test_is full =
      ap (λ (l : List Bool). piece_check l e.pieces piece) (live_is live live_so) ∙ sym (passed _ P1 (piece_check (exit_live h) e.pieces piece) (whole_is ∙ ap not (sym test_is ∙ full)))

  -- A piece more, or its refusal.
  pub piece_added : {A : Type 0} (live : List Bool) (piece : PieceWords) (line : ℕ) (test : Bool) (new : ExitFrame) (result : Result A AsmFault)
      → live ≡ exit_symbols x.signature.parameters x.signature.results → test ≡ lacks → test ≡ false
      → AddsExitPiece live x.frame piece line new result
      → MatchResult result (λ done. (exit_piece_check h e piece ≡ None) × IsExitFor (record x { frame = new }) version h (record e { pieces = e.pieces ++ piece ∷ [] }))
      (IsRefusal (exit_piece_check h e piece) line)
  piece_added {A = A} live piece line test new result live_so test_is full adds = by result (adds e.pieces (ap (λ (f : ExitFrame). f.places) is.frame))
    where
      checked : piece_check live e.pieces piece ≡ exit_piece_check h e piece
      checked = piece_checked live piece test live_so test_is full

      by : (r : Result A AsmFault)
          → MatchResult r (λ done. (piece_check live e.pieces piece ≡ None) × (new ≡ with_pieces x.frame (e.pieces ++ piece ∷ []))) (IsRefusal (piece_check live e.pieces piece) line)
          → MatchResult r (λ done. (exit_piece_check h e piece ≡ None) × IsExitFor (record x { frame = new }) version h (record e { pieces = e.pieces ++ piece ∷ [] }))
          (IsRefusal (exit_piece_check h e piece) line)
      by (Ok done) p = (
        sym checked ∙ p.0,
        record {
          signature = is.signature;
          frame = p.1 ∙ (λ i. with_pieces (is.frame i) (e.pieces ++ piece ∷ []));
          few = is.few;
          order = λ l. absurd (both_ways lacks (sym test_is ∙ full) (lacks_is ∙ lt-ltb (length e.results) (result_count h.results) l));
        },
      )
      by (Err fault) p = subst (λ (k : Option FaultKind). IsRefusal k line fault) checked p
