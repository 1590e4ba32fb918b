-- A state and an exit frame: values of the state's forms for the parameters, the results and the
-- offsets beside those of the exit frame's.
use Rattle.std.proofs.Common.{◌≡◌, ℕ, ◌+◌, List, [], ◌++◌, length, drop, map, refl, sym, ap, subst, ◌∙◌, ℤ, inl, inr}
use Rattle.std.specs.Prelude.{⊤, Option, Result, Ok, Err}
use Rattle.std.proofs.lemmas.List.{length-map, length-append, map-append, drop_at}
use Rattle.burr_code.specs.Places.{tray_of}
use Rattle.burr_forms.specs.Rules.Forms.{Form, Point, value, values}
use Rattle.burr_forms.specs.Rules.Points.{InBox}
use Rattle.burr_forms.specs.Rules.Conditions.{Region, at_values}
use Rattle.burr_container.specs.Rules.Plans.{Range}
use Rattle.burr_frames.specs.Rules.FramedPlans.{FramedExit}
use Rattle.burr_frames.specs.Rules.States.{AbstractState, region_of}
use Rattle.burr_frames.specs.Views.Comparing.{offset_forms, Target, IsMetAt, IsMetBy}
use Rattle.burr_frames.specs.Rules.ControlRules.{IsAlikeExit, MeetsExitAt}
use Rattle.burr_frames.specs.Rules.Verdicts.{Breaks, everywhere, no_successor}
use Rattle.burr_frames.specs.declared.rule.Rule.{Rule}
use Rattle.burr_frames.specs.declared.rule.Rule.TheVariants as rules
use Rattle.burr_frames.specs.declared.state.meeting.Miss.{Miss}
use Rattle.burr_frames.specs.Views.ArrivalViews.{HoldsOrMisses}
use Rattle.burr_frames.specs.Views.Breaks.{missed_break}
use Rattle.burr_frames.specs.Views.Exits.{meeting_exit_with, miss_verdict}
use Rattle.burr_frames.proofs.Agreement.{parts_met, same_places, same_offsets, judged_of_same}

-- the forms by which a state is compared, and the target that it is compared with: that of an exit
-- frame over this many parameters
abbrev pub asked_at_exit : AbstractState → List Form → List Form → List Form
asked_at_exit s parameters results = (parameters ++ results) ++ offset_forms s.places

abbrev pub sought_at_exit : ℕ → FramedExit → Target
sought_at_exit parameters exit = record {
  free = parameters;
  ranges = exit.results;
  guards = exit.guards;
  least = [];
  same = offset_forms exit.places;
}

-- what is judged at each point of a state says the verdict
judged_everywhere : (s : AbstractState) (P : Point → Type 0) (rule : Rule) (result : Result ⊤ Miss) → HoldsOrMisses (region_of s) P result
    → everywhere s P rule no_successor (miss_verdict rule result)
judged_everywhere s P rule (Ok _) holds = inr (holds, refl)
judged_everywhere s P rule (Err miss) (point, first, is) =
    inl (point, first, ap (λ (p : Option Point). Breaks (missed_break rule p)) is)

-- the values meet the exit frame just where the state does
module _ (s : AbstractState) (exit : FramedExit) (parameters results : List Form)
    (many : length results ≡ length exit.results) (trays : map tray_of s.places ≡ map tray_of exit.places) where
  abbrev target : Target
  target = sought_at_exit (length parameters) exit

  abbrev asked : List Form
  asked = asked_at_exit s parameters results

  abbrev at_symbols : Point → List ℤ
  at_symbols point = values point (parameters ++ results)

  results_last : (point : Point) → drop (length parameters) (at_symbols point) ≡ values point results
  results_last point =
      ap (drop (length parameters)) (map-append (value point) parameters results)
      ∙ drop_at (values point parameters) (values point results) (length parameters) (length-map parameters (value point))

  parts : (point : Point)
      → IsMetBy target (values point asked) ≡ IsMetAt target (at_symbols point) [] (values point (offset_forms s.places))
  parts point =
      parts_met target (parameters ++ results) [] (offset_forms s.places) point
      (length-append parameters results ∙ ap (λ n. length parameters + n) many) refl

  exit_met : (point : Point) → IsMetBy target (values point asked) → MeetsExitAt s exit parameters results point
  exit_met point met =
      let m = subst (λ (X : Type 0). X) (parts point) met in (
        subst (InBox exit.results) (results_last point) m.within,
        m.guards,
        same_places point (at_symbols point) s.places exit.places trays m.same,
      )

  met_exit : (point : Point) → MeetsExitAt s exit parameters results point → IsMetBy target (values point asked)
  met_exit point meets =
      subst (λ (X : Type 0). X) (sym (parts point))
      (record {
        within = subst (InBox exit.results) (sym (results_last point)) meets.0;
        guards = meets.1;
        least = tt;
        same = same_offsets point (at_symbols point) s.places exit.places trays meets.2;
      })

  pub judged_exit : IsAlikeExit s exit → (result : Result ⊤ Miss) (r : Region) (ranges : List Range) (guards same given : List Form)
      → r ≡ region_of s → ranges ≡ exit.results → guards ≡ exit.guards → same ≡ offset_forms exit.places → given ≡ asked
      → HoldsOrMisses r (at_values (IsMetBy (record { free = length parameters; ranges = ranges; guards = guards; least = []; same = same })) given) result
      → meeting_exit_with s exit parameters results (miss_verdict rules.ExitMissed result)
  judged_exit alike result r ranges guards same given region_is ranges_are guards_are same_are given_is judged =
      inr (
        alike,
        judged_everywhere s (MeetsExitAt s exit parameters results) rules.ExitMissed result
            (judged_of_same (region_of s) (at_values (IsMetBy target) asked) (MeetsExitAt s exit parameters results) exit_met met_exit result
            (subst (λ (X : Type 0). X) (λ i. HoldsOrMisses (region_is i) (at_values (IsMetBy (record {
              free = length parameters;
              ranges = ranges_are i;
              guards = guards_are i;
              least = [];
              same = same_are i;
            })) (given_is i)) result) judged)),
      )
