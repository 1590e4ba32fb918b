-- The text of an accepted plan whose run was compared.
use Rattle.std.proofs.Common.{◌≡◌, ◌++◌, ℕ, List, [], subst, sym}
use Rattle.std.specs.Prelude.{codes}
use Rattle.burr_assembly.specs.Rules.Text.{Assembly}
use Rattle.burr_container.specs.Rules.Plans.{Plan}
use Rattle.burr_container.specs.Views.Containers.{ContainerView, IsContainer}
use Rattle.burr_container.specs.Laws.PlanBytes.{ContainerOfOnePlan}
use Rattle.burr_plantext.specs.Rules.Listing.{IsListing}
use Rattle.burr_runs.specs.declared.text_runs.Outcome.TheVariants.{Apart}
use Rattle.burr_runs.specs.Rules.Headline.{IsSafeSheetOf}
use Rattle.burr_verify.specs.Rules.Accepting.{Judged, judged, IsAccepted}
use Rattle.burr_from_sheet.specs.Drafts.{RunsAs}
use Rattle.burr_from_sheet.specs.SheetPlans.{IsPlanTextOf}

-- an accepted plan whose run has these move lines, and its listing
pub text_of_run : (kept : ContainerView) (a : Assembly) (j : Judged) (lines text : List ℕ) → ContainerOfOnePlan
    → j ≡ judged kept a → IsAccepted j → RunsAs j lines
    → ((p : Plan) → IsContainer kept p → IsListing p text) → IsPlanTextOf a lines text
text_of_run kept a j lines text one same accepted runs listed =
    subst (λ (k : Judged). IsPlanTextOf k.assembly lines text) same
    (of_judged j lines text one accepted runs
    (subst (λ (k : Judged). (p : Plan) → IsContainer k.container p → IsListing p text) (sym same) listed))
  where
    of_judged : (j : Judged) (lines text : List ℕ) → ContainerOfOnePlan → IsAccepted j → RunsAs j lines
        → ((p : Plan) → IsContainer j.container p → IsListing p text) → IsPlanTextOf j.assembly lines text
    of_judged j lines text one accepted (p, is, sheet, runs, parts) listed =
        let same : accepted.plan ≡ p =
        one j.container accepted.plan p (accepted.plan, accepted.fits, accepted.is_container) accepted.is_container is in
        record {
          plan = accepted.plan;
          fits = accepted.fits;
          listing = listed accepted.plan accepted.is_container;
          framed = accepted.framed;
          closing = parts.0;
          sheet = subst (λ (q : Plan). IsSafeSheetOf j.assembly q [] (lines ++ (codes "levels " ++ parts.0)) Apart) (sym same)
              (subst (λ (output : List ℕ). IsSafeSheetOf j.assembly p [] output Apart) parts.1 runs);
        }
