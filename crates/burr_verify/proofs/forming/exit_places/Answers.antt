-- One more is read.
use Rattle.std.proofs.Common.{rules, ◌≡◌, ◌∙◌, [], ◌∷◌, ◌++◌, sym, ap, subst}
use Rattle.burr_code.specs.declared.placement.Placement.{Placement}
use Rattle.burr_container.specs.Rules.Plans.{FormCell}
use Rattle.burr_container.specs.Views.Refs.{placement_view}
use Rattle.burr_container.proofs.Common.ListsRead.{pushed}
use Rattle.burr_frames.specs.Views.Exits.{framed_ref}
use Rattle.burr_frames.specs.Rules.SpaceRules.{AllSmallPlaces}
use Rattle.burr_verify.proofs.PointNumbers.{small_on}
use Rattle.burr_verify.proofs.forming.exit_places.Goals as goal
use Rattle.burr_verify.proofs.forming.exit_places.Goals.{in-None, in-Some}

pub loop-p-preserved : goal.loop-p-preserved
loop-p-preserved c =
    let before = c.loop-p.places.items in
    let is : c.match-place.place ≡ placement_view c.place.result = elim c.match-place.branch [
      | in-None w ↦ w.place-is ∙ ap placement_view (sym w.in-None.is)
      | in-Some w ↦ w.place-is ∙ search rules
    ] in
    record {
      read =
          pushed (framed_ref c.args.exit.now).places c.loop-p.p before c.push.new.self.items (placement_view c.place.result)
          c.match-place.place c.place.ensures.place is c.push.ensures.items c.loop-p.invariant.read;
      small =
          subst AllSmallPlaces (sym (c.push.ensures.items ∙ ap (λ (x : Placement FormCell). before ++ x ∷ []) is))
          (small_on before c.place.result c.loop-p.invariant.small c.place.ensures.small);
    }
