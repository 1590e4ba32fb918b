-- One more is read.
use Rattle.std.proofs.Common.{rules, ◌≡◌, ◌+◌, ◌∙◌, ap, sym, subst, [], ◌∷◌, ◌++◌}
use Rattle.std.specs.Prelude.{FitsSigned}
use Rattle.std.specs.Int.{w16, w32}
use Rattle.std.proofs.lemmas.Int.{to_z-of_z}
use Rattle.std.proofs.lemmas.List.Elements.{All-push}
use Rattle.burr_forms.specs.Rules.Points.{IsRange, AreRanges}
use Rattle.burr_container.specs.Rules.Plans.{Range}
use Rattle.burr_container.specs.Views.Refs.{exit_frame_of}
use Rattle.burr_container.proofs.Common.ListsRead.{IsRead, read_on}
use Rattle.burr_frames.proofs.state.calls.results.Goals as goal

pub loop-n-preserved : goal.loop-n-preserved
loop-n-preserved c =
    let whole = (exit_frame_of c.args.exit.now).results in
    let before = c.loop-n.ranges.items in
    let old = c.loop-n.invariant in
    let given = c.result-low.result in
    let range : Range = (given.0, given.1) in
    let low_narrow : FitsSigned w16 given.0 = search rules in
    let high_narrow : FitsSigned w16 given.1 = search rules in
    let low_fits : FitsSigned w32 c.from.result = search rules in
    let high_fits : FitsSigned w32 c.from-in-loop-n.result = search rules in
    let low : c.from.result ≡ given.0 = simp to_z-of_z at c.from.ensures in
    let high : c.from-in-loop-n.result ≡ given.1 = simp to_z-of_z at c.from-in-loop-n.ensures in
    let pushed : c.push.new.self.items ≡ before ++ (c.from.result, c.from-in-loop-n.result) ∷ [] = simp to_z-of_z at c.push.ensures.items in
    let items : c.push.new.self.items ≡ before ++ range ∷ [] =
    pushed ∙ ap (λ n. before ++ (n, c.from-in-loop-n.result) ∷ []) low ∙ ap (λ n. before ++ (given.0, n) ∷ []) high in
    record {
      read = subst (IsRead whole (c.loop-n.n + 1)) (sym items) (read_on whole c.loop-n.n before range c.result-low.ensures.range old.read);
      are = subst AreRanges (sym items) (All-push IsRange before range old.are c.result-low.ensures.ends);
    }
