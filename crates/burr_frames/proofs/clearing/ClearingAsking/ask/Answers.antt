-- No pair is found where each is clear.
use Rattle.std.proofs.Common.{◌≡◌, ◌↔◌, ℕ, Bool, true, false, Option, Some, None, IsTrue, refl, sym}
use Rattle.std.specs.Prelude.{is_some, not}
use Rattle.std.proofs.lemmas.Option.{none-some}
use Rattle.burr_text.proofs.Common.Tests.{yes_iff, no_iff}
use Rattle.burr_frames.specs.Rules.Looks.{pairs_of}
use Rattle.burr_frames.proofs.Clearances.{first_none}
use Rattle.burr_frames.proofs.clearing.ClearingAsking.ask.Goals as goal

told_none : {X : Type 0} (test : Bool) (found : Option (ℕ × ℕ)) → is_some found ≡ not test → (found ≡ None) ↔ X
    → IsTrue test ↔ X
told_none true None e same = yes_iff (same.0 refl)
told_none false (Some pair) e same = no_iff (λ x. none-some pair (sym (same.1 x)))
told_none true (Some pair) e same = cc
told_none false None e same = cc

pub returns-clause-told : goal.returns-clause-told
returns-clause-told g c =
    told_none c.is_none.result c.first_pair-self.result c.is_none.ensures
    (first_none c.args.self.now.looks.now.assembly c.args.self.now.query c.args.values.now (pairs_of c.args.self.now.gripped.now c.args.self.now.left.now) c.first_pair-self.result
    c.first_pair-self.ensures.found)
