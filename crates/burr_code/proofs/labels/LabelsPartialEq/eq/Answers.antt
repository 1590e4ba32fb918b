-- Labels are the same where their bytes are.
use Rattle.std.proofs.Common.{◌≡◌, ◌∙◌, List, ℕ, subst}
use Rattle.std.specs.Prelude.{nat_eq}
use Rattle.std.specs.Cmp.Lexicographic.{pointwise}
use Rattle.burr_code.specs.LabelBytes.{labels_in}
use Rattle.burr_code.proofs.LabelLists.{same_labels}
use Rattle.burr_code.proofs.labels.LabelsPartialEq.eq.Goals as goal

pub returns : goal.returns
returns c =
    let same = c.eq.ensures ∙ same_labels c.self.inside.bytes.now c.other.inside.bytes.now c.self.invariant c.other.invariant in
    subst (λ (ys : List ℕ). c.eq.result ≡ pointwise nat_eq c.args.self.now ys) c.other.view_is
    (subst (λ (xs : List ℕ). c.eq.result ≡ pointwise nat_eq xs (labels_in c.other.inside.bytes.now)) c.self.view_is same)
