-- A label is the number in its two bytes.
use Rattle.std.proofs.Common.{◌≡◌, ◌<◌, List, ℕ, Some, length, subst, sym, arith}
use Rattle.std.specs.Prelude.{slice_get}
use Rattle.burr_code.proofs.LabelLists.{label_cut}
use Rattle.burr_code.proofs.labels.Labels.get.Goals as goal

pub returns : goal.returns
returns c =
    let below : c.args.number < length c.args.self.now = omega arith in
    let here = subst (λ (labels : List ℕ). c.args.number < length labels) (sym c.self.view_is) below in
    subst (λ (labels : List ℕ). Some c.read_u16.result ≡ slice_get labels c.args.number) c.self.view_is (label_cut c.self.inside.bytes.now c.args.number c.read_u16.result here c.read_u16.ensures)
