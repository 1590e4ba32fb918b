-- At the corner of the box.
use Rattle.std.proofs.Common.{◌≤◌, List, length, false, ap, sym, ◌∙◌, subst, arith, rules, FitsSigned, w64, to_z-of_z}
use Rattle.std.specs.Prelude.{ℤ}
use Rattle.burr_forms.specs.Rules.Forms.{Form, Point, AllNear, value}
use Rattle.burr_forms.specs.Views.Bounds.{IsLeastIn, corner}
use Rattle.burr_forms.proofs.Boxes.{near_inside}
use Rattle.burr_forms.proofs.Corners.{corner_inside, least_at_corner}
use Rattle.burr_forms.proofs.form.Form.least_in.Goals as goal

pub value_at-requires-clause-near : goal.value_at-requires-clause-near
value_at-requires-clause-near c =
    let coefs_are = ap (λ (f : Form). f.coefs) c.self.view_is in
    let at = c.as_slice.ensures.value ∙ c.corner-point.ensures ∙ ap (λ (cs : List ℤ). corner false cs c.args.ranges.now) coefs_are in
    let few : length c.args.ranges.now ≤ length c.args.self.now.coefs = omega (arith, ap length coefs_are, c.self.told, c.requires.few) in
    subst AllNear (sym at) (near_inside c.args.ranges.now _ c.requires.ranges (corner_inside false c.args.self.now.coefs c.args.ranges.now few c.requires.ranges))

pub returns : goal.returns
returns c =
    let coefs_are = ap (λ (f : Form). f.coefs) c.self.view_is in
    let at = c.as_slice.ensures.value ∙ c.corner-point.ensures ∙ ap (λ (cs : List ℤ). corner false cs c.args.ranges.now) coefs_are in
    let few : length c.args.ranges.now ≤ length c.args.self.now.coefs = omega (arith, ap length coefs_are, c.self.told, c.requires.few) in
    let is = c.value_at.ensures ∙ ap (λ (point : Point). value point c.args.self.now) at in
    let fits : FitsSigned w64 c.value_at.result = search rules in
    simp to_z-of_z (subst (IsLeastIn c.args.ranges.now c.args.self.now) (sym is) (least_at_corner c.args.self.now c.args.ranges.now few c.requires.ranges))
