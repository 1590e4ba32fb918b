-- The three names together are the text, and no other three are.
use Rattle.std.proofs.Common.{◌∙◌}
use Rattle.burr_voxels.proofs.Common.Naming.{axes_read, named_by}
use Rattle.burr_voxels.proofs.direction.Orientation.parse.Goals as goal

pub returns : goal.returns
returns c =
    let x = c.in_ok-x.ensures.cases in
    let y = c.in_ok-y.ensures.cases in
    let read = axes_read c.in_ok-named.field-0 c.in_ok-named-2.field-0 c.in_ok-named-3.field-0 c.args.name.now c.in_ok-x.rest.now (c.in_ok-named.ensures ∙ x.1) x.2 (c.in_ok-named-2.ensures ∙ y.1) (c.in_ok-named-3.ensures ∙ y.2) in
    named_by c.in_ok-named.field-0 c.in_ok-named-2.field-0 c.in_ok-named-3.field-0 c.args.name.now c.of.result read c.of.ensures
