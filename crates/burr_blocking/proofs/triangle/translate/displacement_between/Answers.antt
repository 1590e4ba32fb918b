use Rattle.std.proofs.Common.{◌∙◌, sym, ap, subst, get_or, arith}
use Rattle.std.proofs.lemmas.List.{take_all}
use Rattle.std.proofs.lemmas.List.Elements.{All-get_or}
use Rattle.burr_voxels.specs.Grid.{origin, shifted}
use Rattle.burr_voxels.specs.Near.{IsWithin}
use Rattle.burr_blocking.proofs.Hulls.{fits_minus}
use Rattle.burr_blocking.proofs.Reaches.{minus_within}
use Rattle.burr_blocking.proofs.Translated.{no_translate, others_where_unequal, same_where_equal, translate_more}
use Rattle.burr_blocking.proofs.triangle.translate.displacement_between.Goals as goal

pub sub-requires : goal.sub-requires
sub-requires c =
    let i = c.loop-i.i in
    fits_minus (get_or c.args.to.now i origin) (get_or c.args.from.now i origin) (All-get_or (IsWithin 79) c.args.to.now i origin (omega (arith, c.if-to-count.false, c.loop-i-test.true)) c.requires.to_near) (All-get_or (IsWithin 79) c.args.from.now i origin (omega (arith, c.loop-i-test.true)) c.requires.near)

pub loop-i-preserved : goal.loop-i-preserved
loop-i-preserved c =
    translate_more c.args.from.now c.args.to.now c.loop-i.i c.sub-displacement.result origin origin (omega (arith, c.loop-i-test.true)) (omega (arith, c.if-to-count.false, c.loop-i-test.true)) (sym c.sub.ensures ∙ same_where_equal c.sub.result c.sub-displacement.result c.ne.result c.ne.ensures c.if-ne.false) c.loop-i.invariant

pub returns : goal.returns
returns c = record {
  translate = sym (take_all c.loop-i.i c.args.to.now (omega (arith, c.if-to-count.false, c.loop-i-test.false))) ∙ c.loop-i.invariant ∙ ap (shifted c.sub-displacement.result) (take_all c.loop-i.i c.args.from.now (omega (arith, c.loop-i-test.false)));
  near = subst (IsWithin 158) (sym c.sub-displacement.ensures) (minus_within 79 79 c.first_of.result c.first_of-2.result c.first_of.ensures.near c.first_of-2.ensures.near);
}

pub returns-then-ne-clause-translate : goal.returns-then-ne-clause-translate
returns-then-ne-clause-translate c =
    no_translate c.args.from.now c.args.to.now c.loop-i.i c.first_of-2.result c.first_of.result c.sub-displacement.result c.sub.result (omega (arith, c.loop-i-test.true)) c.first_of-2.ensures.value c.first_of.ensures.value c.sub-displacement.ensures c.sub.ensures (others_where_unequal c.sub.result c.sub-displacement.result c.ne.result c.ne.ensures c.if-ne.true)
