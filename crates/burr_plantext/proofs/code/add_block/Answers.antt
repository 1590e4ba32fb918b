-- The label and its code are those of the plan.
use Rattle.std.proofs.Common.{arith, ◌∙◌}
use Rattle.std.proofs.lemmas.Result.{on_ok_weaker}
use Rattle.burr_container.specs.Views.Refs.{frame_of}
use Rattle.burr_plantext.proofs.Blocks.{block_bounds, block_is, block_short, block_added, label_added, frame_of_label}
use Rattle.burr_plantext.proofs.code.add_block.Goals as goal

pub add_frame-requires : goal.add_frame-requires
add_frame-requires c =
    frame_of_label c.args.container.now c.args.i c.args.n (frame_of c.frame.result) c.requires.plan c.requires.procedure c.requires.label c.frame.ensures.plan

pub slice_bounds-add_lines-count : goal.slice_bounds-add_lines-count
slice_bounds-add_lines-count c =
    let bounds = block_bounds c.args.container.now c.args.i c.args.n _ _ c.code-code.result.now c.requires.plan c.requires.procedure c.requires.label (λ p q is here l there. c.from-start.ensures ∙ c.label.ensures p q is here l there) c.block_end-end.ensures c.code-code.ensures.plan in
    omega (arith, bounds.0, bounds.1)

pub slice_bounds-add_lines-start : goal.slice_bounds-add_lines-start
slice_bounds-add_lines-start c =
    let bounds = block_bounds c.args.container.now c.args.i c.args.n _ _ c.code-code.result.now c.requires.plan c.requires.procedure c.requires.label (λ p q is here l there. c.from-start.ensures ∙ c.label.ensures p q is here l there) c.block_end-end.ensures c.code-code.ensures.plan in
    omega (arith, bounds.0, bounds.1)

pub slice_bounds-add_lines-end : goal.slice_bounds-add_lines-end
slice_bounds-add_lines-end c =
    let bounds = block_bounds c.args.container.now c.args.i c.args.n _ _ c.code-code.result.now c.requires.plan c.requires.procedure c.requires.label (λ p q is here l there. c.from-start.ensures ∙ c.label.ensures p q is here l there) c.block_end-end.ensures c.code-code.ensures.plan in
    omega (arith, bounds.0, bounds.1)

pub add_lines-requires : goal.add_lines-requires
add_lines-requires c =
    let bounds = block_bounds c.args.container.now c.args.i c.args.n _ _ c.code-code.result.now c.requires.plan c.requires.procedure c.requires.label (λ p q is here l there. c.from-start.ensures ∙ c.label.ensures p q is here l there) c.block_end-end.ensures c.code-code.ensures.plan in
    block_short _ _ c.code-code.result.now bounds c.code-code.ensures.short

pub returns : goal.returns
returns c =
    on_ok_weaker c.add_lines.result
    (λ says p q is here l there.
    let begin = c.from-start.ensures ∙ c.label.ensures p q is here l there in
    block_added c.args.reach.labels c.args.reach.procedures c.args.reach.placed q c.args.n l _ _ c.args.text.now.items c.add_frame.new.text.items c.add_lines.new.text.items begin
    (block_is _ _ c.code-code.result.now q c.args.n l begin (c.block_end-end.ensures p q is here) (c.code-code.ensures.plan p q is here))
    (label_added c.args.n l (frame_of c.frame.result) c.args.text.now.items _ _ c.add_frame.new.text.items c.in_ok-add_number.ensures c.in_ok-end_line.ensures (c.frame.ensures.plan p q is here l there) c.in_ok-add_frame.ensures) says) c.add_lines.ensures
