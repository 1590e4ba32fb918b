-- The next label is written.
use Rattle.std.proofs.Common.{◌≡◌, ◌+◌, arith, ◌∙◌, subst, ℕ, Option, Some, None, if◌then◌else◌}
use Rattle.burr_plantext.specs.Views.Listings.{IsBlockAdded}
use Rattle.burr_plantext.proofs.Blocks.{blocks_begun, block_turn, blocks_end, labels_of, placed_is}
use Rattle.burr_plantext.proofs.code.add_code.Goals as goal

pub loop-n-init : goal.loop-n-init
loop-n-init c p q is here =
    blocks_begun p.pieces p q _ c.args.text.now.items (labels_of c.args.container.now p q c.args.i c.requires.plan is here)

pub loop-n-preserved : goal.loop-n-preserved
loop-n-preserved c p q is here =
    let n = c.loop-n.n in
    let placed : c.then_some.result ≡ (if c.args.places then Some c.args.i else None) =
    c.then_some.ensures ∙ placed_is c.args.places c.args.i in
    let many = c.label_count-n-end.ensures.plan p q is here in
    block_turn p.pieces p q (if c.args.places then Some c.args.i else None) c.args.text.now.items n (n + 1) c.loop-n.text.items c.add_block.new.text.items c.label_count.result c.proc_count.result
    (labels_of c.args.container.now p q c.args.i c.requires.plan is here) (omega arith) (omega (arith, many, c.loop-n-test.true))
    (c.label_count.ensures.plan p q is here) (c.proc_count.ensures.plan p is) (c.loop-n.invariant p q is here)
    (subst (λ (placed : Option ℕ). IsBlockAdded c.label_count.result c.proc_count.result placed q n c.loop-n.text.items c.add_block.new.text.items) placed (c.in_ok-add_block.ensures p q is here))

pub returns : goal.returns
returns c p q is here =
    let many = c.label_count-n-end.ensures.plan p q is here in
    blocks_end p q (if c.args.places then Some c.args.i else None) c.args.text.now.items c.loop-n.n c.loop-n.text.items (omega (arith, many, c.loop-n-test.false)) (c.loop-n.invariant p q is here)
