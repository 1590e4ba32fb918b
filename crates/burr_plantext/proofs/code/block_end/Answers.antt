-- The block ends at the next label, or where the code does.
use Rattle.std.proofs.Common.{◌+◌, ◌∙◌, length, sym, ap, arith, List, ℕ}
use Rattle.burr_plantext.proofs.Steps.{got_at}
use Rattle.burr_plantext.proofs.Blocks.{begin_some, begin_none}
use Rattle.burr_plantext.proofs.code.block_end.Goals as goal

pub returns-then-n-count : goal.returns-then-n-count
returns-then-n-count c p q is here =
    let many = c.label_count-count.ensures.plan p q is here in
    let (l, there) = got_at q.labels (c.args.n + 1) (omega (arith, many, c.if-n-count.true)) in
    c.from.ensures ∙ c.label.ensures p q is here l there ∙ sym (begin_some (length q.code) q.labels (c.args.n + 1) l there)

pub returns-else-n-count : goal.returns-else-n-count
returns-else-n-count c p q is here =
    let many = c.label_count-count.ensures.plan p q is here in
    ap (λ (bytes : List ℕ). length bytes) (c.code.ensures.plan p q is here)
    ∙ sym (begin_none (length q.code) q.labels (c.args.n + 1) (omega (arith, many, c.if-n-count.false)))
