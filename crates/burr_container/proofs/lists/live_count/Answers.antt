-- The count of those that are true.
use Rattle.std.proofs.Common.{◌≡◌, ◌∙◌, sym, arith, rules}
use Rattle.std.specs.Prelude.{count_by}
use Rattle.burr_container.proofs.Forms.{count_live, size_by_count}
use Rattle.burr_container.proofs.lists.live_count.Goals as goal

pub returns-clause-count : goal.returns-clause-count
returns-clause-count c =
    let counted : c.count.result ≡ count_by (λ l. l) c.args.live.now = search rules in
    counted ∙ sym (count_live c.args.live.now)

pub returns-clause-size : goal.returns-clause-size
returns-clause-size c =
    let counted : c.count.result ≡ count_by (λ l. l) c.args.live.now = search rules in
    omega (arith, counted, count_live c.args.live.now, size_by_count c.args.live.now)
