-- Each number of the code is a byte.
use Rattle.std.proofs.Common.{◌≡◌, ◌∙◌, sym, rules, length, arith}
use Rattle.std.specs.Prelude.{true, nat_le}
use Rattle.burr_container.proofs.Fits.{all_bytes, body_whole}
use Rattle.burr_container.proofs.fitting.is_body.Goals as goal

pub returns-then-are_labels : goal.returns-then-are_labels
returns-then-are_labels c =
    let on : c.are_labels.result ≡ true = search rules in
    body_whole _ (nat_le (length c.args.code.now) 4096) _ (sym c.are_labels.ensures ∙ on) (all_bytes c.args.code.now (λ i. omega (arith, c.type_inv.code i)))
