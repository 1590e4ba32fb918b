-- There is a `pick` where as many labels follow as its count says.
use Rattle.std.proofs.Common.{◌≡◌, ◌<◌, ◌*◌, ◌∙◌, ◌∷◌, length, sym, ap, arith, inl, inr}
use Rattle.burr_code.proofs.Operands.{no_pick_in, no_pick_of, is_pick}
use Rattle.burr_code.proofs.fetching.pick.Goals as goal

pub returns-in_err-get : goal.returns-in_err-get
returns-in_err-get c =
    let short : length c.in_ok-count.rest.now < 2 * c.from.result = elim c.in_err-get.ensures.lookup.0 [ inl none ↦ omega (arith, none) | inr short ↦ short ] in
    rw c.from_residual-in_err-get.ensures (no_pick_in c.from.result _ c.in_ok-count.rest.now (c.in_ok-count.ensures.cases.0 ∙ ap (λ n. n ∷ c.in_ok-count.rest.now) (sym c.from.ensures)) short)

pub returns-in_err-labels : goal.returns-in_err-labels
returns-in_err-labels c =
    rw c.from_residual-in_err-labels.ensures
    (no_pick_of c.from.result _ c.in_ok-count.rest.now c.in_ok-get.field-0.now (c.in_ok-count.ensures.cases.0 ∙ ap (λ n. n ∷ c.in_ok-count.rest.now) (sym c.from.ensures)) c.in_ok-get.ensures.lookup.0.2 c.in_err-labels.ensures)

pub returns : goal.returns
returns c =
    let is = c.in_ok-labels.ensures in
    let size : length c.in_ok-get.field-0.now ≡ 2 * c.from.result = omega (arith, c.in_ok-get.ensures.lookup.0.3) in
    (is.0, is_pick c.from.result _ c.in_ok-count.rest.now c.in_ok-get.field-0.now c.in_ok-labels.labels (c.in_ok-count.ensures.cases.0 ∙ ap (λ n. n ∷ c.in_ok-count.rest.now) (sym c.from.ensures)) c.in_ok-get.ensures.lookup.0.2 size is.1)
