use Rattle.std.proofs.Common.{codes, ap, ◌∙◌, ◌++◌, List, ℕ}
use Rattle.burr_sheet.proofs.LineTexts.{after_both}
use Rattle.burr_sheet.proofs.motion_lines.after_number.Goals as goal

pub returns : goal.returns
returns c =
    let digits = c.as_bytes.ensures.value ∙ c.format.ensures.text in
    after_both c.args.text.now _ (codes " t") c.in_ok-rest.rest.now c.after_front-2.result (c.in_ok-rest.ensures ∙ ap (λ (bytes : List ℕ). bytes ++ c.in_ok-rest.rest.now) digits) c.after_front-2.ensures
