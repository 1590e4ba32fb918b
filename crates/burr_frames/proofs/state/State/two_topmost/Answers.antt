-- The two topmost are small, as all are.
use Rattle.std.proofs.Common.{◌-◌, sym, subst, length, arith}
use Rattle.std.proofs.lemmas.List.Elements.{All-get_or}
use Rattle.burr_forms.specs.Rules.Forms.{IsSmallForm, AllSmallForms}
use Rattle.burr_frames.proofs.Offsets.{small_reversed}
use Rattle.burr_frames.proofs.state.State.two_topmost.Goals as goal

pub returns-clause-small : goal.returns-clause-small
returns-clause-small c =
    let forms = c.as_slice.result.now in
    let two = c.in-len2-up.len_at_least in
    let small : AllSmallForms forms =
    subst AllSmallForms (sym c.as_slice.ensures.value) (small_reversed c.self.inside.operands.items c.self.invariant.operands) in (
      subst IsSmallForm (sym c.upper-item.is)
          (All-get_or IsSmallForm forms (length forms - 1) c.upper-item.result (omega (arith, two)) small),
      subst IsSmallForm (sym c.lower-item.is)
          (All-get_or IsSmallForm forms (length forms - 2) c.lower-item.result (omega (arith, two)) small),
    )
