use Rattle.std.proofs.Common.{◌≡◌, ◌<◌, length, ℤ, Option, pos, Some, set, get_or, ap, ◌∙◌, rules}
use Rattle.burr_state.proofs.Operands.{slot_filled}
use Rattle.burr_state.proofs.activation.slots_of.Goals as goal

pub loop-slot-preserved : goal.loop-slot-preserved
loop-slot-preserved c =
    let numbers = c.args.numbers.now in
    let at = c.loop-slot.slot in
    let more : at < length numbers = search rules in
    let found : c.copied.result ≡ Some (get_or numbers at (pos 0)) = search rules in
    ap (λ (x : Option ℤ). set c.loop-slot.slots at x) found ∙ ap (λ slots. set slots at (Some (get_or numbers at (pos 0)))) c.loop-slot.invariant ∙ slot_filled numbers at (pos 0) more c.requires
