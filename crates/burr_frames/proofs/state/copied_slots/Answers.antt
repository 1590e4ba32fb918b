-- All eight are copied.
use Rattle.std.proofs.Common.{rules, ◌≡◌, ◌≤◌, ◌∙◌, sym, length, arith}
use Rattle.std.proofs.lemmas.List.{take_all}
use Rattle.burr_frames.proofs.state.copied_slots.Goals as goal

pub returns : goal.returns
returns c =
    let v = c.loop-v.v in
    let eight : length c.args.from.now ≡ 8 = search rules in
    let last : 8 ≤ v = omega (arith, c.loop-v-test.false) in
    sym (take_all v c.loop-v.to (omega (arith, last, c.loop-v.invariant.eight))) ∙ c.loop-v.invariant.copied
    ∙ take_all v c.args.from.now (omega (arith, last, eight))
