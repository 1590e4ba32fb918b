use Rattle.std.proofs.Common.{sym, ap, ◌∙◌, ◌≡◌, ◌+◌, ◌∷◌, [], length, map, arith}
use Rattle.std.proofs.lemmas.List.{length-append}
use Rattle.burr_lines.specs.declared.lines.Line.{Line}
use Rattle.burr_lines.specs.TextLines.{told}
use Rattle.burr_lines.proofs.TextLines.{told_all, told_last, told_more}
use Rattle.burr_lines.proofs.lines.lines_of.Goals as goal

pub loop-bytes-preserved : goal.loop-bytes-preserved
loop-bytes-preserved c =
    let so_far = c.loop-bytes.invariant in
    let line : Line = record { number = c.loop-bytes.number; bytes = c.in-Some.bytes } in
    let longer : length c.push.new.self.items ≡ length c.loop-bytes.lines.items + 1 = ap length c.in_ok-push.ensures.items ∙ length-append c.loop-bytes.lines.items (line ∷ []) in
    let full = c.push.new.self in
    record { counted = omega (arith, c.saturating_add-number.ensures, so_far.counted, longer, full.ok.0, full.ok.1, full.small); told = told_more c.loop-bytes.lines.items c.push.new.self.items line _ _ _ c.in-Some.ensures c.in_ok-push.ensures.items so_far.counted so_far.told }

pub returns-then-is_empty : goal.returns-then-is_empty
returns-then-is_empty c = told_all _ _ _ (sym c.is_empty.ensures ∙ c.if-is_empty.true) c.loop-bytes.invariant.told

pub returns : goal.returns
returns c =
    let line : Line = record { number = c.loop-bytes.number; bytes = c.loop-bytes.rest } in
    ap (map told) c.in_ok-push-2.ensures.items ∙ told_last c.loop-bytes.lines.items line _ c.in_default.ensures (sym c.is_empty.ensures ∙ c.if-is_empty.false) c.loop-bytes.invariant.counted c.loop-bytes.invariant.told
