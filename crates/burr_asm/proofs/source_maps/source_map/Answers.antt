use Rattle.std.proofs.Common.{sym}
use Rattle.burr_asm.proofs.SourceParts.{is_map}
use Rattle.burr_asm.proofs.PartLines.{found_all, found_skipped, found_more, found_up_to}
use Rattle.burr_asm.proofs.Words.{cut_shorter}
use Rattle.burr_asm.proofs.source_maps.source_map.Goals as goal
use Rattle.burr_asm.proofs.source_maps.source_map.Goals.{then-not-is_skipped+in-Some-read+in_ok-push, else-not-is_skipped}

pub loop-bytes-preserved : goal.loop-bytes-preserved
loop-bytes-preserved c =
    elim c.if-not-is_skipped.branch [
      | then-not-is_skipped+in-Some-read+in_ok-push w ↦
          rw (w.found-is, w.cursor-is, w.in_ok-push.ensures.items)
          (found_more _ _ _ _ _ c.loop-bytes.invariant _ _ c.in-Some.ensures _ _ (sym w.if-not-is_skipped.ensures) w.in-Some-read.ensures)
      | else-not-is_skipped w ↦
          rw (w.found-is, w.cursor-is)
          (found_skipped _ _ _ _ _ c.loop-bytes.invariant _ _ c.in-Some.ensures (sym w.if-not-is_skipped.ensures))
    ]

pub returns : goal.returns
returns c = is_map _ _ (found_all _ _ _ _ _ c.loop-bytes.invariant c.in_default.ensures)

pub returns-in_default-read : goal.returns-in_default-read
returns-in_default-read c =
    is_map _ _ (found_up_to _ _ _ _ _ c.loop-bytes.invariant _ _ c.in-Some.ensures (sym c.if-not-is_skipped.ensures) c.in_default-read.ensures)

pub loop-bytes-smaller : goal.loop-bytes-smaller
loop-bytes-smaller c = cut_shorter _ _ _ c.in-Some.ensures
