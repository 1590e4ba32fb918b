-- The next label is written.
use Rattle.std.proofs.Common.{◌++◌, ◌+◌, drop, arith, [], sym, ap, ◌∙◌, ℕ}
use Rattle.std.specs.List.{flat_map}
use Rattle.burr_container.specs.Rules.Plans.{Frame}
use Rattle.burr_container.specs.Rules.Spelling.{label_bytes}
use Rattle.burr_container.specs.Views.Counts.{has_room_in_label}
use Rattle.burr_container.proofs.Written.{next_of, one_more, each_also}
use Rattle.burr_container.proofs.writing.add_labels.Goals as goal

pub add_label-requires : goal.add_label-requires
add_label-requires c = each_also has_room_in_label c.args.labels.now c.loop-label.label-index c.label-item.result c.requires.room c.loop-label-test.true c.label-item.is

pub loop-label-preserved : goal.loop-label-preserved
loop-label-preserved c =
    let labels = c.args.labels.now in
    let i = c.loop-label.label-index in
    let item = c.label-item.result in
    let next = next_of label_bytes i labels item (omega arith) ∙ ap (λ (x : ℕ × Frame). label_bytes x ++ flat_map label_bytes (drop (i + 1) labels)) (sym c.label-item.is) in
    rw c.in_ok-add_label.ensures
    (one_more [] c.loop-label.bytes.items (label_bytes item) (flat_map label_bytes (drop (i + 1) labels)) _ _ c.loop-label.invariant next)
