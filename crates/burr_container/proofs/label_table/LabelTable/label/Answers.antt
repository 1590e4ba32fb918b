-- The label that stands at the bytes from it on.
use Rattle.std.proofs.Common.{ap, refl, sym, subst, ℕ, true}
use Rattle.burr_container.specs.Rules.Plans.{Frame}
use Rattle.burr_container.specs.Rules.Faults.{label}
use Rattle.burr_container.specs.Views.Reading.{IsAt}
use Rattle.burr_container.specs.Views.Readable.{NeverFails, LabelsView}
use Rattle.burr_container.specs.Views.Refs.{frame_of}
use Rattle.burr_container.specs.Views.InPlace.{IsLabel}
use Rattle.burr_container.proofs.Kept.{for_get, label_is}
use Rattle.burr_container.proofs.label_table.LabelTable.label.Goals as goal

pub returns-clause-label : goal.returns-clause-label
returns-clause-label c = λ ls l are at.
    let pieces = c.args.self.now.layout.pieces in
    let kept : ℕ × Frame = (c.in-Ok.label.0, frame_of c.in-Ok.label.1) in
    let there = for_get (IsLabel pieces) c.args.self.now.starts ls c.args.n c.begin.result.rest.now l are c.begin.ensures.begin at in
    let here =
    subst (λ (n : ℕ). IsAt (label (λ position. true) n) c.begin.result kept c.label.new.cursor) (ap (λ (v : LabelsView). v.layout.pieces) c.self.view_is)
    c.in-Ok.ensures.reads in
    let same = label_is pieces c.args.self.now.layout.few c.begin.result c.label.new.cursor kept l c.begin.result.rest.now refl here there in
    (ap (λ (v : ℕ × Frame). v.0) same, ap (λ (v : ℕ × Frame). v.1) same)

pub unreachable-requires : goal.unreachable-requires
unreachable-requires c =
    (subst (λ (n : ℕ). NeverFails (label (λ position. true) n) c.begin.result.rest.now) (sym (ap (λ (v : LabelsView). v.layout.pieces) c.self.view_is))
    c.begin.ensures.readable) _ _ c.in_default.ensures.reads
