-- It is one of those from which labels can be read.
use Rattle.std.proofs.Common.{◌≡◌, ◌<◌, length, ap, sym, subst}
use Rattle.std.specs.Prelude.{List, Some, slice_get}
use Rattle.std.proofs.Common.{ℕ}
use Rattle.burr_container.specs.Views.Readable.{LabelsView, AllReadable}
use Rattle.burr_container.proofs.Kept.{begins_there}
use Rattle.burr_container.proofs.label_table.LabelTable.begin.Goals as goal

begin_there : (c : goal.After-new) → slice_get c.args.self.now.starts c.args.n ≡ Some c.new.result.rest.now
begin_there c =
    let same = ap (λ (view : LabelsView). view.starts) c.self.view_is in
    subst (λ (starts : List (List ℕ)). slice_get starts c.args.n ≡ Some c.new.result.rest.now) same
    (begins_there c.self.inside.bytes.now c.self.inside.begins.items c.deref.result.now c.new.result.rest.now c.args.n
    (subst (λ (starts : List (List ℕ)). c.args.n < length starts) (sym same) c.requires) c.deref.ensures.0 c.new.ensures.rest)

pub returns-clause-begin : goal.returns-clause-begin
returns-clause-begin c = begin_there c

pub returns-clause-readable : goal.returns-clause-readable
returns-clause-readable c =
    subst (λ (view : LabelsView). AllReadable view.layout.pieces view.starts) c.self.view_is c.self.invariant.readable c.args.n
    c.new.result.rest.now (begin_there c)
