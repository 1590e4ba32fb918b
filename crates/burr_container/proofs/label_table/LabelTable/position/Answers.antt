-- The position with which the label begins that stands at the bytes from it on.
use Rattle.std.proofs.Common.{inl, refl}
use Rattle.burr_container.specs.Views.InPlace.{IsLabel}
use Rattle.burr_container.proofs.Kept.{for_get, position_is}
use Rattle.burr_container.proofs.label_table.LabelTable.position.Goals as goal

pub returns : goal.returns
returns c = λ pieces ls l are at.
    position_is pieces c.begin.result c.any_position.new.cursor c.in-Ok.position l c.begin.result.rest.now refl c.in-Ok.ensures
    (for_get (IsLabel pieces) c.args.self.now.starts ls c.args.n c.begin.result.rest.now l are c.begin.ensures.begin at)

pub unreachable-requires : goal.unreachable-requires
unreachable-requires c = c.begin.ensures.readable _ _ (inl c.in_default.ensures)
