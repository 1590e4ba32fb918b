use Rattle.burr_from_sheet.proofs.check.checked_text.Goals as goal

pub unreachable-requires : goal.unreachable-requires
unreachable-requires g c =
    c.containers_are_unique.ensures.no_fault_of_plan c.args.bytes.now c.in-Err.field-0 c.requires c.in-Err.ensures
