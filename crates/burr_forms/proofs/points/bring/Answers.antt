use Rattle.burr_forms.proofs.Search.{after_bounded, after_as_many, kept_after}
use Rattle.burr_forms.proofs.points.bring.Goals as goal

pub carry-requires-clause-places : goal.carry-requires-clause-places
carry-requires-clause-places c =
    rw (c.as_mut_slice.ensures.value, c.as_slice.ensures.value)
    (after_as_many _ _ _ _ (kept_after _ _ _ _ c.requires.after c.if-not-is_empty.ensures) c.requires.places)

pub carry-requires-clause-bounded : goal.carry-requires-clause-bounded
carry-requires-clause-bounded c =
    rw (c.as_mut_slice.ensures.value, c.as_slice.ensures.value)
    (after_bounded _ _ _ _ (kept_after _ _ _ _ c.requires.after c.if-not-is_empty.ensures) c.requires.small c.requires.near c.requires.few)
