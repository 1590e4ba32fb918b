-- The labels so far are read, and where they begin is kept.
use Rattle.burr_container.specs.Views.Readable.{starts_at}
use Rattle.burr_container.proofs.LabelsWalk.{IsLabelsWalk, HasCome, AreWithin}
use Rattle.burr_container.proofs.reading.parts.labels.Given as goal

abbrev pub invariant-loop : goal.invariant-loop
invariant-loop l =
    IsLabelsWalk l.layout.pieces l.count l.initial.cursor l.counter (starts_at l.initial.cursor.rest.now l.begins.items) l.last l.cursor
    × HasCome l.initial.cursor l.counter l.cursor × AreWithin l.initial.cursor.rest.now l.begins.items
