-- A slot more after its space.
use Rattle.std.proofs.Common.{◌≡◌, ◌<◌, ◌≤◌, None, [], length, drop, arith}
use Rattle.std.proofs.Math.ListN.{drop_of_length-le}
use Rattle.burr_io.proofs.Common.Puts.{Puts-more, Puts-fails, Puts-nothing}
use Rattle.burr_step.specs.Rules.StepTexts.{slot_word}
use Rattle.burr_step.proofs.ShownWords.{next_word}
use Rattle.burr_step.proofs.state_text.put_slot_words.Goals as goal

pub returns-in_err-put_all : goal.returns-in_err-put_all
returns-in_err-put_all g c =
    let slots = c.args.machine.now.state.running.slots in
    let inside : c.loop-slot.slot < length slots = omega (arith, c.requires) in
    c.loop-slot.invariant _ _ (rw (next_word slot_word slots c.loop-slot.slot None inside)
    (Puts-fails _ c.in_err-put_all.ensures.puts c.from_residual.ensures.0))

pub returns-in_err-put_slot : goal.returns-in_err-put_slot
returns-in_err-put_slot g c =
    let slots = c.args.machine.now.state.running.slots in
    let inside : c.loop-slot.slot < length slots = omega (arith, c.requires) in
    let put = rw c.slot.ensures at c.in_err-put_slot.ensures in
    c.loop-slot.invariant _ _ (rw (next_word slot_word slots c.loop-slot.slot None inside)
    (Puts-more c.in_ok-put_all.ensures.puts (Puts-fails _ put c.from_residual-in_err-put_slot.ensures.0)))

pub loop-slot-preserved : goal.loop-slot-preserved
loop-slot-preserved g c new r more =
    let slots = c.args.machine.now.state.running.slots in
    let inside : c.loop-slot.slot < length slots = omega (arith, c.requires) in
    let put = rw c.slot.ensures at c.in_ok-put_slot.ensures in
    c.loop-slot.invariant new r (rw (next_word slot_word slots c.loop-slot.slot None inside)
    (Puts-more c.in_ok-put_all.ensures.puts (Puts-more put more)))

pub returns : goal.returns
returns g c =
    let slots = c.args.machine.now.state.running.slots in
    let past : length slots ≤ c.loop-slot.slot = omega (arith, c.requires) in
    let none : drop c.loop-slot.slot slots ≡ [] = drop_of_length-le slots past in
    c.loop-slot.invariant _ _ (rw none Puts-nothing)
