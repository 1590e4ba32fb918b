use Rattle.burr_io.proofs.Common.Puts.{Puts-more, Puts-fails}
use Rattle.burr_step.proofs.ShownWords.{slots_line-parts}
use Rattle.burr_step.proofs.state_text.put_slots.Goals as goal

pub returns-in_err-put_all : goal.returns-in_err-put_all
returns-in_err-put_all g c =
    rw (slots_line-parts c.args.machine.now.state) (Puts-fails _ c.in_err-put_all.ensures.puts c.from_residual.ensures.0)

pub returns-in_err-put_slot_words : goal.returns-in_err-put_slot_words
returns-in_err-put_slot_words g c =
    rw (slots_line-parts c.args.machine.now.state)
    (Puts-more c.in_ok-put_all.ensures.puts (Puts-fails _ c.in_err-put_slot_words.ensures c.from_residual-in_err-put_slot_words.ensures.0))

pub returns : goal.returns
returns g c =
    rw (slots_line-parts c.args.machine.now.state)
    (Puts-more c.in_ok-put_all.ensures.puts (Puts-more c.in_ok-put_slot_words.ensures c.put_all-2.ensures.puts))
