use Rattle.std.proofs.Common.{Option, List, ℕ, ap, refl, subst, sym}
use Rattle.std.specs.Io.KnownBytes.{Appends, append_known}
use Rattle.burr_io.proofs.Common.Lines.{nothing_held}
use Rattle.burr_program.specs.ListEnds.{Tally}
use Rattle.burr_program.proofs.commands.judge.judge.Goals as goal

pub returns : goal.returns
returns g c =
    let (text, dialogue, took) = c.in_ok-answer_commands.ensures.ok in
    let before = nothing_held g.W.Sink c.args.sink.now c.requires.fresh in
    let after = nothing_held g.W.Sink c.answer_commands.new.sink c.in_ok-answer_commands.ensures.held in
    let whole = subst (λ (x : Option (List ℕ)). Appends x (append_known (g.W.Sink.taken c.answer_commands.new.sink.sink) c.answer_commands.new.sink.held) text) (sym before)
    (subst (λ (x : Option (List ℕ)). Appends (g.W.Sink.taken c.args.sink.now.sink) x text) (sym after) took) in
    record { done = (text, (refl, refl, refl, (c.answer_commands.new.commanded, dialogue, ap (λ (t : Tally). t.status) c.judge.view_is)), whole); stops = tt }
