use Rattle.std.proofs.Common.{[], ◌∷◌, ◌∙◌, append-nil, inl, refl, sym}
use Rattle.burr_program.proofs.commands.trace.framed_text.Goals as goal

pub returns-clause-ok : goal.returns-clause-ok
returns-clause-ok c =
    let text = c.args.text.now in
    ((text, text) ∷ [], (inl refl, tt), sym (append-nil text), c.in_ok-from_slice-in-Err.ensures.items ∙ sym (append-nil text))
