use Rattle.std.proofs.Common.{rules, ◌≡◌, ◌<◌, ℕ, length, refl}
use Rattle.std.proofs.lemmas.List.{get_or-map, length-map}
use Rattle.burr_program.proofs.files.check_out_not_input.Goals as goal

pub returns-then-is_same_file : goal.returns-then-is_same_file
returns-then-is_same_file g c =
    let inputs = c.args.inputs.now in
    let i = c.loop-word.word-index in
    let within : i < length inputs = search rules in
    (_, (i, rw (length-map inputs (λ input. input.0.now)) within, get_or-map (λ input. input.0.now) inputs i _ _ within), refl)
