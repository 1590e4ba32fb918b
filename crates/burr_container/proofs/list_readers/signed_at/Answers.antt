-- The bytes from there on are what is read.
use Rattle.std.proofs.Common.{rules, ◌∙◌, ap, drop, length, ◌-◌, arith, length-drop}
use Rattle.std.specs.Prelude.{FitsSigned}
use Rattle.std.specs.Int.{w16, w64}
use Rattle.std.proofs.lemmas.Int.{to_z-of_z}
use Rattle.std.proofs.lemmas.List.{take_all}
use Rattle.burr_container.specs.Views.Decoding.{signed_in}
use Rattle.burr_container.proofs.list_readers.signed_at.Goals as goal

pub returns-clause-number : goal.returns-clause-number
returns-clause-number c =
    let narrow : FitsSigned w16 c.read_i16.result = search rules in
    let wide : FitsSigned w64 c.from.result = search rules in
    rw (to_z-of_z w64 c.from.result wide)
    (c.from.ensures ∙ to_z-of_z w16 c.read_i16.result narrow ∙ c.read_i16.ensures
    ∙ ap signed_in (take_all (length c.args.bytes.now - c.args.at) (drop c.args.at c.args.bytes.now) (omega (arith, length-drop c.args.at c.args.bytes.now))))
