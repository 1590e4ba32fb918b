-- What is written, and what is still to be written, are all of it.
use Rattle.std.proofs.Common.{◌≡◌, ◌++◌, drop}
use Rattle.std.specs.List.{flat_map}
use Rattle.burr_container.specs.Rules.Spelling.{form_bytes}
use Rattle.burr_container.proofs.writing.add_forms.Given as goal

abbrev pub invariant-loop-form : goal.invariant-loop-form
invariant-loop-form l =
    l.bytes.items ++ flat_map (form_bytes l.live) (drop l.form-index l.forms)
    ≡ l.initial.bytes.items ++ flat_map (form_bytes l.live) l.forms
