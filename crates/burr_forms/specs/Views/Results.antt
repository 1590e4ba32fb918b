-- Forms that may be too large.
use Rattle.std.specs.Prelude.{◌≡◌, Result, MatchResult}
use Rattle.burr_forms.specs.Rules.Forms.{Form, IsSmallForm}
use Rattle.burr_forms.specs.declared.form.FormTooLarge.{FormTooLarge}

-- the form, where it is small
abbrev pub IsFormOf : Result Form FormTooLarge → Form → Type 0
IsFormOf result form =
    MatchResult result (λ given. (given ≡ form) × IsSmallForm form) (λ _. ¬ IsSmallForm form)
