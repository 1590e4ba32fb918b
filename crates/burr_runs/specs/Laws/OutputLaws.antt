-- What holds of all inputs and what is written for them.
use Rattle.std.specs.Prelude.{◌≡◌, ℕ, List}
use Rattle.burr_runs.specs.declared.text_runs.Outcome.{Outcome}
use Rattle.burr_runs.specs.Rules.Input.{IsInput}
use Rattle.burr_runs.specs.Rules.Output.{IsOutput}

-- an input is one text with one code
abbrev pub OneInput : Type 0
OneInput =
    (input text other code bytes : List ℕ) → IsInput input text code → IsInput input other bytes
    → (text ≡ other) × (code ≡ bytes)

-- for an input one text is written, and it ends in one way
abbrev pub OneOutput : Type 0
OneOutput =
    (input output other : List ℕ) (outcome ending : Outcome)
    → IsOutput input output outcome → IsOutput input other ending
    → (output ≡ other) × (outcome ≡ ending)

-- for each input a text is written, and it ends in some way
abbrev pub SomeOutput : Type 0
SomeOutput =
    (input : List ℕ) → (output : List ℕ) × (outcome : Outcome) × IsOutput input output outcome
