-- Instructions that name nothing.
use Rattle.std.specs.Prelude.{◌≡◌, ℕ, List}
use Rattle.burr_code.specs.Instruction.{Instruction, spelled}
use Rattle.burr_plantext.specs.Rules.Statements.{Statement}
use Rattle.burr_plantext.specs.Rules.Meaning.{statement_bytes}

-- the instruction is what the words say, whatever names there are
abbrev pub IsPlain : Instruction → Statement → Type 0
IsPlain i words =
    (labels procedures : List (List ℕ))
    → spelled i ≡ statement_bytes labels procedures words
