-- The code of a procedure as far as it has been read.
use Rattle.std.specs.Prelude.{ℕ, List, [], ◌∷◌, ◌+◌, ◌++◌, map, Option, Some, None, nat_le, if◌then◌else◌}
use Rattle.burr_code.specs.declared.limits.TheConstants.{MOST_CODE}
use Rattle.burr_plantext.specs.Rules.Statements.{Statement}
use Rattle.burr_plantext.specs.Rules.Checks.{FaultKind, P3, P4, unless, is_in_range, names_unknown}
use Rattle.burr_plantext.specs.Rules.Meaning.{code_bytes, code_size}
use Rattle.burr_asm.specs.declared.text.statement.Statement.{Statement as StatementParts}
use Rattle.burr_asm.specs.Views.LineWords.{code_words}

-- the words of statements, each with its line
abbrev pub numbered : List StatementParts → List (ℕ × Statement)
numbered code = map (λ (s : StatementParts). (s.line, code_words s.code)) code

pub record CodeParts : Type 0 where
  -- each with its line
  pub statements : List (ℕ × Statement)
  -- how many bytes they have
  pub size : ℕ

-- no code
abbrev pub no_code : CodeParts
no_code = record { statements = []; size = 0 }

-- what is wrong with one statement more
abbrev pub code_refusal : CodeParts → Statement → Option FaultKind
code_refusal code s =
    unless (is_in_range s) P3
    (unless (nat_le (code.size + code_size (s ∷ [])) MOST_CODE) P4 None)

-- one statement more
abbrev pub with_statement : CodeParts → ℕ → Statement → CodeParts
with_statement code line s = record {
  statements = code.statements ++ (line, s) ∷ [];
  size = code.size + code_size (s ∷ []);
}

-- the bytes of statements, where labels and procedures have these names
abbrev pub code_of_all : List (List ℕ) → List (List ℕ) → List (ℕ × Statement) → List ℕ
code_of_all labels procedures code =
    code_bytes labels procedures (map (λ (s : ℕ × Statement). s.1) code)

-- the line of the first one with an unknown name
abbrev pub first_unknown : List (List ℕ) → List (List ℕ) → List (ℕ × Statement) → Option ℕ
first_unknown labels procedures [] = None
first_unknown labels procedures (s ∷ code) =
    if names_unknown labels procedures s.1 then Some s.0 else first_unknown labels procedures code
