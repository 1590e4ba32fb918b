-- For the code: how many bytes code has.
use Rattle.std.proofs.Common.{◌≡◌, ℕ, suc, ◌+◌, ◌<◌, List, [], ◌∷◌, ◌++◌, length, map, refl, ap, ◌∙◌, arith, length-append}
use Rattle.std.proofs.lemmas.Grind.{flat_map-append}
use Rattle.burr_code.specs.Instruction as code
use Rattle.burr_code.specs.Instruction.{Instruction, spelled, label_bytes}
use Rattle.burr_plantext.specs.Rules.Statements.{Statement, Alone}
use Rattle.burr_plantext.specs.Rules.Meaning.{statement_bytes, code_bytes, code_size}

-- as many labels have as many bytes
pub label_sizes : {A : Type 0} (f g : A → ℕ) (labels : List A)
    → length (label_bytes (map f labels)) ≡ length (label_bytes (map g labels))
label_sizes f g [] = refl
label_sizes f g (label ∷ labels) = ap (λ (n : ℕ). suc (suc n)) (label_sizes f g labels)

-- an instruction has some bytes
pub some_bytes : (i : Instruction) → 0 < length (spelled i)
some_bytes code.Halt = omega arith
some_bytes _ = omega arith

-- a line of code has some bytes
pub some_size : (s : Statement) → 0 < length (statement_bytes [] [] s)
some_size (Alone bare) = some_bytes bare.instruction
some_size _ = omega arith

-- two pieces of code have the bytes of both
pub size_both : (xs ys : List Statement) → code_size (xs ++ ys) ≡ code_size xs + code_size ys
size_both xs ys = ap length (flat_map-append (statement_bytes [] []) xs ys) ∙ length-append (code_bytes [] [] xs) (code_bytes [] [] ys)
