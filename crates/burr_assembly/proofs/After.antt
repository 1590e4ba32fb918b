-- Rules that stand after shapes.
use Rattle.std.proofs.Common.{◌<◌, ℕ, List, [], ◌∷◌, length, Result, Ok, Err, arith}
use Rattle.std.specs.Result.{IfOk, IfErr}
use Rattle.burr_assembly.specs.Rules.Text.{Drawing}
use Rattle.burr_assembly.specs.Rules.Lines.{PieceWords, PieceLine}
use Rattle.burr_assembly.specs.Rules.Faults.{LineResult, Shapes, FormGives, PieceRule}

-- where a shape has ended, a piece may come
pub first_piece : (n : ℕ) (name : List ℕ) (shapes : List Drawing) (w : PieceWords) (answer : LineResult)
    → 0 < length shapes → PieceRule n name shapes [] w answer → FormGives n (Shapes name shapes) (PieceLine w) answer
first_piece n name [] w answer some rule = absurd (omega arith)
first_piece n name (s ∷ shapes) w answer some rule = rule

-- a fact of the value of an `Ok`, and what follows from it
pub ok_with : {T E : Type 0} (r : Result T E) (P Q : T → Type 0) → ((x : T) → P x → Q x) → IfOk r P → IfOk r Q
ok_with (Ok x) P Q follows holds = follows x holds
ok_with (Err e) P Q follows holds = tt

-- the same of an error
pub err_with : {T E : Type 0} (r : Result T E) (P Q : E → Type 0) → ((e : E) → P e → Q e) → IfErr r P → IfErr r Q
err_with (Ok x) P Q follows holds = tt
err_with (Err e) P Q follows holds = follows e holds
