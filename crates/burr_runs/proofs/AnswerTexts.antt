-- The texts of answers are read in one way.
use Rattle.std.proofs.Common.{◌≡◌, ◌≢◌, ℕ, ℤ, ◌+◌, List, [], ◌∷◌, ◌++◌, length, All, FitsSigned, w32, refl, sym, ap, ◌∙◌, append_assoc, append-nil}
use Rattle.std.specs.Fmt.{signed_decimal}
use Rattle.std.proofs.lemmas.List.Elements.{All-head, All-tail}
use Rattle.burr_text.proofs.Common.Cuts.{cut}
use Rattle.burr_text.proofs.Common.Integers.{same_integer}
use Rattle.burr_text.proofs.Common.Unended.{lacks_signed_decimal}
use Rattle.burr_runs.specs.Rules.Answers.{answer_line, answers_text, BeginsWithNone, OneAnswers, NoFaultyLine, OneFaultyLine}

-- a line, its end, and what stands after it
pub ended_line : (answer : ℤ) (after : List ℕ) → answer_line answer ++ after ≡ signed_decimal answer ++ 10 ∷ after
ended_line answer after = append_assoc (signed_decimal answer) (10 ∷ []) after

-- texts that begin with answers' lines and are equal begin with one answer
same_line : (y z : ℤ) (r s : List ℕ) → FitsSigned w32 y → FitsSigned w32 z → answer_line y ++ r ≡ answer_line z ++ s → (y ≡ z) × (r ≡ s)
same_line y z r s fy fz e =
    let parts = cut 10 (signed_decimal y) (signed_decimal z) r s (lacks_signed_decimal y) (lacks_signed_decimal z) (sym (ended_line y r) ∙ e ∙ ended_line z s) in
    (same_integer (signed_decimal y) y z fy fz refl parts.0, parts.1)

-- the lines of answers, the first by itself
first_apart : (answer : ℤ) (answers : List ℤ) (rest : List ℕ) → answers_text (answer ∷ answers) ++ rest ≡ answer_line answer ++ (answers_text answers ++ rest)
first_apart answer answers rest = append_assoc (answer_line answer) (answers_text answers) rest

-- the first of answers
first_of : (x : ℤ) (xs : List ℤ) → All (FitsSigned w32) (x ∷ xs) → FitsSigned w32 x
first_of x xs = All-head (FitsSigned w32) x xs

-- and the others
others_of : (x : ℤ) (xs : List ℤ) → All (FitsSigned w32) (x ∷ xs) → All (FitsSigned w32) xs
others_of x xs = All-tail (FitsSigned w32) x xs

-- answers' lines as far as they go, and what is left, are one
one_reading : (xs ys : List ℤ) (r s : List ℕ) → All (FitsSigned w32) xs → All (FitsSigned w32) ys → BeginsWithNone r → BeginsWithNone s
    → answers_text xs ++ r ≡ answers_text ys ++ s → (xs ≡ ys) × (r ≡ s)
one_reading [] [] r s fx fy p q e = (refl, e)
one_reading [] (y ∷ ys) r s fx fy p q e = absurd (p y (answers_text ys ++ s) (first_of y ys fy) (e ∙ first_apart y ys s))
one_reading (x ∷ xs) [] r s fx fy p q e = absurd (q x (answers_text xs ++ r) (first_of x xs fx) (sym e ∙ first_apart x xs r))
one_reading (x ∷ xs) (y ∷ ys) r s fx fy p q e =
    let first = same_line x y (answers_text xs ++ r) (answers_text ys ++ s) (first_of x xs fx) (first_of y ys fy) (sym (first_apart x xs r) ∙ e ∙ first_apart y ys s) in
    let others = one_reading xs ys r s (others_of x xs fx) (others_of y ys fy) p q first.1 in
    (λ i. first.0 i ∷ others.0 i, others.1)

-- nothing begins with no answer's line
pub nothing_begins : BeginsWithNone []
nothing_begins answer after h e = ends (signed_decimal answer) (e ∙ ended_line answer after)
  where
    ends : (front : List ℕ) → [] ≢ front ++ 10 ∷ after
    ends [] e = cc
    ends (b ∷ front) e = cc

pub one_answers : OneAnswers
one_answers xs ys fx fy e = (one_reading xs ys [] [] fx fy nothing_begins nothing_begins (ap (λ (text : List ℕ). text ++ []) e)).0

pub no_faulty_line : NoFaultyLine
no_faulty_line xs line fx (ys, r, wrong, n) =
    wrong.more (sym (one_reading xs ys [] r fx wrong.each nothing_begins wrong.none (append-nil (answers_text xs) ∙ wrong.parts)).1)

pub one_faulty_line : OneFaultyLine
one_faulty_line text line other (xs, r, p, n) (ys, s, q, m) =
    let same = one_reading xs ys r s p.each q.each p.none q.none (sym p.parts ∙ q.parts) in
    n ∙ ap (λ (zs : List ℤ). length zs + 1) same.0 ∙ sym m
