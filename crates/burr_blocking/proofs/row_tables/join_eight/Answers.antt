use Rattle.std.proofs.Common.{◌≡◌, ◌*◌, ◌%◌, ◌^◌, ℕ, List, length, bit_or, arith, ◌∙◌, ap, sym}
use Rattle.std.specs.Prelude.{replicate}
use Rattle.std.specs.Simd.Lanes.{zip2}
use Rattle.std.proofs.lemmas.Simd.{length-zip2}
use Rattle.burr_blocking.specs.Views.Bits.{or_shifted}
use Rattle.burr_blocking.proofs.Joins.{zip2_same, zip2_twice}
use Rattle.burr_blocking.proofs.row_tables.join_eight.Goals as goal

-- rows joined with others that are shifted alike
shifted_in : (k : ℕ) (rows others : List ℕ) → length rows ≡ length others → length others ≡ 8 → zip2 (λ x y. bit_or x y) rows (zip2 (λ y s. y * 2 ^ s % 2 ^ 32) others (replicate 8 k)) ≡ zip2 (or_shifted k) rows others
shifted_in k rows others same width =
    ap (λ n. zip2 (λ x y. bit_or x y) rows (zip2 (λ y s. y * 2 ^ s % 2 ^ 32) others (replicate n k))) (sym width) ∙ zip2_same (λ x y. bit_or x y) (λ y s. y * 2 ^ s % 2 ^ 32) k rows others same

pub returns : goal.returns
returns c =
    let rows : List ℕ = c.args.rows in
    let others : List ℕ = c.args.others in
    let shift : ℕ → List ℕ = λ k. zip2 (λ y s. y * 2 ^ s % 2 ^ 32) others (replicate 8 k) in
    let same : length rows ≡ length others = omega (arith, c.requires.width, c.requires.others_width) in
    ap (λ rs. zip2 (λ x y. bit_or x y) rs (shift c.args.further)) (shifted_in c.args.columns rows others same c.requires.others_width)
    ∙ shifted_in c.args.further (zip2 (or_shifted c.args.columns) rows others) others (length-zip2 (or_shifted c.args.columns) rows others same ∙ same) c.requires.others_width
    ∙ zip2_twice (or_shifted c.args.columns) (or_shifted c.args.further) rows others
