-- Bytes that begin with no instruction, and those that begin with a `pick`.
use Rattle.std.proofs.Common.{◌≡◌, ◌≢◌, ℕ, ◌+◌, ◌-◌, ◌*◌, ◌<◌, List, ◌∷◌, ◌++◌, length, take, drop, sym, ap, ◌∙◌, subst, arith}
use Rattle.std.specs.List.{slice_range}
use Rattle.std.proofs.Math.Seq.{take-append_seam}
use Rattle.std.proofs.lemmas.List.{take-append-drop, length-append}
use Rattle.burr_text.proofs.Common.Cuts.{same_head, same_tail}
use Rattle.burr_code.specs.Instruction.{Instruction, Begins, IsInRange, IsInNumberRange, AreLabels, label_bytes, signed_word}
use Rattle.burr_code.specs.Meaning.{NoneBegins, NoOperand}
use Rattle.burr_code.proofs.Common.Reading.{read, read_begun}
use Rattle.burr_code.proofs.LabelLists.{length-label_bytes}

-- bytes begin with no instruction where they don't begin with the one that is read from them
none_begins : (bytes : List ℕ) → (IsInRange (read bytes) → ¬ Begins bytes (read bytes)) → NoneBegins bytes
none_begins bytes none i in_range begins =
    let both = subst (λ (j : Instruction). IsInRange j × Begins bytes j) (sym (read_begun bytes i in_range begins)) (in_range, begins) in
    none both.0 both.1

-- no `ask` without a second number
pub no_ask : (a b : ℕ) (operands rest : List ℕ) → operands ≡ a ∷ b ∷ rest → NoOperand IsInNumberRange signed_word rest → NoneBegins (0x22 ∷ operands)
no_ask a b operands rest parts none = none_begins (0x22 ∷ operands) λ in_range begins.
    none _ begins.0 in_range.1 (same_tail _ _ _ _ (same_tail _ _ _ _ (sym parts ∙ same_tail _ _ _ _ begins.1)))

-- no `pick` where the bytes of `count` labels do not follow
no_pick : (count : ℕ) (operands rest : List ℕ) → operands ≡ count ∷ rest
    → ((labels after : List ℕ) → AreLabels labels → count ≡ length labels → rest ≢ label_bytes labels ++ after) → NoneBegins (0x23 ∷ operands)
no_pick count operands rest parts none = none_begins (0x23 ∷ operands) λ in_range begins.
    let both = sym parts ∙ same_tail _ _ _ _ begins.1 in
    none _ begins.0 in_range (same_head _ _ _ _ both) (same_tail _ _ _ _ both)

-- no `pick` in fewer bytes
pub no_pick_in : (count : ℕ) (operands rest : List ℕ) → operands ≡ count ∷ rest → length rest < 2 * count → NoneBegins (0x23 ∷ operands)
no_pick_in count operands rest parts short = no_pick count operands rest parts λ labels after are many e.
    let size : length rest ≡ length (label_bytes labels) + length after = ap (λ (all : List ℕ). length all) e ∙ length-append (label_bytes labels) after in
    omega (arith, short, many, size, length-label_bytes labels)

front_of : (count : ℕ) (rest labels after : List ℕ) → count ≡ length labels → rest ≡ label_bytes labels ++ after → take (2 * count) rest ≡ label_bytes labels
front_of count rest labels after many e =
    let size : 2 * count ≡ length (label_bytes labels) = omega (arith, many, length-label_bytes labels) in
    ap (λ n. take n rest) size ∙ ap (λ (all : List ℕ). take (length (label_bytes labels)) all) e ∙ take-append_seam (label_bytes labels) after

cut_front : (n : ℕ) (rest : List ℕ) → slice_range rest 0 n ≡ take n rest
cut_front n rest = let all : n - 0 ≡ n = omega arith in ap (λ m. take m rest) all

-- no `pick` where the bytes are those of no labels
pub no_pick_of : (count : ℕ) (operands rest front : List ℕ) → operands ≡ count ∷ rest → front ≡ slice_range rest 0 (2 * count)
    → ((labels : List ℕ) → AreLabels labels → front ≢ label_bytes labels) → NoneBegins (0x23 ∷ operands)
no_pick_of count operands rest front parts cut none = no_pick count operands rest parts λ labels after are many e.
    none labels are (cut ∙ cut_front (2 * count) rest ∙ front_of count rest labels after many e)

-- a `pick` of labels whose bytes are there
pub is_pick : (count : ℕ) (operands rest front labels : List ℕ) → operands ≡ count ∷ rest → front ≡ slice_range rest 0 (2 * count) → length front ≡ 2 * count
    → front ≡ label_bytes labels → (after : List ℕ) × (0x23 ∷ operands ≡ 0x23 ∷ length labels ∷ (label_bytes labels ++ after))
is_pick count operands rest front labels parts cut size e =
    let many : count ≡ length labels = omega (arith, size, ap (λ (all : List ℕ). length all) e, length-label_bytes labels) in
    let whole : rest ≡ label_bytes labels ++ drop (2 * count) rest = sym (take-append-drop (2 * count) rest) ∙ ap (λ (all : List ℕ). all ++ drop (2 * count) rest) (sym (cut ∙ cut_front (2 * count) rest) ∙ e) in
    (drop (2 * count) rest, ap (λ (all : List ℕ). 0x23 ∷ all) (parts ∙ ap (λ n. n ∷ rest) many ∙ ap (λ (all : List ℕ). length labels ∷ all) whole))
