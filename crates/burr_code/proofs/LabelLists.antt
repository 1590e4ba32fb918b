-- Labels and their bytes.
use Rattle.std.proofs.Common.{◌≡◌, ℕ, zero, suc, ◌+◌, ◌*◌, ◌/◌, ◌%◌, ◌-◌, ◌^◌, ◌<◌, ◌≤◌, Bool, true, false, List, [], ◌∷◌, length, take, drop, slice_index, Some, refl, sym, ap, ◌∙◌, arith, length-drop, All}
use Rattle.std.specs.Prelude.{nat_eq, slice_get}
use Rattle.std.specs.Cmp.Lexicographic.{pointwise, bytes_decides}
use Rattle.std.proofs.lemmas.List.{take_all}
use Rattle.std.proofs.lemmas.List.Elements.{All-cons}
use Rattle.byteorder.specs.Endian.{big_number}
use Rattle.burr_code.specs.Instruction.{AreLabels, label_bytes}
use Rattle.burr_code.specs.LabelBytes.{labels_in, IsOffer}

-- two bytes a label
pub length-label_bytes : (labels : List ℕ) → length (label_bytes labels) ≡ length labels + length labels
length-label_bytes [] = refl
length-label_bytes (x ∷ xs) = let more = length-label_bytes xs in omega (arith, more)

-- where two bytes are a label, the labels of the bytes have those bytes
bytes_back : (bytes : List ℕ) → ((i : ℕ) → slice_index bytes i < 256) → length bytes % 2 ≡ 0 → bytes ≡ label_bytes (labels_in bytes)
bytes_back [] small even = refl
bytes_back (a ∷ []) small even = absurd (omega (arith, even))
bytes_back (a ∷ b ∷ rest) small even =
    let a_small = small 0 in
    let b_small = small 1 in
    let first : a ≡ (a * 256 + b) / 256 % 256 = omega arith in
    let second : b ≡ (a * 256 + b) % 256 = omega arith in
    let more = bytes_back rest (λ i. small (suc (suc i))) (omega (arith, even)) in
    cc

labels_small : (bytes : List ℕ) → ((i : ℕ) → slice_index bytes i < 256) → All (λ (label : ℕ). label < 2 ^ 16) (labels_in bytes)
labels_small [] small = λ k d below. absurd (omega (arith, below))
labels_small (a ∷ []) small = λ k d below. absurd (omega (arith, below))
labels_small (a ∷ b ∷ rest) small =
    let a_small = small 0 in
    let b_small = small 1 in
    All-cons (λ (label : ℕ). label < 2 ^ 16) (a * 256 + b) (labels_in rest) (omega arith) (labels_small rest (λ i. small (suc (suc i))))

-- the bytes of 2 to 8 labels
pub offer : (bytes : List ℕ) → ((i : ℕ) → slice_index bytes i < 256) → length bytes % 2 ≡ 0 → 4 ≤ length bytes → length bytes ≤ 17 → IsOffer bytes
offer bytes small even long short =
    let spelled = bytes_back bytes small even in
    let many : length bytes ≡ length (labels_in bytes) + length (labels_in bytes) = ap (λ (all : List ℕ). length all) spelled ∙ length-label_bytes (labels_in bytes) in
    record { spelled = spelled; in_range = (omega (arith, many), omega (arith, many), labels_small bytes small) }

-- the bytes of labels are even in number, 4 at least and 16 at most
pub no_offer : (bytes labels : List ℕ) → AreLabels labels → bytes ≡ label_bytes labels → (length bytes % 2 ≡ 0) × (4 ≤ length bytes) × (length bytes ≤ 16)
no_offer bytes labels are e =
    let many : length bytes ≡ length labels + length labels = ap (λ (all : List ℕ). length all) e ∙ length-label_bytes labels in
    (omega (arith, many), omega (arith, many, are.0), omega (arith, many, are.1))

-- each label, in its two bytes
label_at : (bytes : List ℕ) (n : ℕ) → n < length (labels_in bytes) → slice_get (labels_in bytes) n ≡ Some (big_number 2 (drop (2 * n) bytes))
label_at [] n below = absurd (omega (arith, below))
label_at (a ∷ []) n below = absurd (omega (arith, below))
label_at (a ∷ b ∷ rest) zero below = ap Some (omega arith)
label_at (a ∷ b ∷ rest) (suc n) below =
    let two : 2 * suc n ≡ suc (suc (2 * n)) = omega arith in
    label_at rest n (omega (arith, below)) ∙ ap (λ m. Some (big_number 2 (drop m (a ∷ b ∷ rest)))) (sym two)

-- the same, where the bytes from there on were cut off
pub label_cut : (bytes : List ℕ) (n r : ℕ) → n < length (labels_in bytes) → r ≡ big_number 2 (take (length bytes - 2 * n) (drop (2 * n) bytes)) → Some r ≡ slice_get (labels_in bytes) n
label_cut bytes n r below is =
    let all : take (length bytes - 2 * n) (drop (2 * n) bytes) ≡ drop (2 * n) bytes = take_all (length bytes - 2 * n) (drop (2 * n) bytes) (omega (arith, length-drop (2 * n) bytes)) in
    ap Some (is ∙ ap (λ (rest : List ℕ). big_number 2 rest) all) ∙ sym (label_at bytes n below)

as_one : (a b : Bool) → (a ≡ true → b ≡ true) → (b ≡ true → a ≡ true) → a ≡ b
as_one true b there back = sym (there refl)
as_one false true there back = back refl
as_one false false there back = refl

-- labels are the same where their bytes are
pub same_labels : (xs ys : List ℕ) → IsOffer xs → IsOffer ys → pointwise nat_eq xs ys ≡ pointwise nat_eq (labels_in xs) (labels_in ys)
same_labels xs ys one other = as_one _ _
    (λ e. (bytes_decides (labels_in xs) (labels_in ys)).1 (ap (λ (bytes : List ℕ). labels_in bytes) ((bytes_decides xs ys).0 e)))
    (λ e. (bytes_decides xs ys).1 (one.spelled ∙ ap (λ (labels : List ℕ). label_bytes labels) ((bytes_decides (labels_in xs) (labels_in ys)).0 e) ∙ sym other.spelled))
