-- The bytes of a number that was read of them.
use Rattle.std.proofs.Common.{◌≡◌, ℕ, ◌/◌, ◌%◌, ◌<◌, ◌^◌, List, [], ◌∷◌, length, arith, ap, subst, ◌∙◌}
use Rattle.std.specs.Prelude.{ℤ}
use Rattle.std.specs.Int.{w16, cast_unsigned, cast_signed}
use Rattle.std.proofs.lemmas.Int.{of_z-to_z}
use Rattle.byteorder.specs.Endian.{big_bytes, big_number}
use Rattle.burr_code.specs.Instruction.{signed_word}
use Rattle.burr_container.specs.Views.Cuts.{AreBytes, IsCut}

pub two_bytes : (xs : List ℕ) (n : ℕ) → length xs ≡ 2 → AreBytes xs → n ≡ big_number 2 xs → xs ≡ big_bytes 2 n
two_bytes [] n long small e = absurd (omega arith)
two_bytes (a ∷ []) n long small e = absurd (omega arith)
two_bytes (a ∷ b ∷ []) n long small e =
    let a_small = small 0 in
    let b_small = small 1 in
    let first : a ≡ n / 256 % 256 = omega arith in
    let second : b ≡ n % 256 = omega arith in
    cc
two_bytes (a ∷ b ∷ c ∷ xs) n long small e = absurd (omega arith)

pub four_bytes : (xs : List ℕ) (n : ℕ) → length xs ≡ 4 → AreBytes xs → n ≡ big_number 4 xs → xs ≡ big_bytes 4 n
four_bytes [] n long small e = absurd (omega arith)
four_bytes (a ∷ []) n long small e = absurd (omega arith)
four_bytes (a ∷ b ∷ []) n long small e = absurd (omega arith)
four_bytes (a ∷ b ∷ c ∷ []) n long small e = absurd (omega arith)
four_bytes (a ∷ b ∷ c ∷ d ∷ []) n long small e =
    let a_small = small 0 in
    let b_small = small 1 in
    let c_small = small 2 in
    let d_small = small 3 in
    let first : a ≡ n / 16777216 % 256 = omega arith in
    let second : b ≡ n / 65536 % 256 = omega arith in
    let third : c ≡ n / 256 % 256 = omega arith in
    let fourth : d ≡ n % 256 = omega arith in
    cc
four_bytes (a ∷ b ∷ c ∷ d ∷ x ∷ xs) n long small e = absurd (omega arith)

-- a number of two bytes is below 2 ^ 16
big_number_fits : (xs : List ℕ) → AreBytes xs → big_number 2 xs < 2 ^ 16
big_number_fits xs small =
    let first = small 0 in
    let second = small 1 in
    omega arith

-- the bytes that were cut off, as those of their number
pub cut_word : (at : ℕ) (all bytes : List ℕ) (n next : ℕ) (rest : List ℕ) → length bytes ≡ 2 → AreBytes bytes → n ≡ big_number 2 bytes → IsCut at all bytes next rest → IsCut at all (big_bytes 2 n) next rest
cut_word at all bytes n next rest long small e cut = let same = two_bytes bytes n long small e in subst (λ (b : List ℕ). IsCut at all b next rest) same cut

pub cut_long : (at : ℕ) (all bytes : List ℕ) (n next : ℕ) (rest : List ℕ) → length bytes ≡ 4 → AreBytes bytes → n ≡ big_number 4 bytes → IsCut at all bytes next rest → IsCut at all (big_bytes 4 n) next rest
cut_long at all bytes n next rest long small e cut = let same = four_bytes bytes n long small e in subst (λ (b : List ℕ). IsCut at all b next rest) same cut

pub cut_signed : (at : ℕ) (all bytes : List ℕ) (n : ℤ) (next : ℕ) (rest : List ℕ) → length bytes ≡ 2 → AreBytes bytes → n ≡ cast_signed w16 (big_number 2 bytes) → IsCut at all bytes next rest → IsCut at all (signed_word n) next rest
cut_signed at all bytes n next rest long small e cut =
    let below : big_number 2 bytes < 2 ^ 16 = big_number_fits bytes small in
    let same : cast_unsigned w16 n ≡ big_number 2 bytes = ap (cast_unsigned w16) e ∙ of_z-to_z w16 (big_number 2 bytes) below in
    cut_word at all bytes (cast_unsigned w16 n) next rest long small same cut
