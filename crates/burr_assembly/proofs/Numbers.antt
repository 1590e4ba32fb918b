-- The words of numbers, and the positions that they spell.
use Rattle.std.proofs.Common.{◌≡◌, ℕ, suc, ◌≤◌, List, [], ◌∷◌, All, ℤ, pos, negsuc, FitsSigned, w32, sym, subst, arith, inl, inr}
use Rattle.std.specs.Fmt.{signed_decimal}
use Rattle.std.proofs.lemmas.Int.{ints, fits_signed_from_abs}
use Rattle.burr_voxels.specs.declared.cell.Cell.{Cell}
use Rattle.burr_assembly.specs.Rules.Text.{IsCoordinate}
use Rattle.burr_assembly.specs.Rules.Lines.{PieceWords}
use Rattle.burr_text.specs.Numbers.{IsNumber}
use Rattle.burr_assembly.specs.Rules.Faults.{IsPositionOf}
use Rattle.burr_text.proofs.Common.Cuts.{Lacks}
use Rattle.burr_text.proofs.Common.Integers.{number_of_integer, same_integer}

-- digits are no blanks
digits_lack : (bytes : List ℕ) → All (λ b. (48 ≤ b) × (b ≤ 57)) bytes → Lacks 32 bytes
digits_lack [] h = tt
digits_lack (b ∷ bytes) h = (λ e. let low = h 0 0 (omega arith) in omega arith, digits_lack bytes (λ k d inside. h (suc k) d (omega arith)))

-- a number holds no blank
pub number_lacks : (bytes : List ℕ) → IsNumber bytes → Lacks 32 bytes
number_lacks bytes (inl e) = subst (Lacks 32) (sym e) (λ h. omega arith, tt)
number_lacks bytes (inr (inl h)) = digits_lack bytes h.digits
number_lacks bytes (inr (inr h)) = subst (Lacks 32) (sym h.1) (λ e. omega arith, digits_lack h.0 h.2.digits)

-- a coordinate is an integer of 32 bits
pub fits : (z : ℤ) → IsCoordinate z → FitsSigned w32 z
fits (pos n) h = let high = h.high in fits_signed_from_abs w32 (pos n) (omega (arith, ints))
fits (negsuc n) h = let low = h.low in fits_signed_from_abs w32 (negsuc n) (omega (arith, ints))

-- the text of a coordinate is a number
pub number_of_coordinate : (z : ℤ) → IsCoordinate z → IsNumber (signed_decimal z)
number_of_coordinate z h = number_of_integer z (fits z h)

-- coordinates of one text are one
same_coordinate : (bytes : List ℕ) (y z : ℤ) → IsCoordinate y → IsCoordinate z → bytes ≡ signed_decimal y → bytes ≡ signed_decimal z → y ≡ z
same_coordinate bytes y z h k = same_integer bytes y z (fits y h) (fits z k)

-- the positions that the numbers of a line spell are one
pub one_position : (w : PieceWords) (c d : Cell) → IsPositionOf w c → IsPositionOf w d → c ≡ d
one_position w c d h k =
    let x = same_coordinate w.x c.x d.x h.0.0 k.0.0 h.1 k.1 in
    let y = same_coordinate w.y c.y d.y h.0.1 k.0.1 h.2 k.2 in
    let z = same_coordinate w.z c.z d.z h.0.2 k.0.2 h.3 k.3 in
    λ i. record { x = x i; y = y i; z = z i }
