-- What the bytes of forms and places stand for: read from the front of a list.
use Rattle.std.specs.Prelude.{◌≡◌, ℕ, zero, suc, ◌*◌, ℤ, pos, List, [], ◌∷◌, drop, length, Bool, true, false, ◌&&◌, nat_le, IsTrue, ◌==◌}
use Rattle.std.specs.Int.{w16, w32, cast_signed}
use Rattle.byteorder.specs.Endian.{big_number}
use Rattle.burr_code.specs.declared.placement.Placement.{Placement}
use Rattle.burr_code.specs.declared.placement.Placement.TheVariants.{Apart, On}
use Rattle.burr_forms.specs.Rules.Forms.{Form}
use Rattle.burr_container.specs.Rules.Plans.{FormCell}
use Rattle.burr_container.specs.Rules.Spelling.{form_size}
use Rattle.burr_container.specs.Rules.Fitting.{is_tray}

-- a signed number of two bytes
abbrev pub signed_in : List ℕ → ℤ
signed_in bytes = cast_signed w16 (big_number 2 bytes)

-- a given number of signed numbers, each of two bytes
abbrev pub words_in : ℕ → List ℕ → List ℤ
words_in zero bytes = []
words_in (suc n) bytes = signed_in bytes ∷ words_in n (drop 2 bytes)

-- how many slots are live
abbrev pub live_count : List Bool → ℕ
live_count [] = 0
live_count (true ∷ live) = suc (live_count live)
live_count (false ∷ live) = live_count live

-- a number for each live slot, and 0 for each other
abbrev pub coefs_in : List Bool → List ℕ → List ℤ
coefs_in [] bytes = []
coefs_in (true ∷ live) bytes = signed_in bytes ∷ coefs_in live (drop 2 bytes)
coefs_in (false ∷ live) bytes = pos 0 ∷ coefs_in live bytes

-- a form over these live slots
abbrev pub form_in : List Bool → List ℕ → Form
form_in live bytes = record {
  constant = cast_signed w32 (big_number 4 bytes);
  coefs = coefs_in live (drop 4 bytes);
}

-- a given number of forms, one after the other
abbrev pub forms_in : List Bool → ℕ → List ℕ → List Form
forms_in live zero bytes = []
forms_in live (suc n) bytes = form_in live bytes ∷ forms_in live n (drop (form_size live) bytes)

-- three forms
abbrev pub cell_in : List Bool → List ℕ → FormCell
cell_in live bytes = record {
  x = form_in live bytes;
  y = form_in live (drop (form_size live) bytes);
  z = form_in live (drop (form_size live) (drop (form_size live) bytes));
}

-- where a piece lies, by whether its first byte is 255: that byte, and what follows it
abbrev pub place_by : Bool → List Bool → ℕ → List ℕ → Placement FormCell
place_by true live first bytes = Apart
place_by false live first bytes = On first (cell_in live bytes)

abbrev pub place_in : List Bool → ℕ → List ℕ → Placement FormCell
place_in live first bytes = place_by (first == 255) live first bytes

-- how many bytes follow the first of a place, by whether it is 255
abbrev pub rest_by : Bool → List Bool → ℕ
rest_by true live = 0
rest_by false live = 3 * form_size live

abbrev pub place_rest : List Bool → ℕ → ℕ
place_rest live first = rest_by (first == 255) live

-- a given number of places, one after the other
abbrev pub places_in : List Bool → ℕ → List ℕ → List (Placement FormCell)
places_in live zero bytes = []
places_in live (suc n) [] = []
places_in live (suc n) (first ∷ bytes) =
    place_in live first bytes ∷ places_in live n (drop (place_rest live first) bytes)

-- a place stands at the front of the bytes, by whether its first byte is 255: if not, that byte is
-- a tray, and three forms follow
abbrev pub stands_by : Bool → List Bool → ℕ → List ℕ → Bool
stands_by true live first bytes = true
stands_by false live first bytes = is_tray first && nat_le (3 * form_size live) (length bytes)

-- a given number of places stand at the front of the bytes
abbrev pub places_stand : List Bool → ℕ → List ℕ → Bool
places_stand live zero bytes = true
places_stand live (suc n) [] = false
places_stand live (suc n) (first ∷ bytes) =
    stands_by (first == 255) live first bytes
    && places_stand live n (drop (place_rest live first) bytes)

-- a place stands at the front of the bytes, and these are the next ones after it
pub record IsAfterPlace (live : List Bool) (bytes next : List ℕ) : Type 0 where
  pub first : ℕ
  pub body : List ℕ
  pub parts : bytes ≡ first ∷ body
  pub stands : IsTrue (stands_by (first == 255) live first body)
  pub over : next ≡ drop (place_rest live first) body
