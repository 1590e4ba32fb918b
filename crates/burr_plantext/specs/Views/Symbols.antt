-- Forms over the symbols of a frame: its live slots, in their order.
use Rattle.std.specs.Prelude.{◌≡◌, ℕ, suc, ℤ, List, [], ◌∷◌, ◌++◌, length, codes, Bool, true, false, IsTrue}
use Rattle.std.specs.List.{list_all}
use Rattle.std.specs.Fmt.{decimal, signed_decimal}
use Rattle.burr_code.specs.declared.limits.TheConstants.{SLOTS}
use Rattle.burr_code.specs.declared.placement.Placement.{Placement}
use Rattle.burr_code.specs.declared.placement.Placement.TheVariants.{Apart, On}
use Rattle.burr_forms.specs.Rules.Forms.{Form}
use Rattle.burr_container.specs.Rules.Plans.{FormCell, Frame, ExitFrame, live_slots}
use Rattle.burr_container.specs.Rules.Fitting.{is_form, is_place}
use Rattle.burr_plantext.specs.Rules.Written.{slot_numbers}
use Rattle.burr_plantext.specs.Rules.Listing.{term_word}

-- the live slots, from one on
abbrev pub live_numbers : ℕ → List Bool → List ℕ
live_numbers slot [] = []
live_numbers slot (true ∷ live) = slot ∷ live_numbers (suc slot) live
live_numbers slot (false ∷ live) = live_numbers (suc slot) live

-- the symbols are the live slots, and whatever comes after them
abbrev pub AreSymbols : List Bool → List ℕ → Type 0
AreSymbols live symbols = (rest : List ℕ) × (symbols ≡ live_numbers 0 live ++ rest)

-- forms over the live slots
abbrev pub AreOver : List Bool → List Form → Type 0
AreOver live forms = IsTrue (list_all (is_form live) forms)

-- places by forms over the live slots
abbrev pub ArePlacesOver : List Bool → List (Placement FormCell) → Type 0
ArePlacesOver live places = IsTrue (list_all (is_place live) places)

-- all forms of a frame are over its own live slots
pub record IsOverLive (f : Frame) : Type 0 where
  pub slots : length f.slots ≡ SLOTS
  pub guards : AreOver (live_slots f.slots) f.guards
  pub stack : AreOver (live_slots f.slots) f.stack
  pub cost : IsTrue (is_form (live_slots f.slots) f.cost)
  pub places : ArePlacesOver (live_slots f.slots) f.places

-- these are symbols of a frame, and all its forms are over them
pub record HasSymbols (f : Frame) (symbols : List ℕ) : Type 0 where
  pub own : AreSymbols (live_slots f.slots) symbols
  pub over : IsOverLive f

-- all forms of an exit frame are over these, which are the first slots
pub record IsOverFirst (live : List Bool) (f : ExitFrame) : Type 0 where
  pub first : AreSymbols live slot_numbers
  pub guards : AreOver live f.guards
  pub places : ArePlacesOver live f.places

-- a term for each symbol; these are the slots of the symbols
abbrev pub symbol_terms : List ℕ → List ℤ → List ℕ
symbol_terms [] coefs = []
symbol_terms (slot ∷ symbols) [] = []
symbol_terms (slot ∷ symbols) (c ∷ coefs) = term_word slot c ++ symbol_terms symbols coefs

-- the word of a form; these are the slots of its symbols
abbrev pub symbol_word : List ℕ → Form → List ℕ
symbol_word symbols f = signed_decimal f.constant ++ symbol_terms symbols f.coefs

-- a line of a word and such a form
abbrev pub symbol_line : List ℕ → List ℕ → Form → List ℕ
symbol_line word symbols f = word ++ (symbol_word symbols f ++ 10 ∷ [])

-- where a piece lies, each word after a blank
abbrev pub symbol_spot : List ℕ → Placement FormCell → List ℕ
symbol_spot symbols Apart = codes " apart"
symbol_spot symbols (On tray at) =
    32 ∷ (decimal tray ++ (32 ∷ (symbol_word symbols at.x
    ++ (32 ∷ (symbol_word symbols at.y ++ (32 ∷ symbol_word symbols at.z))))))

-- the line of a piece
abbrev pub symbol_piece : List ℕ → ℕ → Placement FormCell → List ℕ
symbol_piece symbols piece place =
    codes "at " ++ (decimal piece ++ (symbol_spot symbols place ++ 10 ∷ []))
