-- Lines of code by their form alone. Numbers and sets are not judged, names are not looked for.
use Rattle.std.specs.Prelude.{ℕ, ◌+◌, ◌-◌, ◌*◌, List, [], ◌∷◌, ◌++◌, length, map, codes, Option, None, Bool, ◌&&◌, ◌||◌, nat_le, if◌then◌else◌}
use Rattle.std.specs.List.{list_all}
use Rattle.std.specs.Str.{bytes_eq}
use Rattle.burr_text.specs.Names.{is_digit}
use Rattle.burr_voxels.specs.declared.direction.Direction.{Direction}
use Rattle.burr_code.specs.Instruction as code
use Rattle.burr_code.specs.Instruction.{Instruction, spelled}
use Rattle.burr_container.specs.Rules.Fitting.{is_name_text}
use Rattle.burr_plantext.specs.Rules.Written.{is_number, is_set}
use Rattle.burr_plantext.specs.Rules.Operands.{given, alone, one, two, by_word, directed}

-- An instruction without operands, and its word.
pub record Bare : Type 0 where
  pub word : List ℕ
  pub instruction : Instruction

-- all of them
abbrev pub bares : List Bare
bares =
    record { word = codes "halt"; instruction = code.Halt }
    ∷ record { word = codes "add"; instruction = code.Add }
    ∷ record { word = codes "sub"; instruction = code.Sub }
    ∷ record { word = codes "drop"; instruction = code.Drop }
    ∷ record { word = codes "ret"; instruction = code.Ret } ∷ []

-- the one of an instruction; an instruction with operands has no word alone
abbrev pub bare_of : List Bare → Instruction → Bare
bare_of [] i = record { word = []; instruction = i }
bare_of (bare ∷ more) i =
    if bytes_eq (spelled bare.instruction) (spelled i) then bare else bare_of more i

-- A line of code: an instruction with its operands as they are written, or one raw byte.
pub data Statement : Type 0 where
  Alone : (bare : Bare) → Statement
  Push : (number : List ℕ) → Statement
  Load : (slot : List ℕ) → Statement
  Store : (slot : List ℕ) → Statement
  Grip : (set : List ℕ) → Statement
  Step : (direction : Direction) → Statement
  Aside : (direction : Direction) (tray : List ℕ) → Statement
  Tray : (tray : List ℕ) → Statement
  Jump : (label : List ℕ) → Statement
  Down : (slot label : List ℕ) → Statement
  Ask : (low high : List ℕ) → Statement
  Pick : (labels : List (List ℕ)) → Statement
  Call : (procedure : List ℕ) → Statement
  Byte : (byte : ℕ) → Statement

-- Raw bytes: two lower case digits of base 16

-- a digit, or one of the letters `a` to `f`
abbrev pub is_hex_digit : ℕ → Bool
is_hex_digit b = is_digit b || (nat_le 97 b && nat_le b 102)

-- the number that the digit stands for
abbrev pub hex_value : ℕ → ℕ
hex_value b = if is_digit b then b - 48 else b - 87

-- the byte with two such digits
abbrev pub raw_byte : List ℕ → Option Statement
raw_byte (high ∷ low ∷ []) =
    given (is_hex_digit high && is_hex_digit low) (Byte (16 * hex_value high + hex_value low))
raw_byte bytes = None

-- one word, of such digits
abbrev pub bytes_line : List (List ℕ) → Option Statement
bytes_line (word ∷ []) = raw_byte word
bytes_line words = None

-- Instructions

-- 2 to 8 labels
abbrev pub offer : List (List ℕ) → Option Statement
offer labels =
    given (nat_le 2 (length labels) && nat_le (length labels) 8 && list_all is_name_text labels)
    (Pick labels)

-- the words that have operands after them
abbrev pub operand_words : List (List ℕ × (List (List ℕ) → Option Statement))
operand_words =
    (codes "push", one is_number Push) ∷ (codes "load", one is_number Load)
    ∷ (codes "store", one is_number Store) ∷ (codes "grip", one is_set Grip)
    ∷ (codes "step", directed (λ d. alone (Step d)))
    ∷ (codes "aside", directed (λ d. one is_number (Aside d)))
    ∷ (codes "tray", one is_number Tray) ∷ (codes "jump", one is_name_text Jump)
    ∷ (codes "down", two is_number is_name_text Down) ∷ (codes "ask", two is_number is_number Ask)
    ∷ (codes "pick", offer) ∷ (codes "call", one is_name_text Call) ∷ (codes "byte", bytes_line)
    ∷ []

-- the words that stand alone
abbrev pub bare_words : List Bare → List (List ℕ × (List (List ℕ) → Option Statement))
bare_words some = map (λ (bare : Bare). (bare.word, alone (Alone bare))) some

-- the words that begin a line of code
abbrev pub code_words : List (List ℕ × (List (List ℕ) → Option Statement))
code_words = bare_words bares ++ operand_words

-- the line of code that a word and operands are, if they are one
abbrev pub code_of : List ℕ → List (List ℕ) → Option Statement
code_of word operands = by_word word code_words operands
