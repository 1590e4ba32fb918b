-- Where something is due in the lines of a plan text, and the text with something in its place.
use Rattle.std.specs.Prelude.{◌≡◌, ◌⊎◌, ◌↔◌, ◌++◌, ◌-◌, ℕ, Bool, false, List, [], ◌∷◌, Option, Some, None, String, IsSome, is_some, map, reverse, drop, slice_get, codes, string_bytes}
use Rattle.std.specs.List.{flat_map}
use Rattle.std.specs.declared.alloc.Global.{Global}
use Rattle.burr_text.specs.Lines.{IsUnended}
use Rattle.burr_lines.specs.declared.unframed.Part.{Part}
use Rattle.burr_lines.specs.declared.unframed.Due.{Due}

-- a line whose first word is this one
abbrev pub BeginsBy : List ℕ → List ℕ → Type 0
BeginsBy word line = (line ≡ word) ⊎ ((more : List ℕ) × (line ≡ word ++ 32 ∷ more))

-- a line that opens a procedure or a label, so that a frame follows
abbrev pub OpensFrame : List ℕ → Type 0
OpensFrame line = BeginsBy (codes "proc") line ⊎ BeginsBy (codes "label") line

-- nothing, or a comment
abbrev pub IsSilent : List ℕ → Type 0
IsSilent line = (line ≡ []) ⊎ ((comment : List ℕ) × (line ≡ 59 ∷ comment))

-- A frame is due after these lines, the nearest first: the nearest that is not silent opens one.
abbrev pub FrameIsDue : List (List ℕ) → Type 0
FrameIsDue [] = ⊥
FrameIsDue (line ∷ before) = OpensFrame line ⊎ (IsSilent line × FrameIsDue before)

-- `auto` ends a line that starts by `plan`, in place of the budget
abbrev pub IsBudgetDue : List ℕ → Type 0
IsBudgetDue line =
    ((back : List ℕ) × (line ≡ codes "plan" ++ back)) × ((front : List ℕ) × (line ≡ front ++ codes " auto"))

-- `auto` stands in a line after these, the nearest first, where a frame or the budget is due
abbrev pub IsDueAfter : List (List ℕ) → List ℕ → Type 0
IsDueAfter before line = ((line ≡ codes "auto") × FrameIsDue before) ⊎ IsBudgetDue line

abbrev pub line_of : Part → List ℕ
line_of part = part.line.now

-- something is due in just those of these lines, the last first, where it is by the lines before
abbrev pub AreRead : List Part → Type 0
AreRead [] = Unit {0}
AreRead (part ∷ before) =
    (IsSome part.due ↔ IsDueAfter (map line_of before) (line_of part)) × IsUnended (line_of part) × AreRead before

-- a line with its line feed
abbrev pub own_line : Part → List ℕ
own_line part = part.line.now ++ codes "\n"

-- the text is these lines and a rest without a line feed
abbrev pub IsMadeOf : List ℕ → List Part → List ℕ → Type 0
IsMadeOf text parts rest =
    (text ≡ flat_map own_line parts ++ rest) × AreRead (reverse parts) × IsUnended rest

-- whether something is due in a line, if there is such a line
abbrev pub is_due : Option Part → Bool
is_due None = false
is_due (Some part) = is_some part.due

-- whether something is due in the line of this number, counted from 1
abbrev pub HasAutoAt : List ℕ → ℕ → Bool → Type 0
HasAutoAt text number answer =
    (parts : List Part) × (rest : List ℕ) × IsMadeOf text parts rest × (answer ≡ is_due (slice_get parts (number - 1)))

-- what stands in place of a line: the text that is given for it, where something is due; else the line
abbrev pub in_place : List ℕ → Option Due → Option (Option (String Global)) → List ℕ
in_place line (Some due) (Some (Some fill)) = string_bytes fill
in_place line due fill = line

-- what stands in place of lines, for which these are given in their order
abbrev pub in_places : List Part → List (Option (String Global)) → List ℕ
in_places [] fills = []
in_places (part ∷ parts) fills = in_place (own_line part) part.due (slice_get fills 0) ++ in_places parts (drop 1 fills)

-- what is made of a text: its lines, with these in their places, and its rest
abbrev pub IsFilledBy : List ℕ → List (Option (String Global)) → List ℕ → Type 0
IsFilledBy text fills made =
    (parts : List Part) × (rest : List ℕ) × IsMadeOf text parts rest × (made ≡ in_places parts fills ++ rest)
