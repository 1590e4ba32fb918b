-- How many parts the pieces are in.
use Rattle.std.specs.Prelude.{ℕ, ◌+◌, List, [], ◌∷◌, ◌==◌, if◌then◌else◌}
use Rattle.burr_code.specs.declared.placement.Placement.{Placement}
use Rattle.burr_code.specs.declared.placement.Placement.TheVariants.{Apart, On}
use Rattle.burr_code.specs.Places.{count_in}

-- a part is a piece that is apart, or all pieces of a tray: the last piece of each is counted
abbrev pub is_last : {Position : Type 0} → Placement Position → List (Placement Position) → ℕ
is_last Apart places = 1
is_last (On tray position) places = if count_in tray places == 0 then 1 else 0

abbrev pub parts : {Position : Type 0} → List (Placement Position) → ℕ
parts [] = 0
parts (place ∷ places) = is_last place places + parts places
