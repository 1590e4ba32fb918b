-- The parts that the pieces are in: the trays that hold a piece, and the pieces that are apart.
use Rattle.std.specs.Prelude.{◌≡◌, ◌<◌, ℕ, zero, suc, ◌+◌, List, [], ◌∷◌, ◌==◌, if◌then◌else◌}
use Rattle.burr_code.specs.declared.placement.Placement.{Placement}
use Rattle.burr_code.specs.declared.placement.Placement.TheVariants.{Apart, On}
use Rattle.burr_code.specs.Places.{LiesIn, count_in}
use Rattle.burr_state.specs.Views.Parts.{parts}

-- how many of the trays below n are in play: they hold a piece
abbrev pub trays_in_play : {Position : Type 0} → ℕ → List (Placement Position) → ℕ
trays_in_play zero places = 0
trays_in_play (suc n) places = (if count_in n places == 0 then 0 else 1) + trays_in_play n places

-- how many pieces are apart
abbrev pub count_apart : {Position : Type 0} → List (Placement Position) → ℕ
count_apart [] = 0
count_apart (Apart ∷ places) = 1 + count_apart places
count_apart (On tray position ∷ places) = count_apart places

-- pieces that lie in trays below n are in as many parts as of these trays are in play, and pieces
-- are apart
abbrev pub PartsAreCounted : Type 0 → Type 0
PartsAreCounted Position =
    (n : ℕ) (places : List (Placement Position))
    → ((p tray : ℕ) → LiesIn places p tray → tray < n)
    → parts places ≡ trays_in_play n places + count_apart places
