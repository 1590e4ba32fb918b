-- Where pieces lie: apart, or in a tray at a position. Positions are offsets on the bench, and
-- triples of forms in the verifier.
use Rattle.std.specs.Prelude.{◌≡◌, ◌≢◌, ℕ, suc, ◌+◌, List, [], ◌∷◌, Option, Some, None, slice_get, if◌then◌else◌, ◌==◌, Bool, false}
use Rattle.burr_code.specs.PieceSets.{IsInSet, is_left_out}
use Rattle.burr_code.specs.declared.placement.Placement.{Placement}
use Rattle.burr_code.specs.declared.placement.Placement.TheVariants.{Apart, On}

-- piece p lies in this tray, at this position
abbrev pub LiesAt : {Position : Type 0} → List (Placement Position) → ℕ → ℕ → Position → Type 0
LiesAt places p tray position = slice_get places p ≡ Some (On tray position)

-- piece p lies in this tray, at some position
abbrev pub LiesIn : {Position : Type 0} → List (Placement Position) → ℕ → ℕ → Type 0
LiesIn {Position} places p tray = (position : Position) × LiesAt places p tray position

-- each piece of the set lies in the tray
abbrev pub AllLieIn : {Position : Type 0} → List (Placement Position) → ℕ → ℕ → Type 0
AllLieIn places tray set = (p : ℕ) → IsInSet set p → LiesIn places p tray

-- each piece is apart
abbrev pub AllApart : {Position : Type 0} → List (Placement Position) → Type 0
AllApart {Position} places =
    (p : ℕ) (place : Placement Position) → slice_get places p ≡ Some place → place ≡ Apart

-- the tray in which a piece lies
abbrev pub tray_of : {Position : Type 0} → Placement Position → Option ℕ
tray_of Apart = None
tray_of (On tray position) = Some tray

-- the same place, with another position
abbrev pub at_position : {A B : Type 0} → (A → B) → Placement A → Placement B
at_position f Apart = Apart
at_position f (On tray position) = On tray (f position)

-- the places of piece p and of the pieces after it, those of the set changed
abbrev pub changed : {Place : Type 0} → (Place → Place) → ℕ → ℕ → List Place → List Place
changed change set p [] = []
changed change set p (place ∷ places) =
    (if is_left_out set p then place else change place) ∷ changed change set (suc p) places

-- the same place, in another tray
abbrev pub to_tray : {Position : Type 0} → ℕ → Placement Position → Placement Position
to_tray tray Apart = Apart
to_tray tray (On t position) = On tray position

-- whether a place is in the tray
abbrev pub is_in : {Position : Type 0} → ℕ → Placement Position → Bool
is_in tray Apart = false
is_in tray (On t position) = t == tray

-- how many pieces are in the tray
abbrev pub count_in : {Position : Type 0} → ℕ → List (Placement Position) → ℕ
count_in tray [] = 0
count_in tray (place ∷ places) = (if is_in tray place then 1 else 0) + count_in tray places

-- the places, where each piece of the tray is now apart
abbrev pub parted_in : {Position : Type 0} → ℕ → List (Placement Position)
    → List (Placement Position)
parted_in tray [] = []
parted_in tray (place ∷ places) =
    (if is_in tray place then Apart else place) ∷ parted_in tray places

-- the places, where a piece that was alone in the tray is now apart
abbrev pub parted : {Position : Type 0} → ℕ → List (Placement Position) → List (Placement Position)
parted tray places = if count_in tray places == 1 then parted_in tray places else places

-- the places after the group went from one tray to another that was empty
abbrev pub aside_places : {Position : Type 0} → ℕ → ℕ → ℕ → List (Placement Position)
    → List (Placement Position)
aside_places group here there places =
    parted there (parted here (changed (to_tray there) group 0 places))

-- the group has a piece, and a piece of the tray is not in it
abbrev pub IsPartOfTray : {Position : Type 0} → ℕ → List (Placement Position) → ℕ → Type 0
IsPartOfTray group places tray = (group ≢ 0) × (p : ℕ) × LiesIn places p tray × (¬ IsInSet group p)

-- a piece of the tray is not in the group
abbrev pub HasRest : {Position : Type 0} → List (Placement Position) → ℕ → ℕ → Type 0
HasRest places tray group = (p : ℕ) × LiesIn places p tray × (¬ IsInSet group p)

-- no piece lies in the tray
abbrev pub IsEmptyTray : {Position : Type 0} → List (Placement Position) → ℕ → Type 0
IsEmptyTray places tray = (p : ℕ) → ¬ LiesIn places p tray

-- the position of a piece, if it is in this tray
abbrev pub position_in : {Position : Type 0} → ℕ → Placement Position → Option Position
position_in tray Apart = None
position_in tray (On t position) = if t == tray then Some position else None
