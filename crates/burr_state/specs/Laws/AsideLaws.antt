-- What becomes of each piece where a group goes aside.
use Rattle.std.specs.Prelude.{◌≡◌, ◌≢◌, ℕ, List, length}
use Rattle.burr_code.specs.PieceSets.{IsInSet}
use Rattle.burr_code.specs.declared.placement.Placement.{Placement}
use Rattle.burr_code.specs.Places.{LiesAt, LiesIn, AllLieIn, IsPartOfTray, IsEmptyTray, count_in, aside_places}
use Rattle.burr_state.specs.Rules.Space.{LiesApart}

-- this one is so, and no other
abbrev pub IsOnly : (ℕ → Type 0) → ℕ → Type 0
IsOnly IsSo p = IsSo p × ((q : ℕ) → IsSo q → q ≡ p)

-- the group is this piece alone
abbrev pub IsLoneGroup : ℕ → ℕ → Type 0
IsLoneGroup group p = IsOnly (λ q. IsInSet group q) p

-- the rest of the tray, without the group, is this piece alone
abbrev pub IsLoneRest : {Position : Type 0} → ℕ → List (Placement Position) → ℕ → ℕ → Type 0
IsLoneRest group places tray p = IsOnly (λ q. LiesIn places q tray × (¬ IsInSet group q)) p

-- no tray has exactly one piece: a tray in play keeps two
abbrev pub NoneLone : {Position : Type 0} → List (Placement Position) → Type 0
NoneLone places = (tray : ℕ) → count_in tray places ≢ 1

-- The group lies in the tray `here` and is not all of it, and no piece lies in the tray `there`.
pub record CanGoAside {Position : Type 0} (group here there : ℕ)
    (places : List (Placement Position)) : Type 0 where
  pub lies : AllLieIn places here group
  pub part : IsPartOfTray group places here
  pub empty : IsEmptyTray places there

-- The places after the group went from the tray `here` to the tray `there`.
pub record IsGoneAside {Position : Type 0} (group here there : ℕ)
    (old new : List (Placement Position)) : Type 0 where
  -- there are as many
  pub as_many : length new ≡ length old
  -- a piece of the group lies in the other tray, at its position
  pub goes : (p : ℕ) (position : Position) → IsInSet group p → (¬ IsLoneGroup group p)
      → LiesAt old p here position → LiesAt new p there position
  -- unless it is the only one
  pub goes_apart : (p : ℕ) → IsLoneGroup group p → LiesApart new p
  -- a piece of the rest of the tray lies where it lay
  pub stays : (p : ℕ) (position : Position) → (¬ IsInSet group p) → (¬ IsLoneRest group old here p)
      → LiesAt old p here position → LiesAt new p here position
  -- unless it is the only one
  pub left_apart : (p : ℕ) → IsLoneRest group old here p → LiesApart new p
  -- a piece of another tray lies where it lay
  pub elsewhere : (p tray : ℕ) (position : Position) → tray ≢ here
      → LiesAt old p tray position → LiesAt new p tray position
  -- a piece that was apart is so
  pub still_apart : (p : ℕ) → LiesApart old p → LiesApart new p
  -- if no tray had exactly one piece, none has
  pub none_lone : NoneLone old → NoneLone new

-- a group goes aside so
abbrev pub GroupGoesAside : Type 0 → Type 0
GroupGoesAside Position =
    (group here there : ℕ) (places : List (Placement Position)) → CanGoAside group here there places
    → IsGoneAside group here there places (aside_places group here there places)
