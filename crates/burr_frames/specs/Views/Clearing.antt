-- Pairs of a gripped piece and a piece that is left in its tray, and whether they are clear where the
-- offsets of the tray's pieces have certain values.
use Rattle.std.specs.Prelude.{◌≡◌, ◌≢◌, ◌≤◌, ◌<◌, ℕ, ◌*◌, ◌+◌, ℤ, pos, List, [], ◌∷◌, length, map, filter, take, All, Option, Some, None, slice_index_or}
use Rattle.burr_text.specs.Checks.{needs}
use Rattle.burr_voxels.specs.declared.cell.Cell.{Cell}
use Rattle.burr_voxels.specs.Grid.{at, minus}
use Rattle.burr_code.specs.declared.placement.Placement.{Placement}
use Rattle.burr_code.specs.Places.{is_in, count_in}
use Rattle.burr_assembly.specs.Rules.Text.{Assembly}
use Rattle.burr_assembly.specs.Rules.Homes.{homes_of, home_at}
use Rattle.burr_blocking.specs.declared.blocking.Query.{Query}
use Rattle.burr_blocking.specs.Rules.Pairs.{Clears}
use Rattle.burr_forms.specs.Rules.Forms.{Form}
use Rattle.burr_container.specs.Rules.Plans.{FormCell}
use Rattle.burr_frames.specs.declared.clearing.TrayPiece.{TrayPiece}
use Rattle.burr_frames.specs.Rules.Looks.{pieces_in, gripped_in, left_in}
use Rattle.burr_frames.specs.Views.Comparing.{offset_forms}

-- the forms of the offsets of the tray's pieces, in order, three for each
abbrev pub offsets_in : ℕ → List (Placement FormCell) → List Form
offsets_in tray places = offset_forms (filter (is_in tray) places)

-- the number of piece p among the pieces of the tray: how many of them come before it
abbrev pub number_in : ℕ → List (Placement FormCell) → ℕ → ℕ
number_in tray places p = count_in tray (take p places)

-- piece p of the tray, with its number
abbrev pub piece_in : ℕ → List (Placement FormCell) → ℕ → TrayPiece
piece_in tray places p = record { piece = p; number = number_in tray places p }

-- the pieces of the tray that are gripped, and those that are not, in order
abbrev pub gripped_pieces : ℕ → ℕ → List (Placement FormCell) → List TrayPiece
gripped_pieces tray grip places =
    map (piece_in tray places) (gripped_in grip (pieces_in tray 0 places))

abbrev pub left_pieces : ℕ → ℕ → List (Placement FormCell) → List TrayPiece
left_pieces tray grip places = map (piece_in tray places) (left_in grip (pieces_in tray 0 places))

abbrev pub TrayPair : Type 0
TrayPair = TrayPiece × TrayPiece

-- a piece with each of others, in order
abbrev pub row_of : TrayPiece → List TrayPiece → List TrayPair
row_of piece others = map (λ other. (piece, other)) others

-- of values that stand three by three, those with this number
abbrev pub cell_of : List ℤ → ℕ → Cell
cell_of values n =
    at (slice_index_or values (3 * n) (pos 0)) (slice_index_or values (3 * n + 1) (pos 0))
    (slice_index_or values (3 * n + 2) (pos 0))

-- what the first piece is displaced by against the second where the offsets have these values
abbrev pub displacement_in : List ℤ → TrayPair → Cell
displacement_in values pair =
    minus (cell_of values pair.0.number) (cell_of values pair.1.number)

-- so displaced, the first piece keeps clear of the second
abbrev pub IsPairClear : Assembly → Query → List ℤ → TrayPair → Type 0
IsPairClear assembly query values pair =
    Clears query (home_at (homes_of assembly) pair.0.piece)
    (home_at (homes_of assembly) pair.1.piece) (displacement_in values pair)

-- the pieces of the first pair that is not clear; None where each is
abbrev pub FirstPairOf : Assembly → Query → List ℤ → List TrayPair → Option (ℕ × ℕ) → Type 0
FirstPairOf assembly query values [] found = found ≡ None
FirstPairOf assembly query values (pair ∷ pairs) found =
    needs (IsPairClear assembly query values pair) (Some (pair.0.piece, pair.1.piece))
    (FirstPairOf assembly query values pairs) found

-- it is a piece of this assembly, and its offset stands among a given number of values
pub record HasOffset (assembly : Assembly) (values : ℕ) (piece : TrayPiece) : Type 0 where
  pub known : piece.piece < length assembly.pieces
  pub inside : 3 * piece.number + 3 ≤ values

-- it is another piece than each of these
abbrev pub IsNoneOf : List TrayPiece → TrayPiece → Type 0
IsNoneOf others piece = All (λ other. piece.piece ≢ other.piece) others

-- what a search is about: the pairs, the forms of the offsets, and the query; and the reference
-- that counts, by its ghost name, with its assembly
pub record Asked : Type 0 where
  pub counter : ℕ
  pub assembly : Assembly
  pub forms : List Form
  pub pairs : List TrayPair
  pub query : Query

abbrev pub asked_of : ℕ → Assembly → List Form → List TrayPair → Query → Asked
asked_of counter assembly forms pairs query = record {
  counter = counter;
  assembly = assembly;
  forms = forms;
  pairs = pairs;
  query = query;
}
