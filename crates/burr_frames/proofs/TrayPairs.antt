-- The pieces of a tray can be asked about, and are not too many.
use Rattle.std.proofs.Common.{◌≡◌, ◌≢◌, ◌∙◌, ℕ, ◌+◌, ◌<◌, ◌≤◌, List, [], Bool, true, length, take, ap, subst, arith}
use Rattle.std.specs.Prelude.{All, map, filter, min, not}
use Rattle.std.proofs.lemmas.List.{take_min, length-take, length-map}
use Rattle.burr_code.specs.PieceSets.{IsInSet, is_left_out}
use Rattle.burr_code.specs.Places.{LiesAt}
use Rattle.burr_code.specs.declared.placement.Placement.{Placement}
use Rattle.burr_assembly.specs.Rules.Text.{Assembly}
use Rattle.burr_assembly.specs.Rules.Homes.{homes_of, home_of}
use Rattle.burr_container.specs.Rules.Plans.{FormCell}
use Rattle.burr_frames.specs.Rules.Looks.{pieces_in, gripped_in, left_in}
use Rattle.burr_frames.specs.declared.clearing.TrayPiece.{TrayPiece}
use Rattle.burr_frames.specs.Views.Clearing.{TrayPair, offsets_in, piece_in, gripped_pieces, left_pieces, HasOffset, IsNoneOf}
use Rattle.burr_frames.proofs.BenchOffsets.{stands_at}
use Rattle.burr_frames.proofs.Common.Sizes.{parts-le}
use Rattle.burr_frames.proofs.Common.Until.{EachIs}
use Rattle.burr_frames.proofs.Each.{all_of_each, each_map, each_filter, each_weaker}
use Rattle.burr_frames.proofs.GripPairs.{each_piece, each_row, tray_pairs}

-- the pairs of the places of the pieces that have a home
abbrev pub homed_pairs : Assembly → ℕ → ℕ → List (Placement FormCell) → List TrayPair
homed_pairs assembly tray grip places = tray_pairs tray grip (take (length (homes_of assembly)) places)

-- the places of as many pieces as have one are these
pub homed_places : (assembly lent : Assembly) (places : List (Placement FormCell)) (many pieces : ℕ) → pieces ≡ length lent.pieces
    → lent ≡ assembly → many ≡ min (length places) pieces → take many places ≡ take (length (homes_of assembly)) places
homed_places assembly lent places many pieces count same e =
    ap (λ (n : ℕ). take n places) homes ∙ take_min (length (homes_of assembly)) places
  where
    counted : pieces ≡ length assembly.pieces
    counted = count ∙ ap (λ (a : Assembly). length a.pieces) same

    homes : many ≡ min (length (homes_of assembly)) (length places)
    homes = let are = length-map assembly.pieces (home_of assembly.shapes) in omega (arith, counted, e, are)

pub few_of_tray : (tray grip : ℕ) (places : List (Placement FormCell)) → length places ≤ 32
    → length (gripped_pieces tray grip places) + length (left_pieces tray grip places) ≤ 32
few_of_tray tray grip places few =
    let gripped = length-map (gripped_in grip (pieces_in tray 0 places)) (piece_in tray places) in
    let left = length-map (left_in grip (pieces_in tray 0 places)) (piece_in tray places) in
    let all = parts-le tray grip places in
    omega (arith, few, gripped, left, all)

module _ (assembly : Assembly) (tray grip : ℕ) (places : List (Placement FormCell)) where
  abbrev homed : List (Placement FormCell)
  homed = take (length (homes_of assembly)) places

  abbrev pieces : List ℕ
  pieces = pieces_in tray 0 homed

  abbrev IsKnown : TrayPiece → Type 0
  IsKnown piece = HasOffset assembly (length (offsets_in tray places)) piece

  known : (p : ℕ) (c : FormCell) → p < length (homes_of assembly) → LiesAt places p tray c → IsKnown (piece_in tray homed p)
  known p c below lies = record {
    known = let are = length-map assembly.pieces (home_of assembly.shapes) in omega (arith, below, are);
    inside = (stands_at (length (homes_of assembly)) places tray p c [] below lies).1;
  }

  some_known : (test : ℕ → Bool) → All IsKnown (map (piece_in tray homed) (filter test pieces))
  some_known test =
      all_of_each IsKnown (map (piece_in tray homed) (filter test pieces))
      (each_map (piece_in tray homed) IsKnown (filter test pieces)
      (each_filter test (λ p. IsKnown (piece_in tray homed p)) pieces
      (each_piece (λ p. test p ≡ true → IsKnown (piece_in tray homed p)) tray (length (homes_of assembly)) places
      (λ p c below lies passes. known p c below lies))))

  pub gripped_known : All IsKnown (gripped_pieces tray grip homed)
  gripped_known = some_known (λ p. not (is_left_out grip p))

  pub left_known : All IsKnown (left_pieces tray grip homed)
  left_known = some_known (is_left_out grip)

  pub none_of_left : All (IsNoneOf (left_pieces tray grip homed)) (gripped_pieces tray grip homed)
  none_of_left =
      all_of_each (IsNoneOf (left_pieces tray grip homed)) (gripped_pieces tray grip homed)
      (each_map (piece_in tray homed) (IsNoneOf (left_pieces tray grip homed)) (gripped_in grip pieces)
      (each_weaker (λ p. EachIs (λ q. p ≢ q) (left_in grip pieces))
      (λ p. IsNoneOf (left_pieces tray grip homed) (piece_in tray homed p)) (gripped_in grip pieces)
      (λ p row.
      all_of_each (λ (other : TrayPiece). p ≢ other.piece) (left_pieces tray grip homed)
      (each_map (piece_in tray homed) (λ (other : TrayPiece). p ≢ other.piece) (left_in grip pieces) row))
      (each_row (λ p q. p ≢ q) tray grip (length (homes_of assembly)) places
      (λ p q c d below below_q lies lies_q gripped out (e : p ≡ q). out (subst (IsInSet grip) e gripped)))))

  -- 32 places have at most 32 pieces
  pub few_pieces : length places ≤ 32 → length (gripped_pieces tray grip homed) + length (left_pieces tray grip homed) ≤ 32
  few_pieces few =
      let taken = length-take (length (homes_of assembly)) places in
      few_of_tray tray grip homed (omega (arith, few, taken))
