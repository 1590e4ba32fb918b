-- Loops that look at pairs one by one: what the pairs that are left come to, all of them come to.
use Rattle.std.proofs.Common.{◌≡◌, ◌^◌, ℕ, zero, suc, ◌+◌, ◌<◌, ◌≤◌, ℤ, List, [], ◌∷◌, ◌++◌, length, drop, get_or, Option, Some, None, refl, sym, ap, subst, arith, inl, inr}
use Rattle.std.specs.Prelude.{All}
use Rattle.std.proofs.lemmas.List.{drop_more, length-append, length-map}
use Rattle.std.proofs.lemmas.List.Elements.{All-get_or}
use Rattle.std.proofs.lemmas.Option.{none-some}
use Rattle.burr_voxels.specs.declared.cell.Cell.{Cell}
use Rattle.burr_assembly.specs.Rules.Text.{Assembly}
use Rattle.burr_assembly.specs.Rules.Homes.{homes_of, home_at}
use Rattle.burr_blocking.specs.declared.blocking.Query.{Query}
use Rattle.burr_blocking.specs.Rules.Counted.{Counted, with_more}
use Rattle.burr_blocking.specs.Rules.Pairs.{Clears}
use Rattle.burr_blocking.proofs.Common.Counts.{none_more, both_more}
use Rattle.burr_frames.specs.declared.clearing.TrayPiece.{TrayPiece}
use Rattle.burr_frames.specs.Rules.Looks.{until_one_fails, pairs_of}
use Rattle.burr_frames.specs.Views.Clearing.{TrayPair, row_of, displacement_in, HasOffset, IsPairClear, FirstPairOf}
use Rattle.burr_frames.proofs.Common.Sizes.{pairs-le}

-- the first pairs of all are clear, and each was looked at; others are left
pub record PairsLeft (assembly : Assembly) (query : Query) (numbers : List ℤ) (all left : List TrayPair) (old new : Counted) : Type 0 where
  pub asked : ℕ
  pub many : asked + length left ≡ length all
  pub found : (pieces : Option (ℕ × ℕ)) → FirstPairOf assembly query numbers left pieces → FirstPairOf assembly query numbers all pieces
  pub looks : (n : ℕ) → until_one_fails (IsPairClear assembly query numbers) left n
      → until_one_fails (IsPairClear assembly query numbers) all (asked + n)
  pub counted : new ≡ with_more asked old

-- what a search over all comes to
abbrev pub Searches : Assembly → Query → List ℤ → List TrayPair → Counted → Counted → Option (ℕ × ℕ) → Type 0
Searches assembly query numbers all old new pieces =
    FirstPairOf assembly query numbers all pieces × (n : ℕ) × (n ≤ length all)
    × until_one_fails (IsPairClear assembly query numbers) all n × (new ≡ with_more n old)

module _ (assembly : Assembly) (query : Query) (numbers : List ℤ) where
  abbrev Clear : TrayPair → Type 0
  Clear = IsPairClear assembly query numbers

  -- where each of a row is clear, what comes after it comes to is what all comes to
  after_row : (row left : List TrayPair) (n : ℕ) → FirstPairOf assembly query numbers row None → until_one_fails Clear row n
      → (n ≡ length row)
      × ((pieces : Option (ℕ × ℕ)) → FirstPairOf assembly query numbers left pieces → FirstPairOf assembly query numbers (row ++ left) pieces)
      × ((m : ℕ) → until_one_fails Clear left m → until_one_fails Clear (row ++ left) (n + m))
  after_row [] left zero first made = (refl, (λ pieces rest. rest), (λ m rest. grind (arith, rest)))
  after_row (pair ∷ row) left (suc n) first made = grind (arith, first, made, after_row row left n)
  after_row row left n first made = absurd made

  -- where one of a row is not, nothing after it counts
  in_row : (row left : List TrayPair) (n : ℕ) (pieces : ℕ × ℕ) → FirstPairOf assembly query numbers row (Some pieces)
      → until_one_fails Clear row n
      → FirstPairOf assembly query numbers (row ++ left) (Some pieces) × until_one_fails Clear (row ++ left) n
  in_row [] left n pieces first made = absurd (none-some pieces (sym first))
  in_row (pair ∷ row) left zero pieces first made = absurd made
  in_row (pair ∷ row) left (suc n) pieces first made = grind (arith, first, made, in_row row left n pieces)

module _ (assembly : Assembly) (query : Query) (numbers : List ℤ) (all : List TrayPair) where
  pub all_left : (looks : Counted) → PairsLeft assembly query numbers all all looks looks
  all_left looks = record {
    asked = 0;
    many = omega arith;
    found = λ pieces first. first;
    looks = λ n made. grind (arith, made);
    counted = none_more looks;
  }

  -- one more is clear
  pub one_clear : (pair : TrayPair) (left : List TrayPair) (old mid new : Counted)
      → PairsLeft assembly query numbers all (pair ∷ left) old mid → IsPairClear assembly query numbers pair → new ≡ with_more 1 mid
      → PairsLeft assembly query numbers all left old new
  one_clear pair left old mid new so_far clear more =
      let many = so_far.many in record {
        asked = so_far.asked + 1;
        many = omega (arith, many);
        found = λ pieces first. so_far.found pieces (inr (clear, first));
        looks = λ n made. grind (arith, so_far.looks (suc n) (inr (clear, made)));
        counted = both_more old mid new so_far.asked 1 so_far.counted more;
      }

  -- one is not
  pub one_not_clear : (pair : TrayPair) (left : List TrayPair) (old mid new : Counted)
      → PairsLeft assembly query numbers all (pair ∷ left) old mid → (¬ IsPairClear assembly query numbers pair) → new ≡ with_more 1 mid
      → Searches assembly query numbers all old new (Some (pair.0.piece, pair.1.piece))
  one_not_clear pair left old mid new so_far other more =
      let many = so_far.many in (
        so_far.found (Some (pair.0.piece, pair.1.piece)) (inl (other, refl)),
        so_far.asked + 1,
        omega (arith, many),
        so_far.looks 1 (inl (other, refl)),
        both_more old mid new so_far.asked 1 so_far.counted more,
      )

  -- none is left
  pub none_left : (old new : Counted) → PairsLeft assembly query numbers all [] old new → Searches assembly query numbers all old new None
  none_left old new so_far =
      let many = so_far.many in (
        so_far.found None refl,
        so_far.asked,
        omega (arith, many),
        grind (arith, so_far.looks 0 tt),
        so_far.counted,
      )

  -- a row of them is clear
  pub row_clear : (row left : List TrayPair) (old mid new : Counted) → PairsLeft assembly query numbers all (row ++ left) old mid
      → Searches assembly query numbers row mid new None → PairsLeft assembly query numbers all left old new
  row_clear row left old mid new so_far (first, n, within, made, more) =
      let many = so_far.many in
      let both = length-append row left in
      let after = after_row assembly query numbers row left n first made in
      let whole = after.0 in record {
        asked = so_far.asked + n;
        many = omega (arith, many, both, whole);
        found = λ pieces rest. so_far.found pieces (after.1 pieces rest);
        looks = λ m rest. grind (arith, so_far.looks (n + m) (after.2 m rest));
        counted = both_more old mid new so_far.asked n so_far.counted more;
      }

  -- one of a row is not
  pub row_not_clear : (row left : List TrayPair) (old mid new : Counted) (pieces : ℕ × ℕ)
      → PairsLeft assembly query numbers all (row ++ left) old mid → Searches assembly query numbers row mid new (Some pieces)
      → Searches assembly query numbers all old new (Some pieces)
  row_not_clear row left old mid new pieces so_far (first, n, within, made, more) =
      let many = so_far.many in
      let both = length-append row left in
      let inside = in_row assembly query numbers row left n pieces first made in (
        so_far.found (Some pieces) inside.0,
        so_far.asked + n,
        omega (arith, many, both, within),
        so_far.looks n inside.1,
        both_more old mid new so_far.asked n so_far.counted more,
      )

-- Of a search that goes on, the looks are of the assembly of the first
of_first : (assembly : Assembly) (query : Query) (numbers : List ℤ) (all left : List TrayPair) (old mid : Counted)
    → PairsLeft assembly query numbers all left old mid → mid.assembly ≡ old.assembly
of_first assembly query numbers all left old mid so_far = ap (λ (looks : Counted). looks.assembly) so_far.counted

-- The other piece at a place, where a piece was looked at with those before it

module _ (query : Query) (numbers : List ℤ) (piece : TrayPiece) (others : List TrayPiece) (i : ℕ) (d : TrayPiece) (l : i < length others)
    (old mid : Counted) (so_far : PairsLeft old.assembly query numbers (row_of piece others) (row_of piece (drop i others)) old mid) where
  abbrev here : TrayPair
  here = (piece, get_or others i d)

  same : mid.assembly ≡ old.assembly
  same = of_first old.assembly query numbers (row_of piece others) (row_of piece (drop i others)) old mid so_far

  of_old : (P : Assembly → Type 0) → P mid.assembly → P old.assembly
  of_old P = subst P same

  here_first : PairsLeft old.assembly query numbers (row_of piece others) (here ∷ row_of piece (drop (i + 1) others)) old mid
  here_first =
      subst (λ (rest : List TrayPiece). PairsLeft old.assembly query numbers (row_of piece others) (row_of piece rest) old mid)
      (drop_more others i d l) so_far

  -- what a look says of the other piece, where the first is displaced so
  abbrev IsClearAt : Cell → Type 0
  IsClearAt = Clears query (home_at (homes_of mid.assembly) piece.piece) (home_at (homes_of mid.assembly) (get_or others i d).piece)

  pub clear_here : (new : Counted) (there : Cell) → there ≡ displacement_in numbers here → IsClearAt there → new ≡ with_more 1 mid
      → PairsLeft old.assembly query numbers (row_of piece others) (row_of piece (drop (i + 1) others)) old new
  clear_here new there is clear =
      one_clear old.assembly query numbers (row_of piece others) here (row_of piece (drop (i + 1) others)) old mid new here_first
      (of_old (λ (a : Assembly). IsPairClear a query numbers here) (subst IsClearAt is clear))

  pub not_clear_here : (new : Counted) (there : Cell) → there ≡ displacement_in numbers here → (¬ IsClearAt there)
      → new ≡ with_more 1 mid
      → Searches old.assembly query numbers (row_of piece others) old new (Some (piece.piece, (get_or others i d).piece))
  not_clear_here new there is other =
      one_not_clear old.assembly query numbers (row_of piece others) here (row_of piece (drop (i + 1) others)) old mid new here_first
      (of_old (λ (a : Assembly). ¬ IsPairClear a query numbers here) (λ clear. other (subst IsClearAt (sym is) clear)))

-- The gripped piece at a place, where those before it were looked at with all that are left

module _ (query : Query) (numbers : List ℤ) (gripped others : List TrayPiece) (i : ℕ) (d : TrayPiece) (l : i < length gripped)
    (old mid : Counted) (so_far : PairsLeft old.assembly query numbers (pairs_of gripped others) (pairs_of (drop i gripped) others) old mid) where
  abbrev row : List TrayPair
  row = row_of (get_or gripped i d) others

  row_first : PairsLeft old.assembly query numbers (pairs_of gripped others) (row ++ pairs_of (drop (i + 1) gripped) others) old mid
  row_first =
      subst (λ (rest : List TrayPiece). PairsLeft old.assembly query numbers (pairs_of gripped others) (pairs_of rest others) old mid)
      (drop_more gripped i d l) so_far

  same_assembly : mid.assembly ≡ old.assembly
  same_assembly = of_first old.assembly query numbers (pairs_of gripped others) (pairs_of (drop i gripped) others) old mid so_far

  pub piece_here : (P : Assembly → TrayPiece → Type 0) → All (P old.assembly) gripped → P mid.assembly (get_or gripped i d)
  piece_here P all =
      subst (λ (a : Assembly). P a (get_or gripped i d)) (sym same_assembly) (All-get_or (P old.assembly) gripped i d l all)

  pub others_here : (n : ℕ) → All (HasOffset old.assembly n) others → All (HasOffset mid.assembly n) others
  others_here n = subst (λ (a : Assembly). All (HasOffset a n) others) (sym same_assembly)

  pub pairs_room : length gripped + length others ≤ 32 → old.count ≤ 2 ^ 61 → mid.count ≤ 2 ^ 61 + 256
  pairs_room few room =
      let many = so_far.many in
      let pairs = pairs-le gripped others few in
      let counted : mid.count ≡ old.count + so_far.asked = ap (λ (looks : Counted). looks.count) so_far.counted in
      omega (arith, many, pairs, counted, room)

  -- what was looked at of the row, and what was found there
  abbrev Looked : Counted → Option (ℕ × ℕ) → Type 0
  Looked new pieces =
      FirstPairOf mid.assembly query numbers row pieces × (n : ℕ) × (n ≤ length others)
      × until_one_fails (IsPairClear mid.assembly query numbers) row n × (new ≡ with_more n mid)

  searched : (new : Counted) (pieces : Option (ℕ × ℕ)) → Looked new pieces
      → Searches old.assembly query numbers row mid new pieces
  searched new pieces (first, n, within, made, more) =
      let many = length-map {B = TrayPair} others (λ (other : TrayPiece). (get_or gripped i d, other)) in
      subst (λ (a : Assembly). Searches a query numbers row mid new pieces) same_assembly
      (first, n, omega (arith, many, within), made, more)

  pub row_clear_here : (new : Counted) → Looked new None
      → PairsLeft old.assembly query numbers (pairs_of gripped others) (pairs_of (drop (i + 1) gripped) others) old new
  row_clear_here new looked =
      row_clear old.assembly query numbers (pairs_of gripped others) row (pairs_of (drop (i + 1) gripped) others) old mid new row_first
      (searched new None looked)

  pub row_not_clear_here : (new : Counted) (pieces : ℕ × ℕ) → Looked new (Some pieces)
      → Searches old.assembly query numbers (pairs_of gripped others) old new (Some pieces)
  row_not_clear_here new pieces looked =
      row_not_clear old.assembly query numbers (pairs_of gripped others) row (pairs_of (drop (i + 1) gripped) others) old mid new pieces
      row_first (searched new (Some pieces) looked)
