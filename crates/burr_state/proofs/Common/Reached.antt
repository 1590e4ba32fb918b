-- For crates above: what holds of each state that a run from the start comes to.
use Rattle.std.proofs.Common.{◌≡◌, ◌≢◌, ℕ, zero, suc, ◌<◌, List, [], ◌∷◌, length, map, Some, Ok, refl, sym, subst, ap, ◌∙◌, inl, inr, arith, get_or}
use Rattle.std.specs.Prelude.{ℤ, slice_get}
use Rattle.std.proofs.lemmas.Bool.{cases_order}
use Rattle.std.proofs.lemmas.Int.{ints}
use Rattle.std.proofs.lemmas.List.{length-map}
use Rattle.std.proofs.lemmas.Option.{same_Some, none-some, slice_get_within, get_or_from_slice_get}
use Rattle.burr_voxels.specs.declared.cell.Cell.{Cell}
use Rattle.burr_voxels.specs.Grid.{plus, shifted, origin}
use Rattle.burr_voxels.specs.CellSets.{Overlap}
use Rattle.burr_voxels.proofs.Common.Ahead.{same_cell}
use Rattle.burr_code.specs.declared.placement.Placement.{Placement}
use Rattle.burr_code.specs.declared.placement.Placement.TheVariants.{On}
use Rattle.burr_code.specs.Places.{LiesAt, count_in}
use Rattle.burr_assembly.specs.Rules.Text.{Assembly, IsAssembly, Piece, IsPiece, HasCells, Shares}
use Rattle.burr_assembly.specs.Rules.Homes.{HasHome, home_of, homes_of}
use Rattle.burr_assembly.proofs.Common.HomeCells.{home_has}
use Rattle.burr_state.specs.declared.effect.Mode.{Mode}
use Rattle.burr_state.specs.declared.effect.Mode.TheVariants.{Running}
use Rattle.burr_state.specs.declared.effect.Motion.{Motion}
use Rattle.burr_state.specs.declared.effect.Progress.{Progress}
use Rattle.burr_state.specs.Rules.Bench.{BenchState, Setup, start}
use Rattle.burr_state.specs.Rules.Space.{NoOverlap}
use Rattle.burr_state.specs.Rules.Step.{CallIn}
use Rattle.burr_state.specs.Laws.AsideLaws.{NoneLone}
use Rattle.burr_state.specs.Rules.Calls.{answered, went, begun, Calls}
use Rattle.burr_state.specs.Laws.SpaceLaws.{IsGripHere, StepsTo, AreDisjoint, HomesAreDisjoint, GripIsHere, PiecesNeverOverlap, NoPieceIsLone}
use Rattle.burr_code.proofs.Common.Conditions.{same_tray, same_position}
use Rattle.burr_state.proofs.Common.Trays.Counts.{count_in-same, count_in-other}
use Rattle.burr_state.proofs.Common.Trays.Parts.{all_lie_in_nothing}
use Rattle.burr_state.proofs.Common.Calls.{tells}
use Rattle.burr_state.proofs.Common.Pieces.{grip_stays, no_overlap_stays, none_lone_stays}

-- What each step keeps

-- a fact that each step keeps
abbrev pub IsKept : Setup → (BenchState → Type 0) → Type 0
IsKept setup Fact = (s new : BenchState) → StepsTo setup s new → Fact s → Fact new

kept_by_answer : (setup : Setup) (Fact : BenchState → Type 0) (s new : BenchState) (answer : ℤ) (told : Progress)
    → IsKept setup Fact → Fact s → CallIn Running setup s (Some answer) (Ok told) new → Fact new
kept_by_answer setup Fact s new answer told keeps fact (inl taken) = keeps s new (inr (answer, taken.0)) fact
kept_by_answer setup Fact s new answer told keeps fact (inr unfit) = subst Fact (sym unfit.2) fact

-- holds wherever calls come to
pub kept_by_calls : (setup : Setup) (budget : ℕ) (Fact : BenchState → Type 0) (s last : BenchState) (answers left : List ℤ) (motions : List Motion)
    → IsKept setup Fact → Calls setup budget s answers motions last left → Fact s → Fact last
kept_by_calls setup budget Fact _ _ _ _ _ keeps (begun s answers) fact = fact
kept_by_calls setup budget Fact _ _ _ _ _ keeps (went s new last motion answers left motions going called calls) fact =
    kept_by_calls setup budget Fact new last answers left motions keeps calls (keeps s new (inl (motion, tells setup s new _ going.running called)) fact)
kept_by_calls setup budget Fact _ _ _ _ _ keeps (answered s new last low high answer told answers left motions going asks called calls) fact =
    kept_by_calls setup budget Fact new last answers left motions keeps calls
    (kept_by_answer setup Fact s new answer told keeps fact (subst (λ (m : Mode). CallIn m setup s (Some answer) (Ok told) new) going.running called))

-- The start

-- where the pieces lie at the start
abbrev pub home_places : List (List Cell) → List (Placement Cell)
home_places homes = map (λ _. On 0 origin) homes

-- a piece lies at home in tray 0 at the start
pub lies_at_start : (homes : List (List Cell)) (p tray : ℕ) (offset : Cell) → LiesAt (home_places homes) p tray offset → (0 ≡ tray) × (origin ≡ offset)
lies_at_start [] p tray offset lies = absurd (none-some _ lies)
lies_at_start (home ∷ homes) zero tray offset lies = let same = same_Some _ _ lies in (same_tray 0 tray origin offset same, same_position 0 tray origin offset same)
lies_at_start (home ∷ homes) (suc p) tray offset lies = lies_at_start homes p tray offset lies

unshifted : (cells : List Cell) → shifted origin cells ≡ cells
unshifted [] = refl
unshifted (c ∷ cells) =
    ap (λ (x : Cell). x ∷ shifted origin cells) (same_cell (plus c origin) c (omega (arith, ints)) (omega (arith, ints)) (omega (arith, ints))) ∙ ap (λ (xs : List Cell). c ∷ xs) (unshifted cells)

at_home : (home : List Cell) (offset : Cell) → origin ≡ offset → shifted offset home ≡ home
at_home home offset e = ap (λ (o : Cell). shifted o home) (sym e) ∙ unshifted home

-- no two pieces of a tray overlap at the start
pub disjoint_at_start : (homes : List (List Cell)) → AreDisjoint homes → NoOverlap homes (home_places homes)
disjoint_at_start homes apart tray p q p_home q_home p_offset q_offset other p_has q_has p_lies q_lies over =
    apart p q p_home q_home other p_has q_has
    (subst (λ (cells : List Cell). Overlap cells q_home) (at_home p_home p_offset (lies_at_start homes p tray p_offset p_lies).1)
    (subst (λ (cells : List Cell). Overlap (shifted p_offset p_home) cells) (at_home q_home q_offset (lies_at_start homes q tray q_offset q_lies).1) over))

count_here : (homes : List (List Cell)) → count_in 0 (home_places homes) ≡ length homes
count_here [] = refl
count_here (home ∷ homes) = count_in-same 0 origin (home_places homes) ∙ ap suc (count_here homes)

count_elsewhere : (tray : ℕ) (homes : List (List Cell)) → count_in (suc tray) (home_places homes) ≡ 0
count_elsewhere tray [] = refl
count_elsewhere tray (home ∷ homes) = count_in-other (suc tray) 0 origin (home_places homes) (λ e. omega (arith, e)) ∙ count_elsewhere tray homes

none_lone_at_start : (homes : List (List Cell)) → length homes ≢ 1 → NoneLone (home_places homes)
none_lone_at_start homes several zero one = several (sym (count_here homes) ∙ one)
none_lone_at_start homes several (suc tray) one = let none = count_elsewhere tray homes in omega arith

-- Along each run

pub grip_is_here : GripIsHere
grip_is_here setup s (budget, answers, left, motions, calls) =
    kept_by_calls setup budget IsGripHere (start setup) s answers left motions (grip_stays setup) calls (all_lie_in_nothing (home_places setup.homes) 0)

pub pieces_never_overlap : PiecesNeverOverlap
pieces_never_overlap setup s apart (budget, answers, left, motions, calls) =
    (kept_by_calls setup budget (λ (t : BenchState). IsGripHere t × NoOverlap setup.homes t.places) (start setup) s answers left motions
    (λ old new step both. (grip_stays setup old new step both.0, no_overlap_stays setup old new step both.0 both.1)) calls
    (all_lie_in_nothing (home_places setup.homes) 0, disjoint_at_start setup.homes apart)).1

pub no_piece_is_lone : NoPieceIsLone
no_piece_is_lone setup s several (budget, answers, left, motions, calls) =
    (kept_by_calls setup budget (λ (t : BenchState). IsGripHere t × NoneLone t.places) (start setup) s answers left motions
    (λ old new step both. (grip_stays setup old new step both.0, none_lone_stays setup old new step both.0 both.1)) calls
    (all_lie_in_nothing (home_places setup.homes) 0, none_lone_at_start setup.homes several)).1

-- The homes of an assembly

mapped_at : {A B : Type 0} (f : A → B) (xs : List A) (p : ℕ) (y : B) → slice_get (map f xs) p ≡ Some y → (x : A) × (slice_get xs p ≡ Some x) × (f x ≡ y)
mapped_at f [] p y found = absurd (none-some _ found)
mapped_at f (x ∷ xs) zero y found = (x, refl, same_Some _ _ found)
mapped_at f (x ∷ xs) (suc p) y found = mapped_at f xs p y found

-- what is at home at a place are the cells of the piece there
cells_at : (a : Assembly) (p : ℕ) (home : List Cell) → IsAssembly a → HasHome (homes_of a) p home → (piece : Piece) × (slice_get a.pieces p ≡ Some piece) × HasCells a.shapes piece home
cells_at a p home whole has =
    let at = mapped_at (home_of a.shapes) a.pieces p home has in
    let is = get_or_from_slice_get a.pieces p at.0 at.0 at.1 in
    let named = (subst (λ (piece : Piece). IsPiece a.shapes piece) is (whole.each_piece p at.0 (slice_get_within a.pieces p at.0 at.1))).shape in
    (at.0, at.1, subst (λ (cells : List Cell). HasCells a.shapes at.0 cells) at.2 (home_has a.shapes at.0 named.0 named.1 named.2 named.3 named.4))

-- of two pieces the later one does not overlap the earlier
apart_in_order : (a : Assembly) (p q : ℕ) (p_home q_home : List Cell) → IsAssembly a → p < q → HasHome (homes_of a) p p_home → HasHome (homes_of a) q q_home → ¬ Overlap p_home q_home
apart_in_order a p q p_home q_home whole before p_has q_has over =
    let first = cells_at a p p_home whole p_has in
    let second = cells_at a q q_home whole q_has in
    let p_is = get_or_from_slice_get a.pieces p first.0 first.0 first.1 in
    let q_is = get_or_from_slice_get a.pieces q second.0 first.0 second.1 in
    whole.disjoint p q first.0 before (slice_get_within a.pieces q second.0 second.1)
    (subst (λ (x : Piece). Shares a.shapes x (get_or a.pieces q first.0)) (sym p_is)
    (subst (λ (y : Piece). Shares a.shapes first.0 y) (sym q_is) (p_home, q_home, first.2, second.2, over)))

pub homes_are_disjoint : HomesAreDisjoint
homes_are_disjoint a whole = (by_order, λ one. let as_many = length-map a.pieces (home_of a.shapes) in let several = whole.pieces.0 in omega (arith, as_many, several, one))
  where
    by_order : AreDisjoint (homes_of a)
    by_order p q p_home q_home other p_has q_has over = elim (cases_order p q) [
      | inl same ↦ other same
      | inr order ↦ elim order [
        | inl before ↦ apart_in_order a p q p_home q_home whole before p_has q_has over
        | inr after ↦ apart_in_order a q p q_home p_home whole after q_has p_has (over.0, over.2, over.1)
      ]
    ]
