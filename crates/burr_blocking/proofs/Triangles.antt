-- Pairs of pieces in a triangle, and what is read of them.
use Rattle.std.proofs.Common.{◌≡◌, ◌↔◌, ◌∙◌, ℕ, ◌<◌, Bool, List, [], ◌∷◌, ◌++◌, length, get_or, subst, sym, ap, arith, Option, unwrap_or}
use Rattle.std.specs.Prelude.{ℤ, pos, IsTrue}
use Rattle.std.proofs.lemmas.List.{get_or_append_left, length-append}
use Rattle.std.proofs.lemmas.Option.{unwrap_or-slice_get}
use Rattle.std.proofs.Math.Seq.{get_or-append_seam}
use native.Mathlib.Decide.{ℕ_discrete}
use Rattle.burr_voxels.specs.declared.cell.Cell.{Cell}
use Rattle.burr_voxels.specs.declared.direction.Direction.{Direction}
use Rattle.burr_voxels.specs.Grid.{plus, minus, along, origin}
use Rattle.burr_assembly.specs.Rules.Homes.{HasHome, home_at}
use Rattle.burr_blocking.specs.Rules.Pairs.{IsBlocked, IsFreeFrom}
use Rattle.burr_blocking.specs.Views.Overlaps.{AreOverlapsOf, HasNoneAhead}
use Rattle.burr_blocking.specs.Views.Translates.{IsTranslate, displacement_of, representative_at}
use Rattle.burr_blocking.proofs.Common.Reversed.{blocked_either, free_either}
use Rattle.burr_blocking.proofs.Translated.{blocked_translates, free_translates}

-- what holds of each of a list by its number, and of one more, holds of the list with it
pub one_pushed : {A : Type 0} (P : ℕ → A → Type 0) (xs : List A) (x : A) → ((k : ℕ) (d : A) → k < length xs → P k (get_or xs k d)) → P (length xs) x → (k : ℕ) (d : A) → k < length (xs ++ x ∷ []) → P k (get_or (xs ++ x ∷ []) k d)
one_pushed P xs x each last k d below = elim (ℕ_discrete k (length xs)) [
  | yes same ↦ rw (same, get_or-append_seam xs x [] d) last
  | no other ↦
      let lt : k < length xs = omega (arith, length-append xs (x ∷ [])) in
      rw (get_or_append_left xs (x ∷ []) d k lt) (each k d lt)
]

-- What is built

-- the cells of a piece at home
pub home_is : (homes : List (List Cell)) (p : ℕ) (cells : List Cell) → HasHome homes p cells → cells ≡ home_at homes p
home_is homes p cells has = sym (ap (λ (o : Option (List Cell)). unwrap_or o []) has) ∙ unwrap_or-slice_get homes p []

-- what is told of the cells of the representatives of two classes is told of the classes
pub pair_made : (homes : List (List Cell)) (rs : List ℕ) (a n b : ℕ) (R : List Cell → List Cell → Type 0) (ps qs : List Cell) → n ≡ a → ps ≡ representative_at homes rs a → qs ≡ representative_at homes rs b → R ps qs → R (representative_at homes rs n) (representative_at homes rs b)
pair_made homes rs a n b R ps qs same ps_are qs_are told =
    let first : R (representative_at homes rs a) qs = subst (λ (cs : List Cell). R cs qs) ps_are told in
    let both : R (representative_at homes rs a) (representative_at homes rs b) = subst (R (representative_at homes rs a)) qs_are first in
    subst (λ (k : ℕ). R (representative_at homes rs k) (representative_at homes rs b)) (sym same) both

-- What is read

-- what holds of each of a list by its number holds of the one that is read
pub one_read : {A : Type 0} (P : ℕ → A → Type 0) (xs : List A) (k n : ℕ) (x : A) → ((j : ℕ) (d : A) → j < length xs → P j (get_or xs j d)) → k < length xs → n ≡ k → x ≡ get_or xs n x → P k x
one_read {A = A} P xs k n x each lt same is =
    let at_k : x ≡ get_or xs k x = is ∙ ap (λ (j : ℕ). get_or xs j x) same in
    subst (P k) (sym at_k) (each k x lt)

-- What a pair answers, by the displacements at which it overlaps

pub tells_blocked : (ps qs : List Cell) (Overlaps : Cell → Type 0) (d : Cell) (r : Bool) → AreOverlapsOf Overlaps ps qs → IsTrue r ↔ Overlaps d → IsTrue r ↔ IsBlocked ps qs d
tells_blocked ps qs Overlaps d r pair test = (λ yes. (pair d).0 (test.0 yes), λ blocked. test.1 ((pair d).1 blocked))

pub tells_free : (ps qs : List Cell) (Overlaps : Cell → Type 0) (d : Cell) (direction : Direction) (r : Bool) → AreOverlapsOf Overlaps ps qs → IsTrue r ↔ HasNoneAhead Overlaps d direction → IsTrue r ↔ IsFreeFrom ps qs d direction
tells_free ps qs Overlaps d direction r pair test = (
  λ yes k least blocked. test.0 yes k least ((pair (plus d (along direction (pos k)))).1 blocked),
  λ free. test.1 (λ k least overlaps. free k least ((pair (plus d (along direction (pos k)))).0 overlaps)),
)

-- The other order of the two pieces

pub tells_blocked_back : (ps qs : List Cell) (Overlaps : Cell → Type 0) (d back : Cell) (r : Bool) → back ≡ minus origin d → AreOverlapsOf Overlaps qs ps → IsTrue r ↔ Overlaps back → IsTrue r ↔ IsBlocked ps qs d
tells_blocked_back ps qs Overlaps d back r is pair test =
    let told = tells_blocked qs ps Overlaps back r pair test in
    let either = blocked_either ps qs d in (
      λ yes. either.1 (subst (IsBlocked qs ps) is (told.0 yes)),
      λ blocked. told.1 (subst (IsBlocked qs ps) (sym is) (either.0 blocked)),
    )

pub tells_free_back : (ps qs : List Cell) (Overlaps : Cell → Type 0) (d back : Cell) (direction turned : Direction) (r : Bool) → back ≡ minus origin d → ((k : ℤ) → along turned k ≡ minus origin (along direction k)) → AreOverlapsOf Overlaps qs ps → IsTrue r ↔ HasNoneAhead Overlaps back turned → IsTrue r ↔ IsFreeFrom ps qs d direction
tells_free_back ps qs Overlaps d back direction turned r is other_way pair test =
    let told = tells_free qs ps Overlaps back turned r pair test in
    let either = free_either ps qs d direction turned other_way in (
      λ yes. either.1 (subst (λ (c : Cell). IsFreeFrom qs ps c turned) is (told.0 yes)),
      λ free. told.1 (subst (λ (c : Cell). IsFreeFrom qs ps c turned) (sym is) (either.0 free)),
    )

-- The representatives of two pieces and the pieces

pub tells_pieces_blocked : (ps qs ms ns : List Cell) (s t d way : Cell) (r : Bool) → IsTranslate ms s ps → IsTranslate ns t qs → way ≡ displacement_of s t d → IsTrue r ↔ IsBlocked ms ns way → IsTrue r ↔ IsBlocked ps qs d
tells_pieces_blocked ps qs ms ns s t d way r ps_are qs_are is told =
    let same = blocked_translates ms ns s t d in
    rw (ps_are, qs_are) (λ yes. same.1 (subst (IsBlocked ms ns) is (told.0 yes)), λ blocked. told.1 (subst (IsBlocked ms ns) (sym is) (same.0 blocked)))

pub tells_pieces_free : (ps qs ms ns : List Cell) (s t d way : Cell) (direction : Direction) (r : Bool) → IsTranslate ms s ps → IsTranslate ns t qs → way ≡ displacement_of s t d → IsTrue r ↔ IsFreeFrom ms ns way direction → IsTrue r ↔ IsFreeFrom ps qs d direction
tells_pieces_free ps qs ms ns s t d way direction r ps_are qs_are is told =
    let same = free_translates ms ns s t d direction in
    rw (ps_are, qs_are) (λ yes. same.1 (subst (λ (c : Cell). IsFreeFrom ms ns c direction) is (told.0 yes)), λ free. told.1 (subst (λ (c : Cell). IsFreeFrom ms ns c direction) (sym is) (same.0 free)))
