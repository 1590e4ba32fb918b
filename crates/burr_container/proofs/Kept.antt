-- What is kept of each.
use Rattle.std.proofs.Common.{◌≡◌, ℕ, zero, suc, ◌-◌, ◌<◌, ◌≤◌, Option, Some, None, List, [], ◌∷◌, length, refl, sym, ap, ◌∙◌, subst, arith}
use Rattle.std.specs.Prelude.{slice_get, slice_index_or, take, drop, option_map, true}
use Rattle.std.proofs.lemmas.List.{length-map, take_rest}
use Rattle.std.proofs.lemmas.Option.{none-some, same_Some, slice_get-get_or, slice_get-map}
use Rattle.burr_container.specs.declared.fault.ContainerFault.{ContainerFault}
use Rattle.burr_container.specs.declared.reading.cursor.Cursor.{Cursor}
use Rattle.burr_container.specs.Rules.Plans.{Frame}
use Rattle.burr_container.specs.declared.fault.ContainerFault.TheVariants.{C5}
use Rattle.burr_container.specs.Rules.Faults.{number, label}
use Rattle.burr_container.specs.Views.Reading.{IsAt}
use Rattle.burr_container.specs.Views.InPlace.{AreFor, IsLabel}
use Rattle.burr_container.specs.Views.Readable.{AllReadable, starts_at}
use Rattle.burr_container.proofs.Common.Lawful.{OfPart}
use Rattle.burr_container.proofs.Common.Fields.{number_sound}
use Rattle.burr_container.proofs.Common.LabelLists.{of_label, label_at_sound}

abbrev value_or : {A : Type 0} → Option A → A → A
value_or None other = other
value_or (Some a) other = a

some_value : {A : Type 0} (a b : A) → Some a ≡ Some b → a ≡ b
some_value a b e = ap (λ (o : Option _). value_or o a) e

module _ {A B : Type 0} (Is : A → B → Type 0) where
  pub for_length : (xs : List A) (ys : List B) → AreFor Is xs ys → length xs ≡ length ys
  for_length [] [] are = refl
  for_length [] (y ∷ ys) are = absurd are
  for_length (x ∷ xs) [] are = absurd are
  for_length (x ∷ xs) (y ∷ ys) are = ap suc (for_length xs ys are.1)

  pub for_at : (xs : List A) (ys : List B) (i : ℕ) (y : B) (default : A) → AreFor Is xs ys
      → slice_get ys i ≡ Some y → Is (slice_index_or xs i default) y
  for_at [] [] i y default are e = absurd (cc)
  for_at [] (y' ∷ ys) i y default are e = absurd are
  for_at (x ∷ xs) [] i y default are e = absurd are
  for_at (x ∷ xs) (y' ∷ ys) zero y default are e =
      subst (λ (z : B). Is x z) (some_value y' y e) are.0
  for_at (x ∷ xs) (y' ∷ ys) (suc i) y default are e = for_at xs ys i y default are.1 e

  pub for_get : (xs : List A) (ys : List B) (i : ℕ) (x : A) (y : B) → AreFor Is xs ys
      → slice_get xs i ≡ Some x → slice_get ys i ≡ Some y → Is x y
  for_get [] ys i x y are e f = absurd (none-some _ e)
  for_get (x' ∷ xs) [] i x y are e f = absurd are
  for_get (x' ∷ xs) (y' ∷ ys) zero x y are e f =
      subst (λ (b : B). Is x b) (same_Some _ _ f)
      (subst (λ (a : A). Is a y') (same_Some _ _ e) are.0)
  for_get (x' ∷ xs) (y' ∷ ys) (suc i) x y are e f = for_get xs ys i x y are.1 e f

-- the label that stands at a cursor is the one that is kept
pub label_is : (pieces : ℕ) → pieces ≤ 32 → (cursor next : Cursor) (v l : ℕ × Frame)
    (start : List ℕ) → cursor.rest.now ≡ start
    → IsAt (label (λ position. true) pieces) cursor v next → IsLabel pieces start l → v ≡ l
label_is pieces few cursor next v l start e here kept =
    ((label_at_sound (λ position. true) pieces few).one v l cursor.rest.now next.rest.now kept.rest
    (here.fits, here.cut.parts) (kept.fits, e ∙ kept.parts)).0

-- a label begins with its position
label_begins : (pieces : ℕ) (l : ℕ × Frame) (bytes r : List ℕ)
    → OfPart (label (λ position. true) pieces) l bytes r
    → (rest : List ℕ) × OfPart (number 2 C5 (λ position. true)) l.0 bytes rest
label_begins pieces l bytes r here =
    let p = of_label (λ position. true) pieces l bytes r here in
    let at =
    subst (λ (v : ℕ × Frame). OfPart (number 2 C5 (λ position. true)) v.0 bytes p.2.0) p.1 p.2.1 in
    (p.2.0, at)

-- the position that stands at a cursor is that of the label that is kept
pub position_is : (pieces : ℕ) (cursor next : Cursor) (v : ℕ) (l : ℕ × Frame)
    (start : List ℕ) → cursor.rest.now ≡ start
    → IsAt (number 2 C5 (λ position. true)) cursor v next → IsLabel pieces start l → v ≡ l.0
position_is pieces cursor next v l start e here kept =
    let p = label_begins pieces l start kept.rest (kept.fits, kept.parts) in
    ((number_sound 2 C5 (λ position. true)).one v l.0 cursor.rest.now next.rest.now p.0
    (here.fits, here.cut.parts) (p.1.0, e ∙ p.1.1)).0

-- labels that are kept can be read again
readable_at : (pieces : ℕ) → pieces ≤ 32 → (starts : List (List ℕ)) (ls : List (ℕ × Frame))
    (n : ℕ) (start : List ℕ) (at : ℕ) (fault : ContainerFault)
    → AreFor (IsLabel pieces) starts ls → slice_get starts n ≡ Some start
    → ¬ (label (λ position. true) pieces).Fails at start fault
readable_at pieces few [] ls n start at fault are there = absurd (none-some _ there)
readable_at pieces few (s ∷ starts) [] n start at fault are there = absurd are
readable_at pieces few (s ∷ starts) (l ∷ ls) zero start at fault are there =
    subst (λ (b : List ℕ). ¬ (label (λ position. true) pieces).Fails at b fault)
    (same_Some _ _ there)
    ((label_at_sound (λ position. true) pieces few).never l s are.0.rest at fault
    (are.0.fits, are.0.parts))
readable_at pieces few (s ∷ starts) (l ∷ ls) (suc n) start at fault are there =
    readable_at pieces few starts ls n start at fault are.1 there

pub all_readable : (pieces : ℕ) → pieces ≤ 32 → (starts : List (List ℕ))
    (ls : List (ℕ × Frame)) → AreFor (IsLabel pieces) starts ls → AllReadable pieces starts
all_readable pieces few starts ls are =
    λ n start there at fault. readable_at pieces few starts ls n start at fault are there

-- the bytes from one of some places on
pub begins_there : (bytes begins kept rest : List ℕ) (n : ℕ) → n < length (starts_at bytes begins)
    → kept ≡ begins
    → rest ≡ take (length bytes - slice_index_or kept n 0) (drop (slice_index_or kept n 0) bytes)
    → slice_get (starts_at bytes begins) n ≡ Some rest
begins_there bytes begins kept rest n inside same e =
    let few = length-map begins (λ (begin : ℕ). drop begin bytes) in
    let there = slice_get-get_or begins n 0 (omega (arith, inside, few)) in
    let here = e ∙ take_rest bytes (slice_index_or kept n 0)
    ∙ ap (λ (xs : List ℕ). drop (slice_index_or xs n 0) bytes) same in
    slice_get-map (λ (begin : ℕ). drop begin bytes) begins n
    ∙ ap (λ (o : Option ℕ). option_map (λ (begin : ℕ). drop begin bytes) o) there ∙ ap Some (sym here)
