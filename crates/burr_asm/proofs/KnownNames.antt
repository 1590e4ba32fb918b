-- What one more name changes among names and their numbers.
use Rattle.std.proofs.Common.{◌≡◌, ℕ, suc, ◌<◌, List, [], ◌∷◌, ◌++◌, length, Bool, true, false, cond, refl, sym, ap, ◌∙◌, arith}
use Rattle.std.specs.Prelude.{Option, Some, None, ◌||◌, if◌then◌else◌}
use Rattle.std.specs.Borrow.{Bor}
use Rattle.std.specs.Str.{bytes_eq}
use Rattle.std.proofs.lemmas.Slice.Eq.{bytes_eq-Decides}
use Rattle.std.proofs.lemmas.Bool.{true≢false}
use Rattle.std.proofs.lemmas.List.{length-map, map-append}
use Rattle.burr_plantext.specs.Rules.Checks.{is_known}
use Rattle.burr_plantext.specs.Rules.Meaning.{number_of}
use Rattle.burr_asm.specs.Views.Names.{number_if_known, texts}

-- the number one further on, if there is one
abbrev raised : Option ℕ → Option ℕ
raised None = None
raised (Some n) = Some (suc n)

-- the number of a name, after a first one that is it or isn't
abbrev behind : Bool → Option ℕ → Option ℕ
behind true n = Some 0
behind false n = raised n

number_next : (names : List (List ℕ)) (first name : List ℕ) → number_if_known (first ∷ names) name ≡ behind (bytes_eq first name) (number_if_known names name)
number_next names first name = grind arith

-- two names that are both the one that is looked for are the same
same_name : (first new name : List ℕ) → bytes_eq first name ≡ true → bytes_eq new name ≡ true → bytes_eq first new ≡ true
same_name first new name e f = (bytes_eq-Decides first new).1 ((bytes_eq-Decides first name).0 e ∙ sym ((bytes_eq-Decides new name).0 f))

-- neither is true
not_either : (t s : Bool) → (t || s) ≡ false → (t ≡ false) × (s ≡ false)
not_either true s h = absurd (true≢false h)
not_either false s h = (refl, h)

-- a last name that is not among those before it has their count as its number
pub number_last : (names : List (List ℕ)) (new : List ℕ) → is_known names new ≡ false → (name : List ℕ) → number_if_known (names ++ new ∷ []) name ≡ cond (bytes_eq new name) (Some (length names)) (number_if_known names name)
number_last [] new unknown name = grind arith
number_last (first ∷ names) new unknown name =
    let more = not_either (bytes_eq first new) (is_known names new) unknown in
    number_next (names ++ new ∷ []) first name
    ∙ ap (λ (n : Option ℕ). behind (bytes_eq first name) n) (number_last names new more.1 name)
    ∙ by (bytes_eq first name) (bytes_eq new name) (number_if_known names name) (λ t u. differ more.0 (same_name first new name t u))
    ∙ ap (λ (n : Option ℕ). cond {A = Option ℕ} (bytes_eq new name) (Some (suc (length names))) n) (sym (number_next names first name))
  where
    differ : bytes_eq first new ≡ false → bytes_eq first new ≡ true → ⊥
    differ e f = absurd (true≢false (sym f ∙ e))

    by : (t u : Bool) (n : Option ℕ) → (t ≡ true → u ≡ true → ⊥) → behind t (cond u (Some (length names)) n) ≡ cond u (Some (suc (length names))) (behind t n)
    by true true n h = absurd (h refl refl)
    by true false n h = refl
    by false true n h = refl
    by false false n h = refl

-- as many texts as names
as_many : (names : List (Bor (List ℕ))) → length (texts names) ≡ length names
as_many names = length-map names (λ (k : Bor (List ℕ)). k.now)

pub room_left : (names : List (Bor (List ℕ))) → length (texts names) < 256 → length names < 256
room_left names h = rw (← as_many names) h

-- what the map then has of a name is its number among the names with one more
pub numbers_more : (old all : List (Bor (List ℕ))) (new : Bor (List ℕ)) (name : List ℕ) (n : ℕ) (before after : Option ℕ) → all ≡ old ++ new ∷ [] → is_known (texts old) new.now ≡ false → n ≡ length old
    → before ≡ number_if_known (texts old) name → after ≡ cond (bytes_eq new.now name) (Some n) before → after ≡ number_if_known (texts all) name
numbers_more old all new name n before after e unknown f g h =
    h ∙ ap (λ (m : ℕ). cond (bytes_eq new.now name) (Some m) before) (f ∙ sym (as_many old))
    ∙ ap (λ (m : Option ℕ). cond (bytes_eq new.now name) (Some (length (texts old))) m) g
    ∙ sym (number_last (texts old) new.now unknown name)
    ∙ ap (λ (names : List (List ℕ)). number_if_known names name) (sym (ap texts e ∙ map-append (λ (k : Bor (List ℕ)). k.now) old (new ∷ [])))
