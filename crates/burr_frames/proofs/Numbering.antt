-- Slots that get their symbols one by one.
use Rattle.std.proofs.Common.{◌≡◌, ℕ, suc, ◌+◌, ◌-◌, ◌<◌, List, [], ◌∷◌, ◌++◌, length, drop, set, Option, Some, None, refl, sym, ap, ◌∙◌, arith, append_assoc}
use Rattle.std.specs.Prelude.{replicate, slice_get, is_some, true, false}
use Rattle.std.proofs.lemmas.List.{drop_all, length_push, set-append_right}
use Rattle.burr_forms.specs.Rules.Forms.{Form, symbol}
use Rattle.burr_container.specs.Rules.Plans.{Range}
use Rattle.burr_frames.specs.Rules.States.{numbered}
use Rattle.burr_container.proofs.Common.ListsRead.{drop_here}

pub none_of : {A : Type 0} (o : Option A) → is_some o ≡ false → o ≡ None
none_of None e = refl
none_of (Some x) e = cc

pub some_of : {A : Type 0} (o : Option A) → is_some o ≡ true → (x : A) × (o ≡ Some x)
some_of None e = absurd (grind arith)
some_of (Some x) e = (x, refl)

-- of eight slots the first v have their symbols, and nothing is known of the others, whose symbols
-- are to be numbered from `count` on
pub record IsNumbered (whole : List (Option Range)) (v count : ℕ) (slots : List (Option Form)) : Type 0 where
  pub front : List (Option Form)
  pub many : length front ≡ v
  pub parts : slots ≡ front ++ replicate (8 - v) None
  pub is : front ++ numbered count (drop v whole) ≡ numbered 0 whole

pub none_numbered : (whole : List (Option Range)) → IsNumbered whole 0 0 (replicate 8 None)
none_numbered whole = record { front = []; many = refl; parts = refl; is = refl }

one_more : (v : ℕ) → v < 8 → 8 - v ≡ suc (8 - (v + 1))
one_more v l = omega (arith, l)

-- a slot that isn't live
pub passed : (whole : List (Option Range)) (v count : ℕ) (slots : List (Option Form)) → v < 8 → slice_get whole v ≡ Some None
    → IsNumbered whole v count slots → IsNumbered whole (v + 1) count slots
passed whole v count slots l e n = record {
  front = n.front ++ None ∷ [];
  many = length_push n.front None ∙ ap (λ k. k + 1) n.many;
  parts = n.parts ∙ ap (λ (k : ℕ). n.front ++ replicate k None) (one_more v l)
      ∙ sym (append_assoc n.front (None ∷ []) (replicate (8 - (v + 1)) None));
  is = append_assoc n.front (None ∷ []) (numbered count (drop (v + 1) whole))
      ∙ ap (λ (rest : List (Option Range)). n.front ++ numbered count rest) (sym (drop_here whole v None e)) ∙ n.is;
}

-- a live slot
pub given : (whole : List (Option Range)) (v count : ℕ) (slots : List (Option Form)) (range : Range) → v < 8
    → slice_get whole v ≡ Some (Some range) → IsNumbered whole v count slots
    → IsNumbered whole (v + 1) (count + 1) (set slots v (Some (symbol count)))
given whole v count slots range l e n =
    let form = Some (symbol count) in
    let after : List (Option Form) = replicate (8 - (v + 1)) None in
    let on : count + 1 ≡ suc count = omega arith in
    record {
      front = n.front ++ form ∷ [];
      many = length_push n.front form ∙ ap (λ k. k + 1) n.many;
      parts = ap (λ (s : List (Option Form)). set s v form) (n.parts ∙ ap (λ (k : ℕ). n.front ++ replicate k None) (one_more v l))
          ∙ set-append_right n.front (None ∷ after) v v form n.many (omega arith)
          ∙ ap (λ (k : ℕ). n.front ++ set (None ∷ after) k form) (same_less v)
          ∙ sym (append_assoc n.front (form ∷ []) after);
      is = append_assoc n.front (form ∷ []) (numbered (count + 1) (drop (v + 1) whole))
          ∙ ap (λ (k : ℕ). n.front ++ form ∷ numbered k (drop (v + 1) whole)) on
          ∙ ap (λ (rest : List (Option Range)). n.front ++ numbered count rest) (sym (drop_here whole v (Some range) e)) ∙ n.is;
    }
  where
    same_less : (k : ℕ) → k - k ≡ 0
    same_less k = omega arith

pub all_numbered : (whole : List (Option Range)) (v count : ℕ) (slots : List (Option Form)) → v ≡ 8 → length whole ≡ 8
    → IsNumbered whole v count slots → slots ≡ numbered 0 whole
all_numbered whole v count slots e l n =
    n.parts ∙ ap (λ (k : ℕ). n.front ++ replicate (8 - k) None) e
    ∙ ap (λ (rest : List (Option Range)). n.front ++ numbered count rest) (sym (drop_all v whole (omega (arith, e, l)))) ∙ n.is
