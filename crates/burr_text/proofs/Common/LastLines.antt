-- For crates above: lines and after them a line without its end make one list in one way.
use Rattle.std.proofs.Common.{◌≡◌, ℕ, ◌⊎◌, List, [], ◌∷◌, ◌++◌, refl, sym, ap, subst, ◌∙◌, inl, inr}
use Rattle.std.proofs.lemmas.List.{append-nil}
use Rattle.burr_text.proofs.Common.Cuts.{Lacks, same_head, same_tail}
use Rattle.burr_text.specs.Lines.{IsLines}

-- a front of a list that lacks a byte does
lacks_front : (c : ℕ) (a b : List ℕ) → Lacks c (a ++ b) → Lacks c a
lacks_front c [] b h = tt
lacks_front c (x ∷ a) b h = (h.0, lacks_front c a b h.1)

-- a list that ends with a byte does not lack it
ends_with : (c : ℕ) (f : List ℕ) → ¬ Lacks c (f ++ c ∷ [])
ends_with c [] h = h.0 refl
ends_with c (x ∷ f) h = ends_with c f h.1

-- after a front of an empty list nothing stands
pub empty_after : (a b : List ℕ) → [] ≡ a ++ b → b ≡ []
empty_after [] b e = sym e
empty_after (x ∷ a) b e = cc

-- the bytes after a front of an ended text are none, where no end of a line is among them
none_after : (f b m : List ℕ) → f ++ 10 ∷ [] ≡ b ++ m → Lacks 10 m → m ≡ []
none_after f [] m e h = absurd (ends_with 10 f (subst (Lacks 10) (sym e) h))
none_after [] (y ∷ b) m e h = empty_after b m (same_tail 10 y [] (b ++ m) e)
none_after (x ∷ f) (y ∷ b) m e h = none_after f b m (same_tail x y (f ++ 10 ∷ []) (b ++ m) e) h

-- and so are those after a front of lines
lines_alone : (text b m : List ℕ) → IsLines text → text ≡ b ++ m → Lacks 10 m → m ≡ []
lines_alone text b m (inl e) parts h = empty_after b m (sym e ∙ parts)
lines_alone text b m (inr f) parts h = none_after f.0 b m (sym f.1 ∙ parts) h

-- the first of two ways to cut a list is longer by these bytes
abbrev IsLonger : List ℕ → List ℕ → List ℕ → List ℕ → Type 0
IsLonger a x b y = (m : List ℕ) × (a ≡ b ++ m) × (y ≡ m ++ x)

one_longer : (a x b y : List ℕ) → a ++ x ≡ b ++ y → IsLonger a x b y ⊎ IsLonger b y a x
one_longer [] x b y e = inr (b, refl, e)
one_longer (p ∷ a) x [] y e = inl (p ∷ a, refl, sym e)
one_longer (p ∷ a) x (q ∷ b) y e = join (one_longer a x b y (same_tail p q (a ++ x) (b ++ y) e))
  where
    first : p ≡ q
    first = same_head p q (a ++ x) (b ++ y) e

    join : IsLonger a x b y ⊎ IsLonger b y a x → IsLonger (p ∷ a) x (q ∷ b) y ⊎ IsLonger (q ∷ b) y (p ∷ a) x
    join (inl h) = inl (h.0, λ i. first i ∷ h.1 i, h.2)
    join (inr h) = inr (h.0, λ i. sym first i ∷ h.1 i, h.2)

-- where the lines of one way are longer, they are so by nothing
not_longer : (text line other last : List ℕ) → IsLines text → Lacks 10 last → IsLonger text line other last → (text ≡ other) × (line ≡ last)
not_longer text line other last lines h longer =
    let none : longer.0 ≡ [] = lines_alone text other longer.0 lines longer.1 (lacks_front 10 longer.0 line (subst (Lacks 10) longer.2 h)) in
    (longer.1 ∙ ap (λ (m : List ℕ). other ++ m) none ∙ append-nil other, ap (λ (m : List ℕ). m ++ line) (sym none) ∙ sym longer.2)

pub one_last_line : (text line other last : List ℕ) → IsLines text → IsLines other → Lacks 10 line → Lacks 10 last → text ++ line ≡ other ++ last → (text ≡ other) × (line ≡ last)
one_last_line text line other last lines also_lines lacks also_lacks e = either (one_longer text line other last e)
  where
    either : IsLonger text line other last ⊎ IsLonger other last text line → (text ≡ other) × (line ≡ last)
    either (inl longer) = not_longer text line other last lines also_lacks longer
    either (inr longer) = let same = not_longer other last text line also_lines lacks longer in (sym same.0, sym same.1)
