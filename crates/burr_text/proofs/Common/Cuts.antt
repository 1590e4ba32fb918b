-- For crates above: a list of bytes is cut at the first of one byte in one way.
use Rattle.std.proofs.Common.{◌≡◌, ◌≢◌, ℕ, suc, ◌≤◌, List, [], ◌∷◌, ◌++◌, length, get_or, drop, All, Contains, refl, sym, ap, arith}
use Rattle.std.proofs.lemmas.List.{get_or_at, length-append}

-- no byte of the list is this one
abbrev pub Lacks : ℕ → List ℕ → Type 0
Lacks c [] = Unit {0}
Lacks c (b ∷ bytes) = (b ≢ c) × Lacks c bytes

-- lists that are equal begin with one byte
pub same_head : (b c : ℕ) (r s : List ℕ) → b ∷ r ≡ c ∷ s → b ≡ c
same_head b c r s e = ap (λ bytes. get_or bytes 0 0) e

-- and go on alike
pub same_tail : (b c : ℕ) (r s : List ℕ) → b ∷ r ≡ c ∷ s → r ≡ s
same_tail b c r s e = ap (drop 1) e

-- what stands before the first of a byte, and what stands after it
pub cut : (c : ℕ) (a b r s : List ℕ) → Lacks c a → Lacks c b → a ++ c ∷ r ≡ b ++ c ∷ s → (a ≡ b) × (r ≡ s)
cut c [] [] r s p q e = (refl, same_tail c c r s e)
cut c [] (y ∷ b) r s p q e = absurd (q.0 (sym (same_head c y r (b ++ c ∷ s) e)))
cut c (x ∷ a) [] r s p q e = absurd (p.0 (same_head x c (a ++ c ∷ r) s e))
cut c (x ∷ a) (y ∷ b) r s p q e =
    let head = same_head x y (a ++ c ∷ r) (b ++ c ∷ s) e in
    let h = cut c a b r s p.1 q.1 (same_tail x y (a ++ c ∷ r) (b ++ c ∷ s) e) in
    (λ i. head i ∷ h.0 i, h.1)

-- a list that does not contain a byte lacks it
pub lacks : (c : ℕ) (bytes : List ℕ) → ¬ Contains bytes c → Lacks c bytes
lacks c [] h = tt
lacks c (b ∷ bytes) h = (λ e. h (0, omega arith, e), lacks c bytes (λ p. h (suc p.0, omega arith, p.2)))

-- a printable byte that is no blank is no blank
pub lacks_blank : (bytes : List ℕ) → All (λ b. (33 ≤ b) × (b ≤ 126)) bytes → Lacks 32 bytes
lacks_blank [] h = tt
lacks_blank (b ∷ bytes) h = (λ e. let low = h 0 0 (omega arith) in omega arith, lacks_blank bytes (λ k d inside. h (suc k) d (omega arith)))

-- a list with the byte in it contains it
pub contains_cut : (c : ℕ) (a r : List ℕ) → Contains (a ++ c ∷ r) c
contains_cut c a r = (length a, omega (arith, length-append a (c ∷ r)), get_or_at a c r c (length a) refl)
