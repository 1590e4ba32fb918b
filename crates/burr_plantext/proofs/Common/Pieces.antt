-- What is joined by separators is cut at them again.
use Rattle.std.proofs.Common.{◌≡◌, ◌≢◌, ℕ, ◌<◌, ◌^◌, List, [], ◌∷◌, ◌++◌, Bool, true, false, IsTrue, refl, ap, ◌∙◌, eq-eqb}
use Rattle.std.specs.List.{list_all, join_with_byte}
use Rattle.std.specs.Fmt.{decimal}
use Rattle.std.proofs.lemmas.Bool.{and_parts}
use borrow.Author.Tests.{ne_eqb}
use Rattle.burr_text.specs.Names.{is_digit}
use Rattle.burr_text.proofs.Common.Cuts.{Lacks}
use Rattle.burr_plantext.specs.Rules.Written.{pieces, parted, in_first}
use Rattle.burr_plantext.proofs.Common.Numbers.{decimal_digits}

-- a list without separators is one piece
pub one_piece : (c : ℕ) (a : List ℕ) → Lacks c a → pieces c a ≡ a ∷ []
one_piece c [] h = refl
one_piece c (b ∷ a) h = ap (λ (t : Bool). parted t b (pieces c a)) (ne_eqb b c h.0) ∙ ap (λ (s : List (List ℕ)). in_first b s) (one_piece c a h.1)

-- the first piece ends at the first separator
pub first_piece : (c : ℕ) (a rest : List ℕ) → Lacks c a → pieces c (a ++ (c ∷ rest)) ≡ a ∷ pieces c rest
first_piece c [] rest h = ap (λ (t : Bool). parted t c (pieces c rest)) (eq-eqb c c refl)
first_piece c (b ∷ a) rest h = ap (λ (t : Bool). parted t b (pieces c (a ++ (c ∷ rest)))) (ne_eqb b c h.0) ∙ ap (λ (s : List (List ℕ)). in_first b s) (first_piece c a rest h.1)

-- none of the words has the byte
abbrev pub AllLack : ℕ → List (List ℕ) → Type 0
AllLack c [] = Unit {0}
AllLack c (word ∷ words) = Lacks c word × AllLack c words

pub joined_pieces : (c : ℕ) (word : List ℕ) (words : List (List ℕ)) → AllLack c (word ∷ words) → pieces c (join_with_byte c (word ∷ words)) ≡ word ∷ words
joined_pieces c word [] h = one_piece c word h.0
joined_pieces c word (next ∷ words) h =
    first_piece c word (join_with_byte c (next ∷ words)) h.0 ∙ ap (λ (s : List (List ℕ)). word ∷ s) (joined_pieces c next words h.1)

-- Bytes that are not among digits

abbrev pub IsNoDigit : ℕ → Type 0
IsNoDigit c = is_digit c ≡ false

pub not_both : (t : Bool) → t ≡ true → t ≡ false → ⊥
not_both true e f = cc
not_both false e f = cc

pub digits_lack : (c : ℕ) (w : List ℕ) → IsNoDigit c → IsTrue (list_all is_digit w) → Lacks c w
digits_lack c [] non all = tt
digits_lack c (b ∷ w) non all =
    let parts = and_parts (is_digit b) (list_all is_digit w) all in
    (λ e. not_both (is_digit b) parts.0 (ap is_digit e ∙ non), digits_lack c w non parts.1)

pub decimal_lacks : (c n : ℕ) → IsNoDigit c → n < 2 ^ 64 → Lacks c (decimal n)
decimal_lacks c n non small = digits_lack c (decimal n) non (decimal_digits n small)

pub lacks_both : (c : ℕ) (a b : List ℕ) → Lacks c a → Lacks c b → Lacks c (a ++ b)
lacks_both c [] b p q = q
lacks_both c (x ∷ a) b p q = (p.0, lacks_both c a b p.1 q)

pub lacks_joined : (c d : ℕ) (words : List (List ℕ)) → d ≢ c → AllLack c words → Lacks c (join_with_byte d words)
lacks_joined c d [] other h = tt
lacks_joined c d (word ∷ []) other h = h.0
lacks_joined c d (word ∷ next ∷ words) other h = lacks_both c word (d ∷ join_with_byte d (next ∷ words)) h.0 (other, lacks_joined c d (next ∷ words) other h.1)
