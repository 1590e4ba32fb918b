-- Sets as they are listed are read back.
use Rattle.std.proofs.Common.{◌≡◌, ◌≢◌, ℕ, zero, suc, ◌+◌, ◌*◌, ◌/◌, ◌%◌, ◌^◌, ◌<◌, ◌≤◌, ◌==◌, List, [], ◌∷◌, ◌++◌, length, map, Bool, true, false, not, IsTrue, refl, sym, ap, subst, ◌∙◌, arith, lt-ltb, le-leb, eqb-true, eq-eqb, ◌&&◌, nat_le, nat_lt, codes, if◌then◌else◌}
use Rattle.std.specs.List.{list_all, join_with_byte}
use Rattle.std.specs.Str.{bytes_eq}
use Rattle.std.specs.Str.Parse.{starts_with_minus}
use Rattle.std.specs.Fmt.{decimal}
use Rattle.std.proofs.lemmas.Bool.{and_from}
use Rattle.burr_text.specs.Names.{is_digit}
use Rattle.burr_plantext.specs.Rules.Written.{pieces, is_number, natural_in, is_below, set_numbers, is_set, are_members, set_of, set_in}
use Rattle.burr_plantext.specs.Rules.Listing.{members, joined_numbers, set_word}
use Rattle.std.proofs.Math.Nat.{two-pow-succ, mul-add, add-mul, mul-zero}
use Rattle.std.proofs.lemmas.Fmt.{decimal_nonempty}
use Rattle.burr_plantext.proofs.Common.Numbers.{natural_back, decimal_no_minus, number_decimal}
use Rattle.burr_plantext.proofs.Common.Pieces.{AllLack, not_both, joined_pieces, decimal_lacks}

-- the pieces of a set, by the lowest bit
abbrev pub with_lowest : Bool → ℕ → List ℕ → List ℕ
with_lowest odd p rest = (if odd then p ∷ [] else []) ++ rest

-- all are small numbers
abbrev pub AreSmall : List ℕ → Type 0
AreSmall [] = Unit {0}
AreSmall (n ∷ ns) = (n < 2 ^ 64) × AreSmall ns

small_lowest : (odd : Bool) (p : ℕ) (rest : List ℕ) → p < 2 ^ 64 → AreSmall rest → AreSmall (with_lowest odd p rest)
small_lowest true p rest small all = (small, all)
small_lowest false p rest small all = all

pub members_small : (p n set : ℕ) → p + n < 2 ^ 64 → AreSmall (members p n set)
members_small p zero set few = tt
members_small p (suc n) set few = small_lowest (set % 2 == 1) p (members (suc p) n (set / 2)) (omega arith) (members_small (suc p) n (set / 2) (omega arith))

numbers_pass : (ns : List ℕ) → AreSmall ns → IsTrue (list_all is_number (map decimal ns))
numbers_pass [] h = refl
numbers_pass (n ∷ ns) h = and_from (is_number (decimal n)) (list_all is_number (map decimal ns)) (number_decimal n h.0) (numbers_pass ns h.1)

numbers_lack : (c : ℕ) (ns : List ℕ) → (is_digit c ≡ false) → AreSmall ns → AllLack c (map decimal ns)
numbers_lack c [] w h = tt
numbers_lack c (n ∷ ns) w h = (decimal_lacks c n w h.0, numbers_lack c ns w h.1)

-- digits are not a lone `-`
not_dash : (s : List ℕ) → starts_with_minus s ≡ false → bytes_eq s (codes "-") ≡ false
not_dash [] e = refl
not_dash (b ∷ s) e = ap (λ (t : Bool). t && bytes_eq s []) e

starts_joined : (w : List ℕ) (words : List (List ℕ)) → starts_with_minus w ≡ false → 0 < length w → starts_with_minus (join_with_byte 44 (w ∷ words)) ≡ false
starts_joined [] words e some = absurd (omega arith)
starts_joined (b ∷ w) [] e some = e
starts_joined (b ∷ w) (next ∷ words) e some = e

-- numbers that are joined are cut again
joined_back : (ns : List ℕ) → AreSmall ns → set_numbers (joined_numbers (map decimal ns)) ≡ map decimal ns
joined_back [] h = refl
joined_back (n ∷ ns) h =
    let all = map decimal (n ∷ ns) in
    let joined = join_with_byte 44 all in
    let e : bytes_eq joined (codes "-") ≡ false = not_dash joined (starts_joined (decimal n) (map decimal ns) (decimal_no_minus n h.0) (decimal_nonempty n h.0)) in
    ap (λ (t : Bool). if t then [] else pieces 44 joined) e ∙ joined_pieces 44 (decimal n) (map decimal ns) (numbers_lack 44 (n ∷ ns) refl h)

members_none : (p n : ℕ) → members p n 0 ≡ []
members_none p zero = refl
members_none p (suc n) = members_none (suc p) n

pub below_decimal : (bound p : ℕ) → p < bound → p < 2 ^ 64 → IsTrue (is_below bound (decimal p))
below_decimal bound p below small =
    and_from (not (starts_with_minus (decimal p))) (nat_lt (natural_in (decimal p)) bound) (ap not (decimal_no_minus p small))
    (subst (λ (n : ℕ). IsTrue (nat_lt n bound)) (sym (natural_back p small)) (lt-ltb p bound below))

-- the least of the pieces in front of higher ones
one_member : (least bound p : ℕ) (rest : List (List ℕ)) → least ≤ p → p < bound → p < 2 ^ 64 → IsTrue (are_members (suc p) bound rest) → IsTrue (are_members least bound (decimal p ∷ rest))
one_member least bound p rest low below small more =
    and_from (is_below bound (decimal p) && nat_le least (natural_in (decimal p))) (are_members (suc (natural_in (decimal p))) bound rest)
    (and_from (is_below bound (decimal p)) (nat_le least (natural_in (decimal p))) (below_decimal bound p below small)
    (subst (λ (n : ℕ). IsTrue (nat_le least n)) (sym (natural_back p small)) (le-leb least p low)))
    (subst (λ (n : ℕ). IsTrue (are_members (suc n) bound rest)) (sym (natural_back p small)) more)

halved : (set k : ℕ) → set < 2 ^ suc k → set / 2 < 2 ^ k
halved set k h = omega (arith, two-pow-succ k)

rise_step : (odd : Bool) (least bound p : ℕ) (rest : List ℕ) → least ≤ p → p < bound → p < 2 ^ 64
    → ((l : ℕ) → l ≤ suc p → IsTrue (are_members l bound (map decimal rest))) → IsTrue (are_members least bound (map decimal (with_lowest odd p rest)))
rise_step true least bound p rest low below small rise = one_member least bound p (map decimal rest) low below small (rise (suc p) (omega arith))
rise_step false least bound p rest low below small rise = rise least (omega arith)

members_rise : (n least bound p set k : ℕ) → least ≤ p → set < 2 ^ k → p + k ≤ bound → p + n < 2 ^ 64 → IsTrue (are_members least bound (map decimal (members p n set)))
members_rise zero least bound p set k low few fits small = refl
members_rise (suc n) least bound p set zero low few fits small =
    let none : set ≡ 0 = omega arith in
    let e : members p (suc n) set ≡ [] = ap (members p (suc n)) none ∙ members_none p (suc n) in
    subst (λ (ms : List ℕ). IsTrue (are_members least bound (map decimal ms))) (sym e) refl
members_rise (suc n) least bound p set (suc k) low few fits small =
    rise_step (set % 2 == 1) least bound p (members (suc p) n (set / 2)) low (omega arith) (omega arith)
    (λ l below. members_rise n l bound (suc p) (set / 2) k below (halved set k few) (omega arith) (omega arith))

doubled : (q half : ℕ) → (q + q) * half ≡ q * (half + half)
doubled q half = add-mul q q half ∙ sym (mul-add q half half)

mul-succ' : (q s : ℕ) → q * suc s ≡ q + q * s
mul-succ' q s = omega (arith, mul-add q 1 s)

higher_members : (p half : ℕ) (rest : List ℕ) → set_of (map decimal rest) ≡ 2 ^ suc p * half → set_of (map decimal rest) ≡ 2 ^ p * (half + half)
higher_members p half rest e = e ∙ ap (λ (x : ℕ). x * half) (two-pow-succ p) ∙ doubled (2 ^ p) half

set_step : (odd : Bool) (p set : ℕ) (rest : List ℕ) → (set % 2 == 1) ≡ odd → p < 2 ^ 64 → set_of (map decimal rest) ≡ 2 ^ p * (set / 2 + set / 2)
    → set_of (map decimal (with_lowest odd p rest)) ≡ 2 ^ p * set
set_step true p set rest e small higher =
    let r : set % 2 ≡ 1 = eqb-true (set % 2) 1 e in
    let whole : set ≡ suc (set / 2 + set / 2) = omega arith in
    let one : 2 ^ natural_in (decimal p) ≡ 2 ^ p = ap (λ (n : ℕ). 2 ^ n) (natural_back p small) in
    ap (λ (x : ℕ). x + set_of (map decimal rest)) one ∙ ap (λ (x : ℕ). 2 ^ p + x) higher ∙ sym (ap (λ (s : ℕ). 2 ^ p * s) whole ∙ mul-succ' (2 ^ p) (set / 2 + set / 2))
set_step false p set rest e small higher =
    let r : set % 2 ≢ 1 = λ one. not_both (set % 2 == 1) (eq-eqb (set % 2) 1 one) e in
    let whole : set ≡ set / 2 + set / 2 = omega arith in
    higher ∙ sym (ap (λ (s : ℕ). 2 ^ p * s) whole)

set_of_members : (n p set : ℕ) → set < 2 ^ n → p + n < 2 ^ 64 → set_of (map decimal (members p n set)) ≡ 2 ^ p * set
set_of_members zero p set few small = let none : set ≡ 0 = omega arith in sym (ap (λ (s : ℕ). 2 ^ p * s) none ∙ mul-zero (2 ^ p))
set_of_members (suc n) p set few small =
    set_step (set % 2 == 1) p set (members (suc p) n (set / 2)) refl (omega arith)
    (higher_members p (set / 2) (members (suc p) n (set / 2)) (set_of_members n (suc p) (set / 2) (halved set n few) (omega arith)))

-- Sets

pub numbers_of_set : (set : ℕ) → set_numbers (set_word set) ≡ map decimal (members 0 32 set)
numbers_of_set set = joined_back (members 0 32 set) (members_small 0 32 set (omega arith))

pub set_word_is : (set : ℕ) → IsTrue (is_set (set_word set))
set_word_is set = subst (λ (ws : List (List ℕ)). IsTrue (list_all is_number ws)) (sym (numbers_of_set set)) (numbers_pass (members 0 32 set) (members_small 0 32 set (omega arith)))

pub set_back : (set : ℕ) → set < 2 ^ 32 → set_in (set_word set) ≡ set
set_back set few = ap set_of (numbers_of_set set) ∙ set_of_members 32 0 set few (omega arith) ∙ omega arith

pub set_rises : (set bound : ℕ) → set < 2 ^ bound → IsTrue (are_members 0 bound (set_numbers (set_word set)))
set_rises set bound few = subst (λ (ws : List (List ℕ)). IsTrue (are_members 0 bound ws)) (sym (numbers_of_set set)) (members_rise 32 0 bound 0 set bound (omega arith) few (omega arith) (omega arith))
