-- Linear forms over symbols: this project's own.
use Rattle.std.specs.Prelude.{◌≤◌, ℕ, ◌-◌, ℤ, pos, neg_ℤ, ◌+ℤ◌, ◌*ℤ◌, ◌≤ℤ◌, List, [], ◌∷◌, ◌++◌, map, replicate, All}
use Rattle.std.specs.Int.RustNames.{unsigned_abs}
use Rattle.burr_forms.specs.declared.limits.TheConstants.{MOST_FORM_NUMBER, MOST_SYMBOL_VALUE}

-- a constant and a multiple of each symbol
pub record Form : Type 0 where
  pub constant : ℤ
  -- eight
  pub coefs : List ℤ

-- values of the symbols, in their order
abbrev pub Point : Type 0
Point = List ℤ

-- Values

-- the sum of each coefficient times its symbol's value; symbols without a value count nothing
abbrev pub dot : List ℤ → Point → ℤ
dot [] point = pos 0
dot (c ∷ coefs) [] = pos 0
dot (c ∷ coefs) (x ∷ point) = ((c *ℤ x) +ℤ dot coefs point)

-- the value of a form at a point
abbrev pub value : Point → Form → ℤ
value point f = (f.constant +ℤ dot f.coefs point)

abbrev pub values : Point → List Form → List ℤ
values point forms = map (value point) forms

-- Forms made of others

-- the form of a number
abbrev pub number : ℤ → Form
number n = record { constant = n; coefs = replicate 8 (pos 0) }

-- the symbol of this number
abbrev pub symbol : ℕ → Form
symbol n =
    record { constant = pos 0; coefs = replicate n (pos 0) ++ pos 1 ∷ replicate (7 - n) (pos 0) }

abbrev pub sum_of : List ℤ → List ℤ → List ℤ
sum_of [] ys = ys
sum_of (x ∷ xs) [] = x ∷ xs
sum_of (x ∷ xs) (y ∷ ys) = (x +ℤ y) ∷ sum_of xs ys

abbrev pub plus_form : Form → Form → Form
plus_form f g = record { constant = f.constant +ℤ g.constant; coefs = sum_of f.coefs g.coefs }

abbrev pub times : ℤ → Form → Form
times k f = record { constant = k *ℤ f.constant; coefs = map (λ c. k *ℤ c) f.coefs }

abbrev pub minus_form : Form → Form → Form
minus_form f g = plus_form f (times (neg_ℤ (pos 1)) g)

-- the form with another constant, so much higher
abbrev pub raised : ℤ → Form → Form
raised n f = record f { constant = f.constant +ℤ n }

-- the form one lower
abbrev pub one_less : Form → Form
one_less f = raised (neg_ℤ (pos 1)) f

-- the sum of each argument as often as its coefficient says
abbrev pub combined : List ℤ → List Form → Form
combined [] arguments = number (pos 0)
combined (c ∷ coefs) [] = number (pos 0)
combined (c ∷ coefs) (a ∷ arguments) = plus_form (times c a) (combined coefs arguments)

-- the form with arguments in place of its symbols
abbrev pub substituted : List Form → Form → Form
substituted arguments f = raised f.constant (combined f.coefs arguments)

-- Limits

-- a number that a form may have: at most 2^40, either way
abbrev pub IsSmall : ℤ → Type 0
IsSmall n = (neg_ℤ MOST_FORM_NUMBER ≤ℤ n) × (n ≤ℤ MOST_FORM_NUMBER)

abbrev pub AllSmall : List ℤ → Type 0
AllSmall numbers = All IsSmall numbers

-- all numbers of the form are small
abbrev pub IsSmallForm : Form → Type 0
IsSmallForm f = IsSmall f.constant × AllSmall f.coefs

abbrev pub AllSmallForms : List Form → Type 0
AllSmallForms forms = All IsSmallForm forms

-- the number is one of a code
abbrev pub IsNear : ℤ → Type 0
IsNear x = unsigned_abs x ≤ MOST_SYMBOL_VALUE

abbrev pub AllNear : Point → Type 0
AllNear point = All IsNear point
