-- For crates above too: what is made of forms over the first symbols is over them.
use Rattle.std.proofs.Common.{◌≡◌, ℕ, zero, suc, ◌+◌, ◌-◌, ◌≤◌, List, [], ◌∷◌, ◌++◌, length, Option, Some, None, refl, subst, ap, ◌∙◌, arith}
use Rattle.std.specs.Prelude.{ℤ, pos, neg_ℤ, ◌+ℤ◌, ◌*ℤ◌, map, take, drop, reverse, replicate, set, get_or}
use Rattle.std.proofs.lemmas.Int.{ints}
use Rattle.std.proofs.lemmas.Option.{none-some, same_Some}
use Rattle.std.proofs.Math.IntN.{*ℤ-zero}
use mathlib.Core.List.{reverse_aux}
use Rattle.burr_voxels.specs.declared.direction.Direction.{Direction}
use Rattle.burr_code.specs.declared.placement.Placement.{Placement}
use Rattle.burr_code.specs.declared.placement.Placement.TheVariants.{Apart, On}
use Rattle.burr_code.specs.Places.{at_position, changed, to_tray, parted, parted_in, aside_places}
use Rattle.burr_code.specs.Stacks.{top, top_two, top_many}
use Rattle.burr_code.specs.Labels.{argument_slots}
use Rattle.burr_code.proofs.Common.Labels.{with_first_is}
use Rattle.burr_forms.specs.Rules.Forms.{Form, number, symbol, sum_of, plus_form, times, minus_form, combined, substituted}
use Rattle.burr_container.specs.Rules.Plans.{FormCell}
use Rattle.burr_frames.specs.Rules.Arrival.{live_forms}
use Rattle.burr_frames.specs.Rules.States.{live_ranges, numbered}
use Rattle.burr_frames.specs.Rules.SpaceRules.{moved_forms, moved}
use Rattle.burr_frames.specs.Rules.ControlRules.{substituted_places, symbols_from}
use Rattle.burr_frames.specs.Views.Over.{AllZero, ZeroFrom, IsWellScoped, AllOver, AllPlacesOver}

-- Coefficients

zeros_from : (n : ℕ) (coefs : List ℤ) → AllZero coefs → ZeroFrom n coefs
zeros_from zero coefs h = h
zeros_from (suc n) [] h = tt
zeros_from (suc n) (c ∷ coefs) h = zeros_from n coefs h.1

all_zero : (k : ℕ) → AllZero (replicate k (pos 0))
all_zero zero = tt
all_zero (suc k) = (refl, all_zero k)

from_more : (n m : ℕ) (coefs : List ℤ) → n ≤ m → ZeroFrom n coefs → ZeroFrom m coefs
from_more zero m coefs le h = zeros_from m coefs h
from_more (suc n) zero coefs le h = absurd (omega arith)
from_more (suc n) (suc m) [] le h = tt
from_more (suc n) (suc m) (c ∷ coefs) le h = from_more n m coefs (omega arith) h

zero_sum : (x y : ℤ) → x ≡ pos 0 → y ≡ pos 0 → (x +ℤ y) ≡ pos 0
zero_sum x y p q = omega (arith, ints)

from_sum : (n : ℕ) (xs ys : List ℤ) → ZeroFrom n xs → ZeroFrom n ys → ZeroFrom n (sum_of xs ys)
from_sum n [] ys h k = k
from_sum zero (x ∷ xs) [] h k = h
from_sum (suc n) (x ∷ xs) [] h k = h
from_sum zero (x ∷ xs) (y ∷ ys) h k = (zero_sum x y h.0 k.0, from_sum zero xs ys h.1 k.1)
from_sum (suc n) (x ∷ xs) (y ∷ ys) h k = from_sum n xs ys h k

from_times : (n : ℕ) (k : ℤ) (xs : List ℤ) → ZeroFrom n xs → ZeroFrom n (map (λ c. k *ℤ c) xs)
from_times zero k [] h = tt
from_times zero k (x ∷ xs) h = (ap (λ c. k *ℤ c) h.0 ∙ *ℤ-zero k, from_times zero k xs h.1)
from_times (suc n) k [] h = tt
from_times (suc n) k (x ∷ xs) h = from_times n k xs h

from_symbol : (n k : ℕ) → ZeroFrom (suc n) (replicate n (pos 0) ++ pos 1 ∷ replicate k (pos 0))
from_symbol zero k = all_zero k
from_symbol (suc n) k = from_symbol n k

-- Forms

pub over_more : (n m : ℕ) (f : Form) → n ≤ m → IsWellScoped n f → IsWellScoped m f
over_more n m f le h = from_more n m f.coefs le h

pub over_number : (n : ℕ) (x : ℤ) → IsWellScoped n (number x)
over_number n x = zeros_from n (replicate 8 (pos 0)) (all_zero 8)

pub over_symbol : (n : ℕ) → IsWellScoped (suc n) (symbol n)
over_symbol n = from_symbol n (7 - n)

pub over_plus : (n : ℕ) (f g : Form) → IsWellScoped n f → IsWellScoped n g → IsWellScoped n (plus_form f g)
over_plus n f g h k = from_sum n f.coefs g.coefs h k

pub over_times : (n : ℕ) (k : ℤ) (f : Form) → IsWellScoped n f → IsWellScoped n (times k f)
over_times n k f h = from_times n k f.coefs h

pub over_minus : (n : ℕ) (f g : Form) → IsWellScoped n f → IsWellScoped n g → IsWellScoped n (minus_form f g)
over_minus n f g h k = over_plus n f (times (neg_ℤ (pos 1)) g) h (over_times n (neg_ℤ (pos 1)) g k)

over_combined : (n : ℕ) (coefs : List ℤ) (arguments : List Form) → AllOver n arguments
    → IsWellScoped n (combined coefs arguments)
over_combined n [] arguments h = over_number n (pos 0)
over_combined n (c ∷ coefs) [] h = over_number n (pos 0)
over_combined n (c ∷ coefs) (a ∷ arguments) h =
    over_plus n (times c a) (combined coefs arguments) (over_times n c a h.0)
    (over_combined n coefs arguments h.1)

pub over_substituted : (n : ℕ) (arguments : List Form) (f : Form) → AllOver n arguments
    → IsWellScoped n (substituted arguments f)
over_substituted n arguments f h = over_combined n f.coefs arguments h

-- Lists of forms

pub all_more : (n m : ℕ) (forms : List Form) → n ≤ m → AllOver n forms → AllOver m forms
all_more n m [] le h = tt
all_more n m (f ∷ forms) le h = (over_more n m f le h.0, all_more n m forms le h.1)

pub all_appended : (n : ℕ) (forms more : List Form) → AllOver n forms → AllOver n more
    → AllOver n (forms ++ more)
all_appended n [] more h k = k
all_appended n (f ∷ forms) more h k = (h.0, all_appended n forms more h.1 k)

pub all_substituted : (n : ℕ) (arguments forms : List Form) → AllOver n arguments
    → AllOver n (map (substituted arguments) forms)
all_substituted n arguments [] h = tt
all_substituted n arguments (f ∷ forms) h =
    (over_substituted n arguments f h, all_substituted n arguments forms h)

pub all_symbols : (n r m : ℕ) → n + r ≤ m → AllOver m (symbols_from n r)
all_symbols n zero m le = tt
all_symbols n (suc r) m le = (
  over_more (suc n) m (symbol n) (omega arith) (over_symbol n),
  all_symbols (suc n) r m (omega arith),
)

over_take : (n k : ℕ) (fs : List Form) → AllOver n fs → AllOver n (take k fs)
over_take n zero fs h = tt
over_take n (suc k) [] h = tt
over_take n (suc k) (f ∷ fs) h = (h.0, over_take n k fs h.1)

over_drop : (n k : ℕ) (fs : List Form) → AllOver n fs → AllOver n (drop k fs)
over_drop n zero fs h = h
over_drop n (suc k) [] h = tt
over_drop n (suc k) (f ∷ fs) h = over_drop n k fs h.1

pub over_reverse : (n : ℕ) (fs onto : List Form) → AllOver n fs → AllOver n onto
    → AllOver n (reverse_aux fs onto)
over_reverse n [] onto h k = k
over_reverse n (f ∷ fs) onto h k = over_reverse n fs (f ∷ onto) h.1 (h.0, k)

split_over : (n k : ℕ) (fs : List Form) (x : List Form × List Form) → AllOver n fs
    → top_many k fs ≡ Some x → AllOver n x.0 × AllOver n x.1
split_over n k fs x h e = grind (arith, e, over_take n k fs h, over_drop n k fs h)

pub top_over : (n : ℕ) (forms : List Form) (x : Form × List Form) → top forms ≡ Some x → AllOver n forms
    → IsWellScoped n x.0 × AllOver n x.1
top_over n [] x e h = absurd (none-some _ e)
top_over n (f ∷ forms) x e h =
    subst (λ (y : Form × List Form). IsWellScoped n y.0 × AllOver n y.1) (same_Some _ _ e) h

-- what is made of the two topmost takes their place
pub top_two_over : (n : ℕ) (make : Form → Form → Form)
    → ((f g : Form) → IsWellScoped n f → IsWellScoped n g → IsWellScoped n (make f g))
    → (forms : List Form) (x : Form × Form × List Form) → top_two forms ≡ Some x → AllOver n forms
    → AllOver n (make x.1 x.0 ∷ x.2)
top_two_over n make over (f ∷ g ∷ forms) x e h =
    subst (λ (y : Form × Form × List Form). AllOver n (make y.1 y.0 ∷ y.2)) (same_Some _ _ e)
    (over g f h.1.0 h.0, h.1.1)
top_two_over n make over forms x e h = cc

-- Slots

over_slots : (n k : ℕ) (fs : List Form) → AllOver n fs → (v : ℕ) (f : Form)
    → get_or (map Some fs ++ replicate k None) v None ≡ Some f → IsWellScoped n f
over_slots n (suc k) [] h (suc v) f e = over_slots n k [] h v f e
over_slots n k (g ∷ fs) h zero f e = subst (λ (x : Form). IsWellScoped n x) (same_Some _ _ e) h.0
over_slots n k (g ∷ fs) h (suc v) f e = over_slots n k fs h.1 v f e
over_slots n k fs h v f e = cc

over_live : (n : ℕ) (ranges : List (Option (ℤ × ℤ))) (slots : List (Option Form))
    (forms : List Form) → live_forms ranges slots ≡ Some forms
    → ((v : ℕ) (f : Form) → get_or slots v None ≡ Some f → IsWellScoped n f) → AllOver n forms
over_live n [] slots forms e h = subst (λ (fs : List Form). AllOver n fs) (same_Some _ _ e) tt
over_live n (None ∷ ranges) [] forms e h = over_live n ranges [] forms e h
over_live n (None ∷ ranges) (slot ∷ slots) forms e h =
    over_live n ranges slots forms e (λ v f is. h (suc v) f is)
over_live n (Some range ∷ ranges) [] forms e h = absurd (none-some _ e)
over_live n (Some range ∷ ranges) (slot ∷ slots) forms e h =
    let f = with_first_is slot (live_forms ranges slots) forms e in
    subst (λ (fs : List Form). AllOver n fs) f.4 (
      h 0 f.0 f.2,
      over_live n ranges slots f.1 f.3 (λ v g is. h (suc v) g is),
    )

-- of a call, its arguments, what is below them, and the forms in the callee's live slots
pub arguments_over : (n k : ℕ) (operands : List Form) (found : List Form × List Form)
    (ranges : List (Option (ℤ × ℤ))) (forms : List Form) → AllOver n operands
    → top_many k operands ≡ Some found → live_forms ranges (argument_slots found.0) ≡ Some forms
    → AllOver n (reverse found.0) × AllOver n found.1 × AllOver n forms
arguments_over n k operands found ranges forms over taken known =
    let split = split_over n k operands found over taken in
    let turned : AllOver n (reverse found.0) = over_reverse n found.0 [] split.0 tt in
    let slots = over_slots n (8 - length found.0) (reverse found.0) turned in
    (turned, split.1, over_live n ranges (argument_slots found.0) forms known slots)

pub set_over : (n : ℕ) (slots : List (Option Form)) (v : ℕ) (f : Form) → IsWellScoped n f
    → ((k : ℕ) (g : Form) → get_or slots k None ≡ Some g → IsWellScoped n g) → (k : ℕ) (g : Form)
    → get_or (set slots v (Some f)) k None ≡ Some g → IsWellScoped n g
set_over n [] v f h all k g e = absurd (none-some _ e)
set_over n (slot ∷ slots) zero f h all zero g e =
    subst (λ (x : Form). IsWellScoped n x) (same_Some _ _ e) h
set_over n (slot ∷ slots) zero f h all (suc k) g e = all (suc k) g e
set_over n (slot ∷ slots) (suc v) f h all zero g e = all 0 g e
set_over n (slot ∷ slots) (suc v) f h all (suc k) g e =
    set_over n slots v f h (λ j x is. all (suc j) x is) k g e

pub numbered_over : (j m : ℕ) (slots : List (Option (ℤ × ℤ))) → j + length (live_ranges slots) ≤ m
    → (k : ℕ) (f : Form) → get_or (numbered j slots) k None ≡ Some f → IsWellScoped m f
numbered_over j m (None ∷ slots) le (suc k) f e = numbered_over j m slots le k f e
numbered_over j m (Some range ∷ slots) le zero f e =
    subst (λ (g : Form). IsWellScoped m g) (same_Some _ _ e) (over_more (suc j) m (symbol j) (omega arith)
    (over_symbol j))
numbered_over j m (Some range ∷ slots) le (suc k) f e =
    numbered_over (suc j) m slots (omega arith) k f e
numbered_over j m slots le k f e = cc

pub numbered_length : (j : ℕ) (slots : List (Option (ℤ × ℤ))) → length (numbered j slots)
    ≡ length slots
numbered_length j [] = refl
numbered_length j (None ∷ slots) = ap suc (numbered_length j slots)
numbered_length j (Some range ∷ slots) = ap suc (numbered_length (suc j) slots)

-- Places

moved_from : (n group p : ℕ) (direction : Direction) (places : List (Placement FormCell))
    → AllPlacesOver n places → AllPlacesOver n (changed (at_position (moved_forms direction)) group p places)
moved_from n group p direction [] h = tt
moved_from n group p direction (Apart ∷ places) h = grind (arith, moved_from n group (suc p) direction places h)
moved_from n group p direction (On t c ∷ places) h = grind (arith, moved_from n group (suc p) direction places h.3, h)

pub moved_over : (n group : ℕ) (direction : Direction) (places : List (Placement FormCell))
    → AllPlacesOver n places → AllPlacesOver n (moved group direction places)
moved_over n group direction places h = moved_from n group 0 direction places h

gone_over : (n there group p : ℕ) (places : List (Placement FormCell)) → AllPlacesOver n places
    → AllPlacesOver n (changed (to_tray there) group p places)
gone_over n there group p [] h = tt
gone_over n there group p (Apart ∷ places) h = grind (arith, gone_over n there group (suc p) places h)
gone_over n there group p (On t c ∷ places) h = grind (arith, gone_over n there group (suc p) places h.3, h)

parted_in_over : (n tray : ℕ) (places : List (Placement FormCell)) → AllPlacesOver n places
    → AllPlacesOver n (parted_in tray places)
parted_in_over n tray [] h = tt
parted_in_over n tray (Apart ∷ places) h = parted_in_over n tray places h
parted_in_over n tray (On t c ∷ places) h = grind (arith, parted_in_over n tray places h.3, h)

parted_over : (n tray : ℕ) (places : List (Placement FormCell)) → AllPlacesOver n places
    → AllPlacesOver n (parted tray places)
parted_over n tray places h = grind (arith, h, parted_in_over n tray places h)

pub aside_over : (n group here there : ℕ) (places : List (Placement FormCell))
    → AllPlacesOver n places → AllPlacesOver n (aside_places group here there places)
aside_over n group here there places h =
    let gone = changed (to_tray there) group 0 places in
    parted_over n there (parted here gone) (parted_over n here gone (gone_over n there group 0 places h))

pub places_over_more : (n m : ℕ) (places : List (Placement FormCell)) → n ≤ m
    → AllPlacesOver n places → AllPlacesOver m places
places_over_more n m [] le h = tt
places_over_more n m (Apart ∷ places) le h = places_over_more n m places le h
places_over_more n m (On tray c ∷ places) le h = (
  over_more n m c.x le h.0,
  over_more n m c.y le h.1,
  over_more n m c.z le h.2,
  places_over_more n m places le h.3,
)

pub substituted_over : (n : ℕ) (arguments : List Form) (places : List (Placement FormCell))
    → AllOver n arguments → AllPlacesOver n (substituted_places arguments places)
substituted_over n arguments [] h = tt
substituted_over n arguments (Apart ∷ places) h = substituted_over n arguments places h
substituted_over n arguments (On tray c ∷ places) h = (
  over_substituted n arguments c.x h,
  over_substituted n arguments c.y h,
  over_substituted n arguments c.z h,
  substituted_over n arguments places h,
)
