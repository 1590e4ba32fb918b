-- Arguments are put in place of symbols one after the other.
use Rattle.std.proofs.Common.{◌≡◌, ℕ, zero, suc, ◌+◌, ◌*◌, ◌≤◌, ◌<◌, List, [], ◌∷◌, length, drop, refl, ap, sym, ◌∙◌, arith, slice_index_or}
use Rattle.std.specs.Prelude.{ℤ, pos, ◌+ℤ◌}
use Rattle.std.proofs.lemmas.Int.{ints}
use Rattle.std.proofs.lemmas.List.{drop_all}
use Rattle.burr_forms.specs.Rules.Forms.{Form, plus_form, times, number, combined, substituted, IsSmallForm, AllSmallForms}
use Rattle.burr_forms.specs.Views.Wides.{IsFormWithin, IsWideForm}
use Rattle.burr_forms.proofs.Sums.{zeros_and, and_zeros, forms_regroup}
use Rattle.burr_forms.proofs.Widths.{length_sum, length_sum_after, sum_within, times_within, number_within, weaker}
use Rattle.burr_forms.proofs.Values.{small_at}

-- The arguments from this symbol on are still to be added, and what was added is not too large.
pub record IsUnderWay (i : ℕ) (sum f : Form) (arguments : List Form) : Type 0 where
  pub within : IsFormWithin ((i + 1) * 1208925819614629174706176) sum
  pub long : 8 ≤ length sum.coefs
  pub rest : plus_form sum (combined (drop i f.coefs) (drop i arguments)) ≡ substituted arguments f

combined_long : (cs : List ℤ) (forms : List Form) → 8 ≤ length (combined cs forms).coefs
combined_long [] forms = omega arith
combined_long (c ∷ cs) [] = omega arith
combined_long (c ∷ cs) (a ∷ forms) = length_sum_after 8 (times c a).coefs (combined cs forms).coefs (combined_long cs forms)

swapped : (x y : ℤ) → (x +ℤ y) ≡ (y +ℤ x)
swapped x y = omega (arith, ints)

-- nothing is added yet
pub begins : (f : Form) (arguments : List Form) → IsSmallForm f → IsUnderWay 0 (number f.constant) f arguments
begins f arguments s =
    let all : Form = combined f.coefs arguments in
    record {
      within = number_within f.constant s.0;
      long = omega arith;
      rest = λ i. record { constant = swapped f.constant all.constant i; coefs = zeros_and 8 all.coefs (combined_long f.coefs arguments) i };
    }

next_term : (i : ℕ) (cs : List ℤ) (forms : List Form) (d : ℤ) (d' : Form) → i < length cs → i < length forms
    → combined (drop i cs) (drop i forms) ≡ plus_form (times (slice_index_or cs i d) (slice_index_or forms i d')) (combined (drop (suc i) cs) (drop (suc i) forms))
next_term i [] forms d d' l k = absurd (omega arith)
next_term i (c ∷ cs) [] d d' l k = absurd (omega arith)
next_term zero (c ∷ cs) (a ∷ forms) d d' l k = refl
next_term (suc i) (c ∷ cs) (a ∷ forms) d d' l k = next_term i cs forms d d' (omega arith) (omega arith)

pub small_form_at : (i : ℕ) (forms : List Form) (d : Form) → AllSmallForms forms → i < length forms → IsSmallForm (slice_index_or forms i d)
small_form_at i forms d s h = s i d h

-- one argument more is added
pub goes_on : (i : ℕ) (sum f : Form) (arguments : List Form) (d : ℤ) (d' : Form) → IsUnderWay i sum f arguments → IsSmallForm f → AllSmallForms arguments → i < length f.coefs → i < length arguments
    → IsUnderWay (i + 1) (plus_form sum (times (slice_index_or f.coefs i d) (slice_index_or arguments i d'))) f arguments
goes_on i sum f arguments d d' u s t l k =
    let more : i + 1 ≡ suc i = omega arith in
    let c : ℤ = slice_index_or f.coefs i d in
    let a : Form = slice_index_or arguments i d' in
    let term = times_within c a (small_at i f.coefs d s.1 l) (small_form_at i arguments d' t k) in
    record {
      within = weaker ((i + 1) * 1208925819614629174706176 + 1208925819614629174706176) ((i + 1 + 1) * 1208925819614629174706176) (plus_form sum (times c a)) (omega arith) (sum_within ((i + 1) * 1208925819614629174706176) 1208925819614629174706176 sum (times c a) u.within term);
      long = length_sum 8 sum.coefs (times c a).coefs u.long;
      rest = rw more (forms_regroup sum (times c a) (combined (drop (suc i) f.coefs) (drop (suc i) arguments)) ∙ ap (plus_form sum) (sym (next_term i f.coefs arguments d d' l k)) ∙ u.rest);
    }

-- all are added
pub ends : (i : ℕ) (sum f : Form) (arguments : List Form) → IsUnderWay i sum f arguments → length f.coefs ≤ i → sum ≡ substituted arguments f
ends i sum f arguments u l =
    let none : drop i f.coefs ≡ [] = drop_all i f.coefs l in
    (λ j. record { constant = nothing_after sum.constant j; coefs = sym (and_zeros 8 sum.coefs u.long) j })
    ∙ ap (λ (cs : List ℤ). plus_form sum (combined cs (drop i arguments))) (sym none) ∙ u.rest
  where
    nothing_after : (x : ℤ) → x ≡ (x +ℤ pos 0)
    nothing_after x = omega (arith, ints)

-- there is room for one more
pub has_room : (i : ℕ) (sum f : Form) (arguments : List Form) → IsUnderWay i sum f arguments → i < 8 → IsWideForm sum
has_room i sum f arguments u l = weaker ((i + 1) * 1208925819614629174706176) 1267650600228229401496703205376 sum (omega arith) u.within
