-- Tests of coefficients, one slot after the other.
use Rattle.std.proofs.Common.{◌≡◌, ℕ, suc, ◌<◌, List, [], ◌∷◌, refl, sym, ap, ◌∙◌}
use Rattle.std.specs.Prelude.{slice_index, nat_lt, Bool, true, false, ◌&&◌}
use Rattle.std.specs.List.{list_all}
use Rattle.burr_container.proofs.Written.{both_tests, below}

pub goes_on : (test rest left whole : Bool) → left ≡ whole → left ≡ (test && rest) → test ≡ true → rest ≡ whole
goes_on test rest left whole so next is = sym (next ∙ ap (λ (t : Bool). t && rest) is) ∙ so

pub breaks_off : (test rest left whole : Bool) → left ≡ whole → left ≡ (test && rest) → test ≡ false → false ≡ whole
breaks_off test rest left whole so next is = sym (next ∙ ap (λ (t : Bool). t && rest) is) ∙ so

-- bytes are below 256
pub all_bytes : (xs : List ℕ) → ((i : ℕ) → slice_index xs i < 256) → list_all (λ b. nat_lt b 256) xs ≡ true
all_bytes [] small = refl
all_bytes (x ∷ xs) small = both_tests _ _ (below x 256 (small 0)) (all_bytes xs (λ i. small (suc i)))

pub body_whole : (labels few bytes : Bool) → labels ≡ true → bytes ≡ true → few ≡ (labels && (few && bytes))
body_whole labels true bytes e f = rw (e, f) refl
body_whole labels false bytes e f = rw e refl
