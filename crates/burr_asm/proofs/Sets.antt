-- The test of a set, number by number.
use Rattle.std.proofs.Common.{◌≡◌, ℕ, List, Bool, true, false, Contains, sym, ap, ◌∙◌}
use Rattle.std.specs.Prelude.{◌&&◌}
use Rattle.std.specs.List.{list_all}
use Rattle.burr_text.specs.Words.{IsCutAt}
use Rattle.burr_plantext.specs.Rules.Written.{is_number, pieces}
use Rattle.burr_plantext.proofs.Common.Cuts.{all_cut, all_uncut}

abbrev pub are_numbers : List ℕ → Bool
are_numbers bytes = list_all is_number (pieces 44 bytes)

pub number_next : (bytes front rest : List ℕ) (t : Bool) → IsCutAt 44 bytes front rest → t ≡ is_number front → t ≡ true → are_numbers bytes ≡ are_numbers rest
number_next bytes front rest t h e is = all_cut is_number 44 bytes front rest h ∙ ap (λ (s : Bool). s && are_numbers rest) (sym e ∙ is)

pub no_number_next : (bytes front rest : List ℕ) (t : Bool) → IsCutAt 44 bytes front rest → t ≡ is_number front → t ≡ false → are_numbers bytes ≡ false
no_number_next bytes front rest t h e is = all_cut is_number 44 bytes front rest h ∙ ap (λ (s : Bool). s && are_numbers rest) (sym e ∙ is)

pub number_last : (bytes : List ℕ) (t : Bool) → ¬ Contains bytes 44 → t ≡ is_number bytes → t ≡ are_numbers bytes
number_last bytes t h e = e ∙ sym (all_uncut is_number 44 bytes h)
