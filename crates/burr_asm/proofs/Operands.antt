-- Operands that the code has cut off, one by one, are those that the rules test.
use Rattle.std.proofs.Common.{◌≡◌, ℕ, List, [], ◌∷◌, Bool, true, false, IsTrue, refl, sym, ap, ◌∙◌, arith}
use Rattle.std.specs.Prelude.{Option, Some, None, if◌then◌else◌}
use Rattle.burr_text.proofs.Common.Cuts.{Lacks}
use Rattle.burr_plantext.specs.Rules.Operands.{given, one, two, three}
use Rattle.burr_plantext.specs.Rules.Texts.{words_of}
use Rattle.burr_plantext.proofs.Common.Blanks.{one_word}
use Rattle.burr_asm.specs.Views.Words.{cut_word}

module _ {A : Type 0} (is_so is_also : List ℕ → Bool) (line : List ℕ → List ℕ → A) where
  -- one operand after what has been cut off
  abbrev then_one : Option (List ℕ × List (List ℕ)) → Option A
  then_one None = None
  then_one (Some cut) = one is_also (line cut.0) cut.1

  two_cut : (words : List (List ℕ)) → two is_so is_also line words ≡ then_one (cut_word is_so words)
  two_cut [] = refl
  two_cut (word ∷ []) = grind arith
  two_cut (word ∷ next ∷ words) = grind arith

  pub two_none : (words : List (List ℕ)) → cut_word is_so words ≡ None → two is_so is_also line words ≡ None
  two_none words e = two_cut words ∙ ap then_one e

  pub two_some : (words rest : List (List ℕ)) (word : List ℕ) → cut_word is_so words ≡ Some (word, rest) → two is_so is_also line words ≡ one is_also (line word) rest
  two_some words rest word e = two_cut words ∙ ap then_one e

module _ {A : Type 0} (is_so is_also is_last : List ℕ → Bool) (line : List ℕ → List ℕ → List ℕ → A) where
  -- two operands after what has been cut off
  abbrev then_two : Option (List ℕ × List (List ℕ)) → Option A
  then_two None = None
  then_two (Some cut) = two is_also is_last (line cut.0) cut.1

  three_cut : (words : List (List ℕ)) → three is_so is_also is_last line words ≡ then_two (cut_word is_so words)
  three_cut [] = refl
  three_cut (word ∷ []) = grind arith
  three_cut (word ∷ next ∷ words) = grind arith

  pub three_none : (words : List (List ℕ)) → cut_word is_so words ≡ None → three is_so is_also is_last line words ≡ None
  three_none words e = three_cut words ∙ ap then_two e

  pub three_some : (words rest : List (List ℕ)) (word : List ℕ) → cut_word is_so words ≡ Some (word, rest) → three is_so is_also is_last line words ≡ two is_also is_last (line word) rest
  three_some words rest word e = three_cut words ∙ ap then_two e

module _ {A : Type 0} (is_so : List ℕ → Bool) (lack : (w : List ℕ) → IsTrue (is_so w) → Lacks 32 w) where
  -- the last operand, which is all that is left of the bytes
  pub last_failed : (line : List ℕ → A) (bytes : List ℕ) → is_so bytes ≡ false → one is_so line (words_of bytes) ≡ None
  last_failed line bytes fails = one_word is_so lack line bytes ∙ ap (λ (t : Bool). given t (line bytes)) fails

  pub last_passed : (line : List ℕ → A) (bytes word : List ℕ) → is_so bytes ≡ true → word ≡ bytes → one is_so line (words_of bytes) ≡ Some (line word)
  last_passed line bytes word passes e = one_word is_so lack line bytes ∙ ap (λ (t : Bool). given t (line bytes)) passes ∙ ap (λ (w : List ℕ). Some (line w)) (sym e)
