-- The test of a name tells whether bytes are one.
use Rattle.std.proofs.Common.{◌≡◌, ℕ, List, length, Bool, true, false, refl, sym}
use Rattle.std.specs.Prelude.{IsTrue, ◌&&◌, slice_index, nat_le}
use Rattle.std.specs.List.{list_all}
use Rattle.burr_text.specs.Names.{IsName, is_letter, is_name_byte}
use Rattle.burr_container.specs.Rules.Fitting.{is_name_text}
use Rattle.burr_container.proofs.Written.{both_tests, first_test, second_test, at_most, le_of}

same_test : (a b : Bool) → (IsTrue a → IsTrue b) → (IsTrue b → IsTrue a) → a ≡ b
same_test true b there back = sym (there refl)
same_test false true there back = back refl
same_test false false there back = refl

module _ (name : List ℕ) where
  tested : IsName name → IsTrue (is_name_text name)
  tested n =
      both_tests (is_letter (slice_index name 0) && list_all is_name_byte name) (nat_le (length name) 32)
      (both_tests (is_letter (slice_index name 0)) (list_all is_name_byte name) n.first n.each) (at_most _ 32 n.short)

  told_by : IsTrue (is_name_text name) → IsName name
  told_by t =
      let both = first_test (is_letter (slice_index name 0) && list_all is_name_byte name) (nat_le (length name) 32) t in
      record {
        first = first_test (is_letter (slice_index name 0)) (list_all is_name_byte name) both;
        each = second_test (is_letter (slice_index name 0)) (list_all is_name_byte name) both;
        short = le_of _ 32 (second_test (is_letter (slice_index name 0) && list_all is_name_byte name) (nat_le (length name) 32) t);
      }

  pub name_test : (told : Bool) → (IsTrue told → IsName name) → (IsName name → IsTrue told) → told ≡ is_name_text name
  name_test told is back = same_test told (is_name_text name) (λ t. tested (is t)) (λ t. back (told_by t))
