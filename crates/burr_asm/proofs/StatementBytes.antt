-- The bytes of statements: how many they are, and labels offered one by one.
use Rattle.std.proofs.Common.{◌≡◌, ℕ, ◌+◌, ◌*◌, ◌<◌, ◌≤◌, ◌^◌, List, [], ◌∷◌, ◌++◌, length, map, Bool, true, false, Contains, refl, sym, ap, ◌∙◌, inl, inr, arith, append_assoc, length-append}
use Rattle.std.specs.Prelude.{Result, Ok, Err, IsErrAnd, MatchResult, ◌&&◌, not}
use Rattle.std.specs.List.{list_all}
use Rattle.std.proofs.lemmas.List.{length-map}
use Rattle.std.proofs.lemmas.List.Elements.{All-map, All-weaker}
use Rattle.std.proofs.lemmas.List.Sums.{AllPass-from_list_all}
use Rattle.std.proofs.lemmas.Bool.{ltb-true, not-true}
use Rattle.burr_text.specs.Words.{IsCutAt}
use Rattle.burr_code.specs.Instruction.{Pick, spelled, label_bytes, AreLabels}
use Rattle.burr_plantext.specs.Rules.Statements as statements
use Rattle.burr_plantext.specs.Rules.Meaning.{code_size, number_of}
use Rattle.burr_plantext.specs.Rules.Checks.{is_known}
use Rattle.burr_plantext.specs.Rules.Texts.{words_of}
use Rattle.burr_plantext.proofs.Common.Cuts.{pieces_cut, pieces_uncut, all_cut, all_uncut}
use Rattle.burr_asm.specs.declared.fault.AsmFault.{AsmFault}
use Rattle.burr_asm.specs.Views.Faults.{IsUnknownAt}
use Rattle.burr_asm.specs.Views.Names.{has_byte}

two_each : (labels : List ℕ) → length (label_bytes labels) ≡ 2 * length labels
two_each [] = refl
two_each (label ∷ labels) = let more = two_each labels in omega (arith, more)

-- a `pick` has two bytes, and two more for each label
pub pick_size : (names : List (List ℕ)) (count : ℕ) → length names ≡ count → 2 + 2 * count ≡ code_size (statements.Pick names ∷ [])
pick_size names count e =
    let numbers = map (number_of []) names in
    omega (arith, e, two_each numbers, length-map names (number_of []), length-append (label_bytes numbers) [])

module _ (labels : List (List ℕ)) where
  -- all of the names are known
  abbrev pub all_known : List ℕ → Bool
  all_known names = list_all (is_known labels) (words_of names)

  -- all of the numbers fit a byte
  abbrev pub all_fit : List ℕ → Bool
  all_fit names = list_all (has_byte labels) (words_of names)

  -- the bytes of the labels of these names
  abbrev pub offered : List ℕ → List ℕ
  offered names = label_bytes (map (number_of labels) (words_of names))

  -- What is left of the names gives what is left to be added.
  pub record IsOfferedSoFar (names rest so_far : List ℕ) : Type 0 where
    pub known : all_known names ≡ all_known rest
    pub fit : all_fit names ≡ all_fit rest
    pub bytes : so_far ++ offered rest ≡ offered names

  -- one more label was added
  pub one_more : (names bytes more rest front : List ℕ) → IsCutAt 32 rest front more → is_known labels front ≡ true → has_byte labels front ≡ true → IsOfferedSoFar names rest bytes → IsOfferedSoFar names more (bytes ++ label_bytes (number_of labels front ∷ []))
  one_more names bytes more rest front cut is fits so_far = record {
    known = so_far.known ∙ all_cut (is_known labels) 32 rest front more cut ∙ ap (λ (t : Bool). t && all_known more) is;
    fit = so_far.fit ∙ all_cut (has_byte labels) 32 rest front more cut ∙ ap (λ (t : Bool). t && all_fit more) fits;
    bytes = append_assoc bytes (label_bytes (number_of labels front ∷ [])) (offered more) ∙ ap (λ (ws : List (List ℕ)). bytes ++ label_bytes (map (number_of labels) ws)) (sym (pieces_cut 32 rest front more cut)) ∙ so_far.bytes;
  }

  -- the name before the blank is unknown
  pub front_unknown : (names bytes more rest front : List ℕ) → IsCutAt 32 rest front more → IsOfferedSoFar names rest bytes → is_known labels front ≡ false → all_known names ≡ false
  front_unknown names bytes more rest front cut so_far not_so = so_far.known ∙ all_cut (is_known labels) 32 rest front more cut ∙ ap (λ (t : Bool). t && all_known more) not_so

  -- the last name is as all of them
  pub last_known : (names bytes rest : List ℕ) → ¬ Contains rest 32 → IsOfferedSoFar names rest bytes → all_known names ≡ is_known labels rest
  last_known names bytes rest uncut so_far = so_far.known ∙ all_uncut (is_known labels) 32 rest uncut

  pub last_fits : (names bytes rest : List ℕ) → ¬ Contains rest 32 → IsOfferedSoFar names rest bytes → all_fit names ≡ has_byte labels rest
  last_fits names bytes rest uncut so_far = so_far.fit ∙ all_uncut (has_byte labels) 32 rest uncut

  pub last_bytes : (names bytes rest : List ℕ) → ¬ Contains rest 32 → IsOfferedSoFar names rest bytes → bytes ++ label_bytes (number_of labels rest ∷ []) ≡ offered names
  last_bytes names bytes rest uncut so_far = ap (λ (ws : List (List ℕ)). bytes ++ label_bytes (map (number_of labels) ws)) (sym (pieces_uncut 32 rest uncut)) ∙ so_far.bytes

-- the numbers are labels that may be offered
pub are_labels : (labels names : List (List ℕ)) (count : ℕ) → length names ≡ count → 2 ≤ count → count ≤ 8 → list_all (has_byte labels) names ≡ true → AreLabels (map (number_of labels) names)
are_labels labels names count e several few fits =
    let many = length-map names (number_of labels) in (
      omega (arith, many, e, several),
      omega (arith, many, e, few),
      All-map (λ n. n < 2 ^ 16) (number_of labels) names (All-weaker (λ name. has_byte labels name ≡ true) (λ name. number_of labels name < 2 ^ 16) (small labels) names (AllPass-from_list_all (has_byte labels) names fits)),
    )
  where
    small : (labels : List (List ℕ)) (name : List ℕ) → has_byte labels name ≡ true → number_of labels name < 2 ^ 16
    small labels name h = let below = ltb-true (number_of labels name) 256 h in omega (arith, below)

-- labels with the same bytes are as many
pub picked : (offer numbers bytes : List ℕ) → bytes ≡ label_bytes offer → bytes ≡ label_bytes numbers → spelled (Pick offer) ≡ spelled (Pick numbers)
picked offer numbers bytes e f =
    let same : label_bytes offer ≡ label_bytes numbers = sym e ∙ f in
    let lengths = ap length same in
    let count : length offer ≡ length numbers = omega (arith, lengths, two_each offer, two_each numbers) in
    λ i. 0x23 ∷ count i ∷ same i

-- an unknown name's fault is the fault of all of them, where one unknown name makes them so
pub refused : {X : Type 0} (P : X → Type 0) (r : Result X AsmFault) (fault : AsmFault) (one all : Bool) (line : ℕ) → IsErrAnd r (λ e. e ≡ fault) → IsUnknownAt (not one) line fault → (one ≡ false → all ≡ false) → MatchResult r P (IsUnknownAt (not all) line)
refused P (Ok x) fault one all line is_err why more = absurd is_err
refused P (Err e) fault one all line is_err why more = by why
  where
    by : IsUnknownAt (not one) line fault → IsUnknownAt (not all) line e
    by (inl memory) = inl (is_err ∙ memory)
    by (inr unknown) = inr (ap not (more (not-true one unknown.0)), is_err ∙ unknown.1)
