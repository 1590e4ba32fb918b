-- Whether bytes are an input.
use Rattle.std.proofs.Common.{◌≡◌, ℕ, ◌*◌, ◌%◌, List, [], ◌∷◌, ◌++◌, length, refl, sym, ap, ◌∙◌, inl, arith, codes}
use Rattle.std.specs.List.{list_all}
use Rattle.burr_text.proofs.Common.Decisions.{Decided, decided_like, decided_and, decided_and_three, decided_or, decide_test, decide_same, decide_at_most, decide_same_bytes, decide_empty, decide_parts}
use Rattle.burr_text.specs.Lines.{IsLines}
use Rattle.burr_runs.specs.Rules.Input.{IsCode, IsCodeLine, IsInput, hex}
use Rattle.burr_runs.specs.Rules.Input.{is_hex_digit}
use Rattle.burr_runs.proofs.Inputs.Digits.{IsDigits, bytes_of_digits, length-hex, list_all-hex}

-- whether bytes that are so stand before this end
decide_before : (P : List ℕ → Type 0) → ((front : List ℕ) → Decided (P front)) → (end bytes : List ℕ) → Decided ((front : List ℕ) × P front × (bytes ≡ front ++ end))
decide_before P each end bytes =
    decided_like (λ found. (found.0, found.2, found.4 ∙ ap (λ (back : List ℕ). found.0 ++ back) found.3)) (λ found. (found.0, end, found.1, refl, found.2))
    (decide_parts P (λ back. back ≡ end) each (λ back. decide_same_bytes back end) bytes)

-- whether bytes that are so stand after this beginning
decide_after : (P : List ℕ → Type 0) → ((back : List ℕ) → Decided (P back)) → (begin bytes : List ℕ) → Decided ((back : List ℕ) × P back × (bytes ≡ begin ++ back))
decide_after P each begin bytes =
    decided_like (λ found. (found.1, found.3, found.4 ∙ ap (λ (front : List ℕ). front ++ found.1) found.2)) (λ found. (begin, found.0, refl, found.1, found.2))
    (decide_parts (λ front. front ≡ begin) P (λ front. decide_same_bytes front begin) each bytes)

decide_lines : (text : List ℕ) → Decided (IsLines text)
decide_lines text =
    decided_or (decide_empty text)
    (decided_like (λ found. (found.0, found.2)) (λ found. (found.0, tt, found.1)) (decide_before (λ front. Unit {0}) (λ front. inl tt) (10 ∷ []) text))

-- as many digits as code has, two for each byte
abbrev ArePairs : List ℕ → Type 0
ArePairs digits = IsDigits digits × (length digits % 2 ≡ 0)

-- the digits of some code
abbrev SpellCode : List ℕ → Type 0
SpellCode digits = (code : List ℕ) × IsCode code × (digits ≡ hex code)

code_of_pairs : (digits : List ℕ) → ArePairs digits → SpellCode digits
code_of_pairs digits (are, even) =
    let spelled = bytes_of_digits digits are.each even in
    let count : length digits ≡ 2 * length spelled.0 = ap length (sym spelled.2) ∙ length-hex spelled.0 in
    let some = are.some in
    let short = are.short in
    (spelled.0, record { bytes = spelled.1; some = omega arith; short = omega arith }, sym spelled.2)

pairs_of_code : (digits : List ℕ) → SpellCode digits → ArePairs digits
pairs_of_code digits (code, is, same) =
    let count : length digits ≡ 2 * length code = ap length same ∙ length-hex code in
    let some = is.some in
    let short = is.short in
    (record { some = omega arith; short = omega arith; each = rw same (list_all-hex code is.bytes) }, omega arith)

decide_digits : (digits : List ℕ) → Decided (IsDigits digits)
decide_digits digits =
    decided_like (λ are. record { some = are.0; short = are.1; each = are.2 }) (λ are. (are.some, are.short, are.each))
    (decided_and_three (decide_at_most 1 (length digits)) (decide_at_most (length digits) 8192) (decide_test (list_all is_hex_digit digits)))

decide_spell_code : (digits : List ℕ) → Decided (SpellCode digits)
decide_spell_code digits = decided_like (code_of_pairs digits) (pairs_of_code digits) (decided_and (decide_digits digits) (decide_same (length digits % 2) 0))

decide_code_line : (line : List ℕ) → Decided ((code : List ℕ) × IsCodeLine line code)
decide_code_line line =
    decided_like (λ found. (found.1.0, (found.1.1, found.2 ∙ ap (λ (back : List ℕ). codes "code " ++ back) found.1.2))) (λ found. (hex found.0, (found.0, found.1.0, refl), found.1.1))
    (decide_after SpellCode decide_spell_code (codes "code ") line)

-- what stands before the last end of a line in an input
abbrev IsBody : List ℕ → Type 0
IsBody body = (text line : List ℕ) × IsLines text × ((code : List ℕ) × IsCodeLine line code) × (body ≡ text ++ line)

decide_body : (body : List ℕ) → Decided (IsBody body)
decide_body body = decide_parts IsLines (λ line. (code : List ℕ) × IsCodeLine line code) decide_lines decide_code_line body

-- whether bytes are an input with some text and code
pub decide_input : (input : List ℕ) → Decided ((text code : List ℕ) × IsInput input text code)
decide_input input = decided_like to from (decide_before IsBody decide_body (10 ∷ []) input)
  where
    to : (body : List ℕ) × IsBody body × (input ≡ body ++ 10 ∷ []) → (text code : List ℕ) × IsInput input text code
    to (body, (text, line, lines, (code, is), parts), ended) = (text, code, (lines, (line, is, ended ∙ ap (λ (bytes : List ℕ). bytes ++ 10 ∷ []) parts)))

    from : (text code : List ℕ) × IsInput input text code → (body : List ℕ) × IsBody body × (input ≡ body ++ 10 ∷ [])
    from (text, code, (lines, (line, is, parts))) = (text ++ line, (text, line, lines, (code, is), refl), parts)
