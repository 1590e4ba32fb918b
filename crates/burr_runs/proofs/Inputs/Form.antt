-- An input has one text and one line of code.
use Rattle.std.proofs.Common.{◌≡◌, ◌≢◌, ℕ, ◌/◌, ◌%◌, List, [], ◌∷◌, ◌++◌, Contains, refl, sym, subst, ◌∙◌, arith, codes}
use Rattle.std.proofs.lemmas.Bool.Decides.{nat_tests}
use Rattle.std.proofs.lemmas.List.{append_cancel_right}
use Rattle.burr_text.proofs.Common.Cuts.{Lacks, lacks}
use Rattle.burr_text.specs.Lines.{IsLines}
use Rattle.burr_runs.specs.Rules.Input.{IsCodeLine, IsInput, hex, hex_digit}
use Rattle.burr_text.proofs.Common.Unended.{lacks_append, lacks_clear}
use Rattle.burr_text.proofs.Common.LastLines.{one_last_line}

digit_is_no_end : (n : ℕ) → hex_digit n ≢ 10
digit_is_no_end n e = grind (arith, nat_tests)

lacks_hex : (bytes : List ℕ) → Lacks 10 (hex bytes)
lacks_hex [] = tt
lacks_hex (b ∷ bytes) = (digit_is_no_end (b / 16), (digit_is_no_end (b % 16), lacks_hex bytes))

-- a line with code holds no end of a line
pub lacks_code : (line code : List ℕ) → IsCodeLine line code → Lacks 10 line
lacks_code line code is = subst (Lacks 10) (sym is.1) (lacks_append 10 (codes "code ") (hex code) (lacks_clear (codes "code ") refl) (lacks_hex code))

-- an input that is cut into lines and a line has no other text, and no other line of code
pub IsInput-line : (input front line text code : List ℕ) → input ≡ front ++ line ++ 10 ∷ [] → IsLines front → Lacks 10 line → IsInput input text code → (text ≡ front) × IsCodeLine line code
IsInput-line input front line text code parts lines unended (also_lines, (last, is, also_parts)) =
    let whole : text ++ last ≡ front ++ line = append_cancel_right (text ++ last) (front ++ line) (10 ∷ []) (sym also_parts ∙ parts) in
    let same = one_last_line text last front line also_lines lines (lacks_code last code is) unended whole in
    (same.0, subst (λ (bytes : List ℕ). IsCodeLine bytes code) same.1 is)

-- the same of a cut at the last line
pub IsInput-cut : (input front line text code : List ℕ) → (input ≡ front ++ line ++ 10 ∷ []) × IsLines front × (¬ Contains line 10) → IsInput input text code
    → (text ≡ front) × IsCodeLine line code
IsInput-cut input front line text code (parts, lines, unended) is = IsInput-line input front line text code parts lines (lacks 10 line unended) is
