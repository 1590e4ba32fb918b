-- An input is one text with one code.
use Rattle.std.proofs.Common.{◌≡◌, ℕ, List, ap, sym, ◌∙◌, codes, All}
use Rattle.std.proofs.lemmas.List.{append_cancel_left}
use Rattle.hex.specs.Hex.{decode_of}
use Rattle.hex.proofs.HexLemmas.{decode_of-same}
use Rattle.burr_runs.specs.Rules.Input.{IsCodeLine, hex}
use Rattle.burr_runs.specs.Laws.OutputLaws.{OneInput}
use Rattle.burr_runs.proofs.Inputs.Digits.{IsByte, decode_of-hex}
use Rattle.burr_runs.proofs.Inputs.Form.{lacks_code, IsInput-line}

-- bytes of one spelling are one
hex_injective : (a b : List ℕ) → All IsByte a → All IsByte b → hex a ≡ hex b → a ≡ b
hex_injective a b h k e = decode_of-same (hex a) a b (decode_of-hex a h) (ap decode_of e ∙ decode_of-hex b k)

one_code : (line code bytes : List ℕ) → IsCodeLine line code → IsCodeLine line bytes → code ≡ bytes
one_code line code bytes (is, spelled) (also, also_spelled) =
    hex_injective code bytes is.bytes also.bytes (append_cancel_left (codes "code ") (hex code) (hex bytes) (sym spelled ∙ also_spelled))

pub one_input : OneInput
one_input input text other code bytes is (lines, (line, also, parts)) =
    let same = IsInput-line input other line text code parts lines (lacks_code line bytes also) is in
    (same.0, one_code line code bytes same.1 also)
