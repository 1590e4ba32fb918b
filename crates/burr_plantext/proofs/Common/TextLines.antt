-- For the code: where the next line of a text is, and its number.
use Rattle.std.proofs.Common.{◌≡◌, ℕ, suc, List, [], ◌∷◌, ◌++◌, length, map, Contains, refl, sym, ap, ◌∙◌}
use Rattle.std.specs.Prelude.{if◌then◌else◌, slice_index_or}
use Rattle.burr_text.specs.Words.{IsCutAt}
use Rattle.burr_plantext.specs.Rules.Texts.{LineRead, is_skipped, ended_line, last_line, numbered_from}
use Rattle.burr_plantext.specs.Rules.Written.{pieces}
use Rattle.burr_plantext.proofs.Common.Cuts.{pieces_cut, pieces_uncut, some_pieces}

-- a line that is ended is skipped, or is one more
pub numbered_cut : (n : ℕ) (text line rest : List ℕ) → IsCutAt 10 text line rest
    → numbered_from n (pieces 10 text) ≡ (if is_skipped line then [] else (n, ended_line line) ∷ []) ++ numbered_from (suc n) (pieces 10 rest)
numbered_cut n text line rest h =
    let some = some_pieces 10 rest in
    ap (numbered_from n) (pieces_cut 10 text line rest h ∙ ap (λ (s : List (List ℕ)). line ∷ s) some.2)
    ∙ ap (λ (s : List (List ℕ)). (if is_skipped line then [] else (n, ended_line line) ∷ []) ++ numbered_from (suc n) s) (sym some.2)

-- what is left of a text without an end of a line
pub numbered_last : (n : ℕ) (text : List ℕ) → ¬ Contains text 10 → numbered_from n (pieces 10 text) ≡ last_line n text
numbered_last n text h = ap (numbered_from n) (pieces_uncut 10 text h)

-- the number of the line after this many that are not skipped
pub number_here : (done more : List (ℕ × LineRead)) (n last : ℕ) (line : LineRead) → slice_index_or (map (λ (l : ℕ × LineRead). l.0) (done ++ ((n, line) ∷ more))) (length done) last ≡ n
number_here [] more n last line = refl
number_here (l ∷ done) more n last line = number_here done more n last line

-- and after all of them
pub number_at_end : (done : List (ℕ × LineRead)) (last : ℕ) → slice_index_or (map (λ (l : ℕ × LineRead). l.0) done) (length done) last ≡ last
number_at_end [] last = refl
number_at_end (l ∷ done) last = number_at_end done last

-- how many lines end in a text is one less than its pieces
pub pieces_count : (text line rest : List ℕ) → IsCutAt 10 text line rest → length (pieces 10 text) ≡ suc (length (pieces 10 rest))
pieces_count text line rest h = ap (λ (s : List (List ℕ)). length s) (pieces_cut 10 text line rest h)
