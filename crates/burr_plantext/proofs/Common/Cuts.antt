-- For the code: what a cut at a byte tells of the pieces of bytes.
use Rattle.std.proofs.Common.{◌≡◌, ℕ, List, [], ◌∷◌, ◌==◌, Bool, true, false, Contains, refl, ap, ◌∙◌}
use Rattle.std.specs.Prelude.{◌&&◌}
use Rattle.std.specs.List.{list_all}
use Rattle.burr_text.specs.Words.{IsCutAt}
use Rattle.burr_text.proofs.Common.Cuts.{lacks}
use Rattle.burr_plantext.specs.Rules.Written.{parted, in_first, pieces}
use Rattle.burr_plantext.proofs.Common.Pieces.{one_piece, first_piece}

-- there is a piece
pub some_pieces : (c : ℕ) (bytes : List ℕ) → (piece : List ℕ) × (more : List (List ℕ)) × (pieces c bytes ≡ piece ∷ more)
some_pieces c [] = ([], [], refl)
some_pieces c (b ∷ bytes) = by (b == c) (pieces c bytes) (some_pieces c bytes)
  where
    by : (t : Bool) (rest : List (List ℕ)) → ((piece : List ℕ) × (more : List (List ℕ)) × (rest ≡ piece ∷ more)) → (piece : List ℕ) × (more : List (List ℕ)) × (parted t b rest ≡ piece ∷ more)
    by true rest h = ([], rest, refl)
    by false rest h = (b ∷ h.0, h.1, ap (λ (s : List (List ℕ)). in_first b s) h.2)

-- what is cut at a byte has one piece more
pub pieces_cut : (c : ℕ) (bytes front rest : List ℕ) → IsCutAt c bytes front rest → pieces c bytes ≡ front ∷ pieces c rest
pieces_cut c bytes front rest h = ap (pieces c) h.parts ∙ first_piece c front rest (lacks c front h.first)

-- what can't be cut is one piece
pub pieces_uncut : (c : ℕ) (bytes : List ℕ) → ¬ Contains bytes c → pieces c bytes ≡ bytes ∷ []
pieces_uncut c bytes h = one_piece c bytes (lacks c bytes h)

-- all pieces, where the first is cut
pub all_cut : (is_so : List ℕ → Bool) (c : ℕ) (bytes front rest : List ℕ) → IsCutAt c bytes front rest → list_all is_so (pieces c bytes) ≡ (is_so front && list_all is_so (pieces c rest))
all_cut is_so c bytes front rest h = ap (λ (ps : List (List ℕ)). list_all is_so ps) (pieces_cut c bytes front rest h)

-- and where there is one
pub all_uncut : (is_so : List ℕ → Bool) (c : ℕ) (bytes : List ℕ) → ¬ Contains bytes c → list_all is_so (pieces c bytes) ≡ is_so bytes
all_uncut is_so c bytes h = ap (λ (ps : List (List ℕ)). list_all is_so ps) (pieces_uncut c bytes h) ∙ alone (is_so bytes)
  where
    alone : (t : Bool) → (t && true) ≡ t
    alone true = refl
    alone false = refl
