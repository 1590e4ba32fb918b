-- The plan that the code has read is that of the source.
use Rattle.std.proofs.Common.{◌≡◌, ℕ, suc, ◌+◌, List, [], ◌∷◌, ◌++◌, length, map, refl, ap, ◌∙◌}
use Rattle.std.specs.List.{flat_map}
use Rattle.std.proofs.lemmas.List.{map-append}
use Rattle.burr_plantext.specs.Rules.Statements.{Statement}
use Rattle.burr_plantext.specs.Rules.Lines.{Line, CodeLine}
use Rattle.burr_plantext.specs.Rules.Sources.{Block, ProcedureSource, some_exit_lines, frame_lines, block_lines, procedure_lines}
use Rattle.burr_plantext.specs.Rules.Meaning.{code_bytes, block_code, label_names, procedure_in}
use Rattle.burr_asm.specs.Views.CodeParts.{code_of_all}
use Rattle.burr_asm.specs.Views.Routines.{RoutineParts, procedure_of, procedures_of}
use Rattle.burr_asm.specs.Views.Beginnings.{code_lines, AreEnded, IsRoutine}
use Rattle.burr_asm.proofs.StagePlaces.{AreRows, code_lines-append, exit_rows, frame_rows, rows_lack}

module _ (number : ℕ → ℕ) where
  -- the statements among lines that begin at this place
  abbrev words_among : ℕ → List Line → List Statement
  words_among place lines = map (λ (s : ℕ × Statement). s.1) (code_lines number place lines)

  both : (place : ℕ) (xs ys : List Line) → words_among place (xs ++ ys) ≡ words_among place xs ++ words_among (place + length xs) ys
  both place xs ys =
      ap (λ (code : List (ℕ × Statement)). map (λ (s : ℕ × Statement). s.1) code) (code_lines-append number place (place + length xs) xs ys refl)
      ∙ map-append (λ (s : ℕ × Statement). s.1) (code_lines number place xs) (code_lines number (place + length xs) ys)

  rows_and : {rows : List Line} → AreRows rows → (place : ℕ) (lines : List Line) → words_among place (rows ++ lines) ≡ words_among (place + length rows) lines
  rows_and {rows} h place lines =
      both place rows lines ∙ ap (λ (code : List (ℕ × Statement)). map (λ (s : ℕ × Statement). s.1) code ++ words_among (place + length rows) lines) (rows_lack h number place)

  all_in_code : (place : ℕ) (code : List Statement) → words_among place (map CodeLine code) ≡ code
  all_in_code place [] = refl
  all_in_code place (s ∷ code) = ap (λ (ss : List Statement). s ∷ ss) (all_in_code (suc place) code)

  in_block : (place : ℕ) (b : Block) → words_among place (block_lines b) ≡ b.code
  in_block place b = rows_and (frame_rows b.frame) (suc place) (map CodeLine b.code) ∙ all_in_code (suc place + length (frame_lines b.frame)) b.code

  in_blocks : (place : ℕ) (blocks : List Block) → words_among place (flat_map block_lines blocks) ≡ block_code blocks
  in_blocks place [] = refl
  in_blocks place (b ∷ blocks) = both place (block_lines b) (flat_map block_lines blocks) ∙ (λ i. in_block place b i ++ in_blocks (place + length (block_lines b)) blocks i)

  in_procedure : (place : ℕ) (p : ProcedureSource) → words_among place (procedure_lines p) ≡ block_code p.blocks
  in_procedure place p = rows_and (exit_rows p.exit) (suc place) (flat_map block_lines p.blocks) ∙ in_blocks (suc place + length (some_exit_lines p.exit)) p.blocks

-- The procedure that the code has read is that of the source.
pub procedure_read : (number : ℕ → ℕ) (start version : ℕ) (procedures : List (List ℕ)) (r : RoutineParts) (p : ProcedureSource) → IsRoutine number start version r p.head p.exit p.blocks → r.names ≡ label_names p.blocks
    → procedure_of r procedures ≡ procedure_in procedures p
procedure_read number start version procedures r p h names =
    let code : code_of_all r.names procedures r.code.statements ≡ code_bytes (label_names p.blocks) procedures (block_code p.blocks) =
    (λ i. code_of_all (names i) procedures (h.code i))
    ∙ ap (code_bytes (label_names p.blocks) procedures) (in_procedure number start p) in
    λ i. record { parameters = h.signature.parameters i; results = h.signature.results i; exit = h.exit_is i; labels = h.labels i; code = code i }

pub procedures_read : (number : ℕ → ℕ) (start version : ℕ) (procedures : List (List ℕ)) (rs : List RoutineParts) (ps : List ProcedureSource) → AreEnded number start version rs ps
    → procedures_of procedures rs ≡ map (procedure_in procedures) ps
procedures_read number start version procedures [] [] h = refl
procedures_read number start version procedures [] (p ∷ ps) h = absurd h
procedures_read number start version procedures (r ∷ rs) [] h = absurd h
procedures_read number start version procedures (r ∷ rs) (p ∷ ps) ((routine, names), more) =
    λ i. procedure_read number start version procedures r p routine names i ∷ procedures_read number (start + length (procedure_lines p)) version procedures rs ps more i
