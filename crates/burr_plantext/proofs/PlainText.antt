-- The text without places is that of the source's lines.
use Rattle.std.proofs.Common.{◌≡◌, ℕ, suc, ◌+◌, false, None, List, [], ◌∷◌, ◌++◌, map, refl, sym, ap, ◌∙◌}
use Rattle.std.specs.List.{flat_map}
use Rattle.burr_plantext.specs.Rules.Statements.{Statement}
use Rattle.burr_plantext.specs.Rules.Lines.{PlanLine, ProcLine, LabelLine, CodeLine}
use Rattle.burr_plantext.specs.Rules.Sources.{Block, ProcedureSource, PlanSource, frame_lines, block_lines, some_exit_lines, procedure_lines, source_lines}
use Rattle.burr_plantext.specs.Rules.Meaning.{code_size}
use Rattle.burr_plantext.specs.Rules.Writing.{text_of, line_text}
use Rattle.burr_plantext.specs.Rules.ListedPlaces.{code_text, blocks_text, procedure_text, procedures_text, plan_text}
use Rattle.std.proofs.lemmas.Grind.{flat_map-append}

code_plain : (pc : ℕ) (code : List Statement)
    → code_text None pc code ≡ text_of (map CodeLine code)
code_plain pc [] = refl
code_plain pc (s ∷ code) =
    ap (λ (t : List ℕ). line_text (CodeLine s) ++ t) (code_plain (pc + code_size (s ∷ [])) code)

block_plain : (pc : ℕ) (b : Block)
    → text_of (LabelLine b.label ∷ frame_lines b.frame) ++ code_text None pc b.code
    ≡ text_of (block_lines b)
block_plain pc b =
    ap (λ (t : List ℕ). text_of (LabelLine b.label ∷ frame_lines b.frame) ++ t)
    (code_plain pc b.code)
    ∙ sym (flat_map-append line_text (LabelLine b.label ∷ frame_lines b.frame) (map CodeLine b.code))

blocks_plain : (pc : ℕ) (blocks : List Block)
    → blocks_text None pc blocks ≡ text_of (flat_map block_lines blocks)
blocks_plain pc [] = refl
blocks_plain pc (b ∷ blocks) =
    (λ i. block_plain pc b i ++ blocks_plain (pc + code_size b.code) blocks i)
    ∙ sym (flat_map-append line_text (block_lines b) (flat_map block_lines blocks))

procedure_plain : (n : ℕ) (p : ProcedureSource)
    → procedure_text false n p ≡ text_of (procedure_lines p)
procedure_plain n p =
    ap (λ (t : List ℕ). text_of (ProcLine p.head ∷ some_exit_lines p.exit) ++ t)
    (blocks_plain 0 p.blocks)
    ∙ sym (flat_map-append line_text (ProcLine p.head ∷ some_exit_lines p.exit) (flat_map block_lines p.blocks))

procedures_plain : (n : ℕ) (procedures : List ProcedureSource)
    → procedures_text false n procedures ≡ text_of (flat_map procedure_lines procedures)
procedures_plain n [] = refl
procedures_plain n (p ∷ procedures) =
    (λ i. procedure_plain n p i ++ procedures_plain (suc n) procedures i)
    ∙ sym (flat_map-append line_text (procedure_lines p) (flat_map procedure_lines procedures))

pub plan_plain : (s : PlanSource) → plan_text false s ≡ text_of (source_lines s)
plan_plain s =
    ap (λ (t : List ℕ). line_text (PlanLine s.title) ++ t) (procedures_plain 0 s.procedures)
