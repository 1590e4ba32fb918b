-- Labels with their frames and their code, and procedures, one after the other.
use Rattle.std.proofs.Common.{◌≡◌, ℕ, suc, ◌+◌, ◌-◌, ◌<◌, ◌≤◌, ◌≢◌, ◌==◌, Bool, true, false, IsTrue, Option, Some, None, List, [], ◌∷◌, ◌++◌, drop, take, length, refl, sym, ap, ◌∙◌, subst, arith, append_assoc, append-nil, slice_get, codes, IfSome, if◌then◌else◌, length-take-le, length-drop}
use Rattle.burr_code.specs.declared.limits.TheConstants.{MOST_CODE}
use Rattle.burr_container.specs.Rules.Plans.{Frame, PlanProcedure, Plan}
use Rattle.burr_plantext.specs.Views.Symbols.{IsOverLive}
use Rattle.burr_plantext.specs.Rules.Statements.{Statement}
use Rattle.burr_plantext.specs.Rules.Lines.{PlanLine, ProcLine, LabelLine}
use Rattle.burr_plantext.specs.Rules.Sources.{Block, ProcedureSource, PlanSource, frame_lines}
use Rattle.burr_plantext.specs.Rules.Meaning.{code_size}
use Rattle.burr_plantext.specs.Rules.Writing.{text_of, line_text}
use Rattle.burr_plantext.specs.Rules.Listing.{IsCodeListed, AreBlocksListed, AreProceduresListed, IsListed, code_after, procedure_name, label_name, frame_listed, exit_listed, head_of, title_of}
use Rattle.burr_plantext.specs.Views.Parts.{frame_text, exit_text, title_text}
use Rattle.std.specs.Fmt.{decimal}
use Rattle.std.proofs.lemmas.List.{drop_all}
use Rattle.burr_container.specs.Rules.Fitting.{is_frame, rise_from}
use Rattle.burr_plantext.proofs.FrameSteps.{all_at}
use Rattle.burr_plantext.specs.Views.Listings.{begin_of, IsCodeAdded, IsBlockAdded, AreBlocksAdded, IsProcedureAdded}
use Rattle.burr_plantext.specs.Rules.ListedPlaces.{code_text, blocks_text, procedure_text, procedures_text, plan_text, IsListedText}
use Rattle.std.specs.Bool.{then_some}
use Rattle.burr_container.specs.declared.container.Header.{Header}
use Rattle.burr_container.specs.declared.procedure_ref.StoredProcedure.{StoredProcedure}
use Rattle.burr_container.specs.Views.InPlace.{IsLabel, IsProcedure}
use Rattle.burr_container.specs.Views.Containers.{ContainerView, IsHeader, IsContainer, HasPlan, HasLabel, OfProcedure, OfLabel}
use Rattle.burr_container.proofs.Common.OneContainer.{fits_where_kept}
use Rattle.burr_plantext.proofs.Steps.{left_at, got_at, got_dropped}
use Rattle.burr_plantext.proofs.CodeSteps.{rest_taken, listed_size}
use Rattle.burr_plantext.proofs.SetSteps.{not_equal}
use Rattle.burr_plantext.proofs.PlanSteps.{as_many, for_at, of_plan, procedure_fits, labels_fit, frame_over, FitsLabels, rises_at, rises_next}

size_by : (code : List ℕ) (position : ℕ) (labels : List (ℕ × Frame))
    → position ≤ begin_of (length code) labels → begin_of (length code) labels ≤ length code
    → position + length (code_after code position labels) ≡ begin_of (length code) labels
size_by code position [] low high =
    let long = length-drop position code in omega (arith, long, low)
size_by code position (next ∷ labels) low high =
    let long = length-drop position code in
    let taken = length-take-le (next.0 - position) (drop position code) (omega (arith, long, low, high)) in
    omega (arith, taken, low)

begin_by : (end : ℕ) (labels : List (ℕ × Frame)) (n : ℕ) (l : ℕ × Frame)
    → IsTrue (rise_from 0 end labels) → slice_get labels n ≡ Some l
    → (rest : List (ℕ × Frame)) → drop (suc n) labels ≡ rest
    → (l.0 ≤ begin_of end rest) × (begin_of end rest ≤ end)
begin_by end labels n l rise here [] e =
    let both = rises_at 0 end labels n l rise here in (omega (arith, both.1), omega arith)
begin_by end labels n l rise here (m ∷ rest) e =
    let there : slice_get labels (suc n) ≡ Some m = got_dropped labels (suc n) m rest e in
    let next = rises_next 0 end labels n l m rise here there in
    let both = rises_at 0 end labels (suc n) m rise there in
    (omega (arith, next), omega (arith, both.1))

-- the code from a label on ends where the next label stands, or the code
pub block_size : (code : List ℕ) (labels : List (ℕ × Frame)) (n next : ℕ) (l : ℕ × Frame)
    → IsTrue (rise_from 0 (length code) labels) → next ≡ suc n → slice_get labels n ≡ Some l
    → l.0 + length (code_after code l.0 (drop next labels))
    ≡ begin_of (length code) (drop next labels)
block_size code labels n next l rise e here =
    let both = begin_by (length code) labels n l rise here (drop next labels)
    (ap (λ (k : ℕ). drop k labels) (sym e)) in
    size_by code l.0 (drop next labels) both.0 both.1

-- The block of a label of a container's plan

pub begin_some : (end : ℕ) (labels : List (ℕ × Frame)) (n : ℕ) (l : ℕ × Frame)
    → slice_get labels n ≡ Some l → begin_of end (drop n labels) ≡ l.0
begin_some end labels n l here = ap (begin_of end) (left_at labels n (suc n) l refl here)

pub begin_none : (end : ℕ) (labels : List (ℕ × Frame)) (n : ℕ) → length labels ≤ n
    → begin_of end (drop n labels) ≡ end
begin_none end labels n past = ap (begin_of end) (drop_all n labels past)

-- it is what is between two positions
part_is : (code : List ℕ) (position : ℕ) (labels : List (ℕ × Frame))
    → take (begin_of (length code) labels - position) (drop position code)
    ≡ code_after code position labels
part_is code position [] = rest_taken position code
part_is code position (next ∷ labels) = refl

pub has_label_in : (kept : ContainerView) (p : Plan) (q : PlanProcedure) (i n : ℕ)
    → IsContainer kept p → slice_get p.procedures i ≡ Some q → HasLabel kept i n
    → n < length q.labels
has_label_in kept p q i n is here has =
    let (stored, there, for) = for_at (IsProcedure p.pieces) kept.procedures p.procedures i q is.procedures here in
    let many = as_many (IsLabel p.pieces) stored.labels.starts q.labels for.labels in
    let below : n < length stored.labels.starts =
    subst (λ (found : Option StoredProcedure). IfSome found (λ p. n < length p.labels.starts)) there has in
    omega (arith, below, many)

-- labels within the format, of whatever plan the container is of
pub labels_of : (kept : ContainerView) (p : Plan) (q : PlanProcedure) (i : ℕ) → HasPlan kept
    → IsContainer kept p → slice_get p.procedures i ≡ Some q
    → FitsLabels p.pieces (length q.code) q.labels
labels_of kept p q i has is here =
    let (main, parameters, results, exit, labels, code) = procedure_fits p i q (fits_where_kept kept p has is) here in
    labels_fit p.pieces (length q.code) q.labels labels

pub block_bounds : (kept : ContainerView) (i n start end : ℕ) (code : List ℕ) → HasPlan kept
    → i < length kept.procedures → HasLabel kept i n → OfLabel kept i n (λ l. start ≡ l.0)
    → OfProcedure kept i (λ p q. end ≡ begin_of (length q.code) (drop (n + 1) q.labels))
    → OfProcedure kept i (λ p q. code ≡ q.code) → (start ≤ end) × (end ≤ length code)
block_bounds kept i n start end code has inside label starts ends codes =
    let o = of_plan kept i has inside in
    let (l, there) = got_at o.procedure.labels n (has_label_in kept o.plan o.procedure i n o.is o.here label) in
    let fits = labels_of kept o.plan o.procedure i has o.is o.here in
    let next : suc n ≡ n + 1 = omega arith in
    let both = begin_by (length o.procedure.code) o.procedure.labels n l fits.rise there (drop (n + 1) o.procedure.labels)
    (ap (λ (k : ℕ). drop k o.procedure.labels) next) in
    let begin = starts o.plan o.procedure o.is o.here l there in
    let stop = ends o.plan o.procedure o.is o.here in
    let long = ap (λ (bytes : List ℕ). length bytes) (codes o.plan o.procedure o.is o.here) in
    (omega (arith, both.0, begin, stop), omega (arith, both.1, stop, long))

pub block_is : (start end : ℕ) (code : List ℕ) (q : PlanProcedure) (n : ℕ) (l : ℕ × Frame)
    → start ≡ l.0 → end ≡ begin_of (length q.code) (drop (n + 1) q.labels) → code ≡ q.code
    → take (end - start) (drop start code) ≡ code_after q.code l.0 (drop (n + 1) q.labels)
block_is start end code q n l begin stop same =
    (λ j. take (stop j - begin j) (drop (begin j) (same j)))
    ∙ part_is q.code l.0 (drop (n + 1) q.labels)

-- it is short
pub block_short : (start end : ℕ) (code : List ℕ) → (start ≤ end) × (end ≤ length code)
    → length code ≤ MOST_CODE → start + length (take (end - start) (drop start code)) ≤ MOST_CODE
block_short start end code bounds short =
    let size = length-take-le (end - start) (drop start code) (omega (arith, bounds.0, bounds.1, length-drop start code)) in
    omega (arith, size, bounds.0, bounds.1, short)

pub label_added : (n : ℕ) (l : ℕ × Frame) (f : Frame) (old named lined new : List ℕ)
    → named ≡ old ++ (codes "label L" ++ decimal n) → lined ≡ named ++ 10 ∷ [] → f ≡ l.1
    → new ≡ lined ++ frame_text f
    → new ≡ old ++ text_of (LabelLine (label_name n) ∷ frame_lines (frame_listed l.1))
label_added n l f old named lined new name line same says =
    let whole : (old ++ (codes "label L" ++ decimal n)) ++ 10 ∷ [] ≡ old ++ line_text (LabelLine (label_name n)) =
    append_assoc old (codes "label L" ++ decimal n) (10 ∷ []) in
    says ∙ (λ j. line j ++ frame_text (same j))
    ∙ ap (λ (t : List ℕ). t ++ frame_text l.1) (ap (λ (t : List ℕ). t ++ 10 ∷ []) name ∙ whole)
    ∙ append_assoc old (line_text (LabelLine (label_name n))) (frame_text l.1)

-- the frame of a label is over its own live slots
pub frame_of_label : (kept : ContainerView) (i n : ℕ) (f : Frame) → HasPlan kept
    → i < length kept.procedures → HasLabel kept i n → OfLabel kept i n (λ l. f ≡ l.1)
    → IsOverLive f
frame_of_label kept i n f has inside label is =
    let o = of_plan kept i has inside in
    let (l, there) = got_at o.procedure.labels n (has_label_in kept o.plan o.procedure i n o.is o.here label) in
    let fits = labels_of kept o.plan o.procedure i has o.is o.here in
    subst (λ (f : Frame). IsOverLive f) (sym (is o.plan o.procedure o.is o.here l there))
    (frame_over o.plan.pieces l.1
    (all_at (λ (label : ℕ × Frame). is_frame o.plan.pieces label.1) o.procedure.labels n l fits.frames there))

pub block_added : (labels procedures : ℕ) (placed : Option ℕ) (q : PlanProcedure) (n : ℕ)
    (l : ℕ × Frame) (start : ℕ) (part old mid new : List ℕ) → start ≡ l.0
    → part ≡ code_after q.code l.0 (drop (n + 1) q.labels)
    → mid ≡ old ++ text_of (LabelLine (label_name n) ∷ frame_lines (frame_listed l.1))
    → IsCodeAdded labels procedures placed start part mid new
    → (code : List Statement)
    × IsCodeListed labels procedures (code_after q.code l.0 (drop (n + 1) q.labels)) code
    × (new ≡ old ++ (text_of (LabelLine (label_name n) ∷ frame_lines (frame_listed l.1))
    ++ code_text placed l.0 code))
block_added labels procedures placed q n l start part old mid new begin is front (code, listed, e) = (
  code,
  subst (λ (bytes : List ℕ). IsCodeListed labels procedures bytes code) is listed,
  e ∙ (λ j. front j ++ code_text placed (begin j) code)
      ∙ append_assoc old (text_of (LabelLine (label_name n) ∷ frame_lines (frame_listed l.1)))
      (code_text placed l.0 code),
)

-- What is written, whatever labels are next, is the whole of the code
abbrev pub AreBlocksWritten : Plan → PlanProcedure → Option ℕ → List ℕ → ℕ → List ℕ → Type 0
AreBlocksWritten p q placed old n text =
    (more : List Block)
    → AreBlocksListed (length q.labels) (length p.procedures) q.code n (drop n q.labels) more
    → (blocks : List Block)
    × AreBlocksListed (length q.labels) (length p.procedures) q.code 0 q.labels blocks
    × (text ++ blocks_text placed (begin_of (length q.code) (drop n q.labels)) more
    ≡ old ++ blocks_text placed 0 blocks)

pub blocks_begun : (pieces : ℕ) (p : Plan) (q : PlanProcedure) (placed : Option ℕ)
    (old : List ℕ) → FitsLabels pieces (length q.code) q.labels
    → AreBlocksWritten p q placed old 0 old
blocks_begun pieces p q placed old fits more listed =
    let (l, here) = got_at q.labels 0 fits.some in
    let begin : begin_of (length q.code) q.labels ≡ 0 =
    ap (begin_of (length q.code)) (left_at q.labels 0 1 l refl here) ∙ fits.first l here in
    (more, listed, ap (λ (k : ℕ). old ++ blocks_text placed k more) begin)

pub block_turn : (pieces : ℕ) (p : Plan) (q : PlanProcedure) (placed : Option ℕ)
    (old : List ℕ) (n next : ℕ) (text new : List ℕ) (labels procedures : ℕ)
    → FitsLabels pieces (length q.code) q.labels → next ≡ suc n → n < length q.labels
    → labels ≡ length q.labels → procedures ≡ length p.procedures
    → AreBlocksWritten p q placed old n text
    → IsBlockAdded labels procedures placed q n text new
    → AreBlocksWritten p q placed old next new
block_turn pieces p q placed old n next text new labels procedures fits e inside all many written
    added more listed =
    let (l, here) = got_at q.labels n inside in
    let rest = drop next q.labels in
    let apart = left_at q.labels n next l e here in
    let moved : drop (n + 1) q.labels ≡ rest = ap (λ (k : ℕ). drop k q.labels) (omega (arith, e)) in
    let (code, is, says) = added l here in
    let is_code : IsCodeListed (length q.labels) (length p.procedures) (code_after q.code l.0 rest) code =
    subst (λ (k : ℕ). IsCodeListed k (length p.procedures) (code_after q.code l.0 rest) code) all
    (subst (λ (k : ℕ). IsCodeListed labels k (code_after q.code l.0 rest) code) many
    (subst (λ (ls : List (ℕ × Frame)). IsCodeListed labels procedures (code_after q.code l.0 ls) code) moved is)) in
    let b : Block = record { label = label_name n; frame = frame_listed l.1; code = code } in
    let front = text_of (LabelLine (label_name n) ∷ frame_lines (frame_listed l.1))
    ++ code_text placed l.0 code in
    let both : AreBlocksListed (length q.labels) (length p.procedures) q.code n (l ∷ rest) (b ∷ more) = (
      refl,
      refl,
      is_code,
      subst (λ (k : ℕ). AreBlocksListed (length q.labels) (length p.procedures) q.code k rest more) e listed,
    ) in
    let (blocks, are, so) = written (b ∷ more)
    (subst (λ (ls : List (ℕ × Frame)). AreBlocksListed (length q.labels) (length p.procedures) q.code n ls (b ∷ more)) (sym apart) both) in
    let size : l.0 + code_size code ≡ begin_of (length q.code) rest =
    ap (λ (k : ℕ). l.0 + k) (listed_size (length q.labels) (length p.procedures) (code_after q.code l.0 rest) code is_code)
    ∙ block_size q.code q.labels n next l fits.rise e here in (
      blocks,
      are,
      ap (λ (t : List ℕ). t ++ blocks_text placed (begin_of (length q.code) rest) more) says
          ∙ append_assoc text front (blocks_text placed (begin_of (length q.code) rest) more)
          ∙ ap (λ (k : ℕ). text ++ (front ++ blocks_text placed k more)) (sym size)
          ∙ ap (λ (ls : List (ℕ × Frame)). text ++ blocks_text placed (begin_of (length q.code) ls) (b ∷ more)) (sym apart)
          ∙ so,
    )

pub blocks_end : (p : Plan) (q : PlanProcedure) (placed : Option ℕ) (old : List ℕ) (n : ℕ)
    (text : List ℕ) → length q.labels ≤ n → AreBlocksWritten p q placed old n text
    → AreBlocksAdded p q placed old text
blocks_end p q placed old n text end written =
    let none = drop_all n q.labels end in
    let (blocks, are, so) = written []
    (subst (λ (ls : List (ℕ × Frame)). AreBlocksListed (length q.labels) (length p.procedures) q.code n ls []) (sym none) tt) in
    (blocks, are, sym (append-nil text) ∙ so)

pub placed_is : (places : Bool) (i : ℕ) → then_some places i ≡ (if places then Some i else None)
placed_is true i = refl
placed_is false i = refl

-- Procedures

head_by : (two : Bool) (old : List ℕ) (n parameters results : ℕ)
    → (((old ++ (codes "proc p" ++ decimal n)) ++ (codes " " ++ decimal parameters))
    ++ (if two then codes " " ++ decimal results else [])) ++ 10 ∷ []
    ≡ old ++ line_text (ProcLine (record {
      name = procedure_name n;
      parameters = decimal parameters;
      results = if two then Some (decimal results) else None;
    }))
head_by true old n parameters results = simp append_assoc
head_by false old n parameters results = simp (append_assoc, append-nil)

-- the number of results is written, or is not, by the version
pub count_two : (numbered counted : List ℕ) (told results real : ℕ) → told ≡ 2 → results ≡ real
    → counted ≡ numbered ++ (codes " " ++ decimal results)
    → counted ≡ numbered ++ (if told == 2 then codes " " ++ decimal real else [])
count_two numbered counted told results real two same count =
    count ∙ (λ i. numbered ++ (if sym two i == 2 then codes " " ++ decimal (same i) else []))

pub count_none : (numbered counted : List ℕ) (told real : ℕ) → told ≢ 2 → counted ≡ numbered
    → counted ≡ numbered ++ (if told == 2 then codes " " ++ decimal real else [])
count_none numbered counted told real other count =
    count ∙ sym (append-nil numbered)
    ∙ ap (λ (two : Bool). numbered ++ (if two then codes " " ++ decimal real else []))
    (sym (not_equal told 2 (told == 2) refl other))

pub head_added : (version : ℕ) (n : ℕ) (q : PlanProcedure) (told parameters : ℕ)
    (old named numbered counted new : List ℕ) → named ≡ old ++ (codes "proc p" ++ decimal n)
    → numbered ≡ named ++ (codes " " ++ decimal parameters)
    → counted ≡ numbered ++ (if told == 2 then codes " " ++ decimal q.results else [])
    → new ≡ counted ++ 10 ∷ [] → told ≡ version → parameters ≡ q.parameters
    → new ≡ old ++ line_text (ProcLine (head_of version n q))
head_added version n q told parameters old named numbered counted new name number count end of_version of_parameters =
    rw (end, count, number, name) (
    head_by (told == 2) old n parameters q.results
    ∙ (λ i. old ++ line_text (ProcLine (record {
      name = procedure_name n;
      parameters = decimal (of_parameters i);
      results = if of_version i == 2 then Some (decimal q.results) else None;
    }))))

pub procedure_added : (places : Bool) (p : Plan) (n : ℕ) (q : PlanProcedure)
    (old headed exited new : List ℕ)
    → headed ≡ old ++ line_text (ProcLine (head_of p.version n q))
    → exited ≡ headed ++ exit_text q.exit
    → AreBlocksAdded p q (if places then Some n else None) exited new
    → IsProcedureAdded places p n q old new
procedure_added places p n q old headed exited new head exit (blocks, are, says) =
    let placed = if places then Some n else None in
    let line = line_text (ProcLine (head_of p.version n q)) in (
      record { head = head_of p.version n q; exit = exit_listed q.exit; blocks = blocks },
      record { head = refl; exit = refl; blocks = are },
      rw (says, exit, head)
          (ap (λ (t : List ℕ). t ++ blocks_text placed 0 blocks) (append_assoc old line (exit_text q.exit)) ∙ append_assoc old (line ++ exit_text q.exit) (blocks_text placed 0 blocks)),
    )

pub title_is : (h : Header) (p : Plan) → IsHeader h p
    → title_text h.version h.name.now h.pieces h.budget ≡ line_text (PlanLine (title_of p))
title_is h p is = λ i. title_text (is.version i) (is.name i) (is.pieces i) (is.budget i)

-- What is written, whatever procedures are next, is the whole of the plan
abbrev pub AreProceduresWritten : Bool → Plan → ℕ → List ℕ → Type 0
AreProceduresWritten places p n text =
    (more : List ProcedureSource)
    → AreProceduresListed p.version (length p.procedures) n (drop n p.procedures) more
    → (s : PlanSource) × IsListed p s
    × (text ++ procedures_text places n more ≡ plan_text places s)

pub procedures_begun : (places : Bool) (p : Plan) (text : List ℕ)
    → text ≡ line_text (PlanLine (title_of p)) → AreProceduresWritten places p 0 text
procedures_begun places p text e more listed = (
  record { title = title_of p; procedures = more },
  record { title = refl; procedures = listed },
  ap (λ (t : List ℕ). t ++ procedures_text places 0 more) e,
)

pub procedure_turn : (places : Bool) (p : Plan) (n next : ℕ) (text new : List ℕ)
    (q : PlanProcedure) → next ≡ suc n → slice_get p.procedures n ≡ Some q
    → AreProceduresWritten places p n text → IsProcedureAdded places p n q text new
    → AreProceduresWritten places p next new
procedure_turn places p n next text new q e here written (s, is, says) more listed =
    let rest = drop next p.procedures in
    let apart = left_at p.procedures n next q e here in
    let both : AreProceduresListed p.version (length p.procedures) n (q ∷ rest) (s ∷ more) =
    (is, subst (λ (k : ℕ). AreProceduresListed p.version (length p.procedures) k rest more) e listed) in
    let (source, are, so) = written (s ∷ more)
    (subst (λ (qs : List PlanProcedure). AreProceduresListed p.version (length p.procedures) n qs (s ∷ more)) (sym apart) both) in (
      source,
      are,
      ap (λ (t : List ℕ). t ++ procedures_text places next more) says
          ∙ append_assoc text (procedure_text places n s) (procedures_text places next more)
          ∙ ap (λ (k : ℕ). text ++ (procedure_text places n s ++ procedures_text places k more)) e
          ∙ so,
    )

pub procedures_end : (places : Bool) (p : Plan) (n : ℕ) (text : List ℕ)
    → length p.procedures ≤ n → AreProceduresWritten places p n text
    → IsListedText places p text
procedures_end places p n text end written =
    let none = drop_all n p.procedures end in
    let (s, is, so) = written []
    (subst (λ (qs : List PlanProcedure). AreProceduresListed p.version (length p.procedures) n qs []) (sym none) tt) in
    (s, is, sym (append-nil text) ∙ so)
