-- Line by line: what has been read of a text, and what is left of it.
use Rattle.std.proofs.Common.{◌≡◌, inl, inr, ℕ, suc, ◌+◌, ◌<◌, ◌≤◌, List, [], ◌∷◌, ◌++◌, length, map, Bool, true, false, Contains, refl, sym, ap, subst, ◌∙◌, arith, length-append, append_assoc, append-nil}
use Rattle.std.specs.Prelude.{Result, Ok, Err, slice_index_or, if◌then◌else◌}
use Rattle.burr_text.specs.Words.{IsCutAt}
use Rattle.burr_container.specs.Rules.Plans.{Plan}
use Rattle.burr_plantext.specs.Rules.Written.{pieces}
use Rattle.burr_plantext.specs.Rules.Sources.{PlanSource}
use Rattle.burr_plantext.specs.Rules.Right.{unknown_names, first_true}
use Rattle.burr_plantext.specs.Rules.Texts.{LineRead, lines_read, line_number, numbered_lines, numbered_from, last_line, is_skipped, ended_line, unended_line}
use Rattle.burr_plantext.specs.Rules.Faults.{Beginning, Blank, PlacedFault, LineResult, with_line, with_lines, and_next, with_known_names, judgement}
use Rattle.burr_plantext.proofs.Common.TextLines.{numbered_cut, numbered_last, number_here, number_at_end, pieces_count}
use Rattle.burr_asm.specs.declared.fault.AsmFault.{AsmFault}
use Rattle.burr_asm.specs.declared.text.front.Front.{Front}
use Rattle.burr_asm.specs.declared.text.front.Front.TheVariants.{AwaitsPlan}
use Rattle.burr_asm.specs.Views.Fronts.{IsFront, IsFaultOf, IsPlanOf, ending}
use Rattle.burr_asm.specs.Views.FrontSteps.{GivesNext, GivesFault, EndsText}

-- the lines themselves
abbrev reads_of : List (ℕ × LineRead) → List LineRead
reads_of lines = map (λ (l : ℕ × LineRead). l.1) lines

-- what follows a line
abbrev after_line : ℕ → LineResult → List LineRead → Result PlanSource PlacedFault
after_line place given lines = and_next given (λ next. with_lines (suc place) next lines)

-- So far the lines of the text have led from nothing to what has been read.
pub record IsReading (text rest : List ℕ) (line : ℕ) (f : Front) : Type 0 where
  pub place : ℕ
  pub so_far : Beginning
  pub before : List (ℕ × LineRead)
  pub lines : numbered_lines text ≡ before ++ numbered_from line (pieces 10 rest)
  pub count : length before ≡ place
  pub judged : with_lines 0 Blank (lines_read text) ≡ with_lines place so_far (reads_of (numbered_from line (pieces 10 rest)))
  pub front : IsFront (line_number text) place f so_far
  pub left : line + length (pieces 10 rest) ≡ suc (length (pieces 10 text))

-- each line has its end
pub line_ends : (text rest bytes more : List ℕ) (line : ℕ) → IsCutAt 10 rest bytes more → line + length rest ≤ length text + 1 → (line + 1) + length more ≤ length text + 1
line_ends text rest bytes more line cut h =
    omega (arith, ap (λ (w : List ℕ). length w) cut.parts, length-append bytes (10 ∷ more), h)

pub nothing_read : (text : List ℕ) (f : Front) → f ≡ AwaitsPlan → IsReading text text 1 f
nothing_read text f due =
    let front : IsFront (line_number text) 0 f Blank = subst (λ (g : Front). IsFront (line_number text) 0 g Blank) (sym due) refl in
    record { place = 0; so_far = Blank; before = []; lines = refl; count = refl; judged = refl; front = front; left = omega arith }

module _ (text rest : List ℕ) (line : ℕ) (f : Front) (h : IsReading text rest line f) where
  -- the next line has this number
  number_of_next : (read : LineRead) (more : List (ℕ × LineRead)) → numbered_from line (pieces 10 rest) ≡ (line, read) ∷ more → line ≡ line_number text h.place
  number_of_next read more e =
      sym (
      ap (λ (ls : List (ℕ × LineRead)). slice_index_or (map (λ (l : ℕ × LineRead). l.0) ls) h.place (length (pieces 10 text))) (h.lines ∙ ap (λ (ls : List (ℕ × LineRead)). h.before ++ ls) e)
      ∙ ap (λ (n : ℕ). slice_index_or (map (λ (l : ℕ × LineRead). l.0) (h.before ++ ((line, read) ∷ more))) n (length (pieces 10 text))) (sym h.count)
      ∙ number_here h.before more line (length (pieces 10 text)) read
      )

  judged_next : (read : LineRead) (more : List (ℕ × LineRead)) → numbered_from line (pieces 10 rest) ≡ (line, read) ∷ more
      → with_lines 0 Blank (lines_read text) ≡ after_line h.place (with_line h.place h.so_far read) (reads_of more)
  judged_next read more e = h.judged ∙ ap (λ (ls : List (ℕ × LineRead)). with_lines h.place h.so_far (reads_of ls)) e

  -- a fault of the next line is that of the text
  fault_of_next : (read : LineRead) (more : List (ℕ × LineRead)) (at : PlacedFault) → numbered_from line (pieces 10 rest) ≡ (line, read) ∷ more → with_line h.place h.so_far read ≡ Err at
      → judgement (lines_read text) ≡ Err at
  fault_of_next read more at e fault =
      ap (λ (r : Result PlanSource PlacedFault). and_next r (λ s. with_known_names s (first_true (unknown_names s))))
      (judged_next read more e ∙ ap (λ (r : LineResult). after_line h.place r (reads_of more)) fault)

  -- What follows an end of a line is read next, where the line gives no fault.
  pub read_on : (bytes more : List ℕ) (next : Front) (k : ℕ) → k ≡ suc line → IsCutAt 10 rest bytes more → GivesNext f bytes line (Ok next) → IsReading text more k next
  read_on bytes more next k after cut gives = subst (λ (n : ℕ). IsReading text more n next) (sym after) (by (is_skipped bytes) refl)
    where
      rest_of : List (ℕ × LineRead)
      rest_of = numbered_from (suc line) (pieces 10 more)

      left_is : suc line + length (pieces 10 more) ≡ suc (length (pieces 10 text))
      left_is = let n = pieces_count rest bytes more cut in let k = h.left in omega (arith, n, k)

      by : (t : Bool) → is_skipped bytes ≡ t → IsReading text more (suc line) next
      by true e =
          let same : ◌≡◌ {A = List (ℕ × LineRead)} (numbered_from line (pieces 10 rest)) rest_of = numbered_cut line rest bytes more cut ∙ ap (λ (t : Bool). (if t then [] else (line, ended_line bytes) ∷ []) ++ rest_of) e in
          record {
            place = h.place;
            so_far = h.so_far;
            before = h.before;
            lines = h.lines ∙ ap (λ (ls : List (ℕ × LineRead)). h.before ++ ls) same;
            count = h.count;
            judged = h.judged ∙ ap (λ (ls : List (ℕ × LineRead)). with_lines h.place h.so_far (reads_of ls)) same;
            front = subst (λ (g : Front). IsFront (line_number text) h.place g h.so_far) (sym (same_front (gives.0 e))) h.front;
            left = left_is;
          }
        where
          same_front : ◌≡◌ {A = Result Front AsmFault} (Ok next) (Ok f) → next ≡ f
          same_front e = cc
      by false e =
          let same : ◌≡◌ {A = List (ℕ × LineRead)} (numbered_from line (pieces 10 rest)) ((line, ended_line bytes) ∷ rest_of) = numbered_cut line rest bytes more cut ∙ ap (λ (t : Bool). (if t then [] else (line, ended_line bytes) ∷ []) ++ rest_of) e in
          let given = gives.1 e (line_number text) h.place h.so_far (number_of_next (ended_line bytes) rest_of same) h.front in
          record {
            place = suc h.place;
            so_far = given.0;
            before = h.before ++ ((line, ended_line bytes) ∷ []);
            lines = h.lines ∙ ap (λ (ls : List (ℕ × LineRead)). h.before ++ ls) same ∙ sym (append_assoc h.before ((line, ended_line bytes) ∷ []) rest_of);
            count = length-append h.before ((line, ended_line bytes) ∷ []) ∙ (let k = h.count in omega (arith, k));
            judged = judged_next (ended_line bytes) rest_of same ∙ ap (λ (r : LineResult). after_line h.place r (reads_of rest_of)) given.1;
            front = given.2;
            left = left_is;
          }

  -- A fault of a line with its end.
  pub next_fails : (bytes more : List ℕ) (e : AsmFault) → IsCutAt 10 rest bytes more → GivesNext f bytes line (Err e) → IsFaultOf (line_number text) (judgement (lines_read text)) e
  next_fails bytes more fault cut gives = by (is_skipped bytes) refl
    where
      rest_of : List (ℕ × LineRead)
      rest_of = numbered_from (suc line) (pieces 10 more)

      never : ◌≡◌ {A = Result Front AsmFault} (Err fault) (Ok f) → ⊥
      never e = cc

      by : (t : Bool) → is_skipped bytes ≡ t → IsFaultOf (line_number text) (judgement (lines_read text)) fault
      by true e = absurd (never (gives.0 e))
      by false e =
          let same : ◌≡◌ {A = List (ℕ × LineRead)} (numbered_from line (pieces 10 rest)) ((line, ended_line bytes) ∷ rest_of) = numbered_cut line rest bytes more cut ∙ ap (λ (t : Bool). (if t then [] else (line, ended_line bytes) ∷ []) ++ rest_of) e in
          told same (gives.1 e (line_number text) h.place h.so_far (number_of_next (ended_line bytes) rest_of same) h.front)
        where
          told : ◌≡◌ {A = List (ℕ × LineRead)} (numbered_from line (pieces 10 rest)) ((line, ended_line bytes) ∷ rest_of) → IsFaultOf (line_number text) (with_line h.place h.so_far (ended_line bytes)) fault
              → IsFaultOf (line_number text) (judgement (lines_read text)) fault
          told same (inl memory) = inl memory
          told same (inr (at, given, is)) = inr (at, fault_of_next (ended_line bytes) rest_of at same given, is)

  -- A fault of a last line that has no end.
  pub last_fails : (e : AsmFault) → 0 < length rest → ¬ Contains rest 10 → GivesFault f (unended_line rest) line e → IsFaultOf (line_number text) (judgement (lines_read text)) e
  last_fails e some uncut gives =
      let same : ◌≡◌ {A = List (ℕ × LineRead)} (numbered_from line (pieces 10 rest)) ((line, unended_line rest) ∷ []) = numbered_last line rest uncut ∙ last_of rest some in
      let given = gives (line_number text) h.place h.so_far (number_of_next (unended_line rest) [] same) h.front in
      inr (given.0, fault_of_next (unended_line rest) [] given.0 same given.1, given.2)
    where
      last_of : (w : List ℕ) → 0 < length w → last_line line w ≡ (line, unended_line w) ∷ []
      last_of [] h = absurd (omega (arith, h))
      last_of (b ∷ w) h = refl

  -- The end of the text.
  pub text_ends : (result : Result Plan AsmFault) → length rest ≡ 0 → EndsText f line result → IsPlanOf (line_number text) (judgement (lines_read text)) result
  text_ends result nothing ends =
      let none = is_nothing rest nothing in
      let same : ◌≡◌ {A = List (ℕ × LineRead)} (numbered_from line (pieces 10 rest)) [] = ap (λ (w : List ℕ). numbered_from line (pieces 10 w)) none in
      let all : numbered_lines text ≡ h.before = h.lines ∙ ap (λ (ls : List (ℕ × LineRead)). h.before ++ ls) same ∙ append-nil h.before in
      let last : line ≡ length (pieces 10 text) = (let k = h.left in let one = ap (λ (w : List ℕ). length (pieces 10 w)) none in omega (arith, k, one)) in
      let number : line ≡ line_number text h.place =
      last
      ∙ sym (ap (λ (ls : List (ℕ × LineRead)). slice_index_or (map (λ (l : ℕ × LineRead). l.0) ls) h.place (length (pieces 10 text))) all
      ∙ ap (λ (n : ℕ). slice_index_or (map (λ (l : ℕ × LineRead). l.0) h.before) n (length (pieces 10 text))) (sym h.count)
      ∙ number_at_end h.before (length (pieces 10 text))) in
      let whole : judgement (lines_read text) ≡ ending h.place h.so_far =
      ap (λ (r : Result PlanSource PlacedFault). and_next r (λ s. with_known_names s (first_true (unknown_names s))))
      (h.judged ∙ ap (λ (ls : List (ℕ × LineRead)). with_lines h.place h.so_far (reads_of ls)) same) in
      subst (λ (r : Result PlanSource PlacedFault). IsPlanOf (line_number text) r result) (sym whole) (ends (line_number text) h.place h.so_far number h.front)
    where
      is_nothing : (w : List ℕ) → length w ≡ 0 → w ≡ []
      is_nothing [] e = refl
      is_nothing (b ∷ w) e = absurd (omega (arith, e))
