-- The laws of plan texts.
use Rattle.std.proofs.Common.{map, zero, suc, ◌+◌, ◌≤◌, ◌==◌, length, Bool, true, false, [], ◌∷◌, ◌++◌, subst, arith, ◌≡◌, ◌⊎◌, inl, inr, ℕ, List, refl, sym, ap, ◌∙◌, if◌then◌else◌, slice_index_or, Result, Ok, Err}
use Rattle.burr_container.specs.Rules.Plans.{Plan}
use Rattle.burr_plantext.specs.Rules.Written.{pieces, parted, in_first}
use Rattle.burr_plantext.specs.Rules.Sources.{PlanSource}
use Rattle.burr_plantext.specs.Rules.Meaning.{plan_of}
use Rattle.burr_plantext.specs.Rules.Texts.{numbered_from, is_skipped, ended_line, LineRead, lines_read, line_number, IsTextOf, StandsFor}
use Rattle.burr_plantext.specs.Rules.Checks.{FaultKind}
use Rattle.burr_plantext.specs.Rules.Faults.{PlacedFault, HasFault, judgement}
use Rattle.burr_plantext.specs.Laws.PlanTexts.{OnePlan, JudgedSource, FaultOrPlan, NoFaultOfPlan, OneFault, FaultIsInText}
use Rattle.burr_plantext.proofs.Texts.Complete.{source_judged}
use Rattle.burr_plantext.proofs.Texts.Sound.{judged_source}

-- what a text of a source is judged to be
pub text_judged : (text : List ℕ) (s : PlanSource) → IsTextOf text s → judgement (lines_read text) ≡ Ok s
text_judged text s h = ap (λ (lines : List LineRead). judgement lines) h.lines ∙ source_judged s h.right

same_err : {f g : PlacedFault} → ◌≡◌ {A = Result PlanSource PlacedFault} (Err f) (Err g) → f ≡ g
same_err e = cc

pub one_source : (text : List ℕ) (s t : PlanSource) → IsTextOf text s → IsTextOf text t → s ≡ t
one_source text s t h k = let e = sym (text_judged text s h) ∙ text_judged text t k in cc

pub one_plan : OnePlan
one_plan text p q (s, h, e) (t, k, f) = e ∙ ap plan_of (one_source text s t h k) ∙ sym f

pub judged_text : JudgedSource
judged_text text s e = let h = judged_source (lines_read text) s e in record { right = h.0; lines = h.1 }

pub fault_or_plan : FaultOrPlan
fault_or_plan text = by (judgement (lines_read text)) refl
  where
    by : (r : Result PlanSource PlacedFault) → judgement (lines_read text) ≡ r → ((p : Plan) × StandsFor text p) ⊎ ((kind : FaultKind) × (line : ℕ) × HasFault text kind line)
    by (Ok s) e = inl (plan_of s, (s, judged_text text s e, refl))
    by (Err f) e = inr (f.0, line_number text f.1, record { place = f.1; found = e; number = refl })

pub no_fault_of_plan : NoFaultOfPlan
no_fault_of_plan text p kind line (s, h, e) fault = let e = sym (text_judged text s h) ∙ fault.found in cc

pub one_fault : OneFault
one_fault text kind other line next a b =
    let same : ◌≡◌ {A = PlacedFault} (kind, a.place) (other, b.place) = same_err (sym a.found ∙ b.found) in
    (ap (λ (f : PlacedFault). f.0) same, a.number ∙ ap (λ (f : PlacedFault). line_number text f.1) same ∙ sym b.number)

-- Lines are counted from 1

numbers_from : (n : ℕ) (ps : List (List ℕ)) (place last : ℕ) → 1 ≤ n → 1 ≤ last → n + length ps ≤ suc last
    → (1 ≤ slice_index_or (map (λ (l : ℕ × LineRead). l.0) (numbered_from n ps)) place last) × (slice_index_or (map (λ (l : ℕ × LineRead). l.0) (numbered_from n ps)) place last ≤ last)
numbers_from n (line ∷ next ∷ more) place last low some high =
    by (is_skipped line) place (λ place. numbers_from (suc n) (next ∷ more) place last (omega arith) some (omega arith))
  where
    by : (t : Bool) (place : ℕ)
        → ((place : ℕ) → (1 ≤ slice_index_or (map (λ (l : ℕ × LineRead). l.0) (numbered_from (suc n) (next ∷ more))) place last) × (slice_index_or (map (λ (l : ℕ × LineRead). l.0) (numbered_from (suc n) (next ∷ more))) place last ≤ last))
        → (1 ≤ slice_index_or (map (λ (l : ℕ × LineRead). l.0) ((if t then [] else (n, ended_line line) ∷ []) ++ numbered_from (suc n) (next ∷ more))) place last)
        × (slice_index_or (map (λ (l : ℕ × LineRead). l.0) ((if t then [] else (n, ended_line line) ∷ []) ++ numbered_from (suc n) (next ∷ more))) place last ≤ last)
    by true place h = h place
    by false zero h = (low, omega arith)
    by false (suc place) h = h place
numbers_from n ((b ∷ line) ∷ []) zero last low some high = (low, omega arith)
numbers_from n _ place last low some high = (some, omega arith)

some_piece : (c : ℕ) (bytes : List ℕ) → 1 ≤ length (pieces c bytes)
some_piece c [] = omega arith
some_piece c (b ∷ bytes) = by (b == c) (pieces c bytes)
  where
    first : (rest : List (List ℕ)) → 1 ≤ length (in_first b rest)
    first [] = omega arith
    first (p ∷ rest) = omega arith

    by : (t : Bool) (rest : List (List ℕ)) → 1 ≤ length (parted t b rest)
    by true rest = omega arith
    by false rest = first rest

pub fault_is_in_text : FaultIsInText
fault_is_in_text text kind line fault =
    let last = length (pieces 10 text) in
    let some = some_piece 10 text in
    let h = numbers_from 1 (pieces 10 text) fault.place last (omega arith) some (omega arith) in
    subst (λ (n : ℕ). (1 ≤ n) × (n ≤ last)) (sym fault.number) h
