-- Each plan has a listing, and no other.
use Rattle.std.proofs.Common.{◌≡◌, ℕ, zero, suc, ◌≤◌, ◌⊎◌, inl, inr, List, [], ◌∷◌, ◌++◌, length, Bool, true, false, IsTrue, refl, sym, ap, subst, ◌∙◌, arith, length-append}
use Rattle.std.proofs.lemmas.List.{append_cancel_left}
use Rattle.burr_code.specs.Instruction.{Instruction, IsInRange, Begins, StandsAt, spelled}
use Rattle.burr_container.specs.Rules.Plans.{Frame, PlanProcedure, Plan}
use Rattle.burr_plantext.specs.Rules.Statements.{Statement, Byte}
use Rattle.burr_plantext.specs.Rules.Sources.{Block, ProcedureSource, PlanSource, source_lines}
use Rattle.burr_plantext.specs.Rules.Writing.{text_of}
use Rattle.burr_plantext.specs.Rules.Listing.{label_name, frame_listed, exit_listed, instruction_listed, has_names, MayBeListed, IsListedAs, IsListedRaw, IsCodeListed, code_after, AreBlocksListed, head_of, title_of, AreProceduresListed, IsListed, IsListing}
use Rattle.burr_text.proofs.Common.Cuts.{same_head, same_tail}
use Rattle.burr_code.proofs.Common.Reading.{one_begins, stands_or_none}
use Rattle.burr_plantext.proofs.Common.CodeSizes.{some_bytes}
use Rattle.burr_plantext.proofs.Common.Pieces.{not_both}

nil_cons : (b : ℕ) (r : List ℕ) → [] ≡ b ∷ r → ⊥
nil_cons b r e = cc

-- each instruction has a byte
no_first : (i : Instruction) (r : List ℕ) → [] ≡ spelled i ++ r → ⊥
no_first i r e = let some = some_bytes i in omega (arith, some, ap (λ (all : List ℕ). length all) e, length-append (spelled i) r)

-- One

module _ (labels procedures : ℕ) where
  -- the first line, and what is after it
  same_first : (bytes : List ℕ) (s t : Statement) (r q : List ℕ) → IsListedAs labels procedures bytes s r ⊎ IsListedRaw labels procedures bytes s r
      → IsListedAs labels procedures bytes t q ⊎ IsListedRaw labels procedures bytes t q → (s ≡ t) × (r ≡ q)
  same_first bytes s t r q (inl (i, may, e, is)) (inl (j, also, f, are)) =
      let same : i ≡ j = one_begins bytes i j may.in_range also.in_range (r, e) (q, f) in
      let rest : spelled j ++ r ≡ spelled j ++ q = ap (λ (k : Instruction). spelled k ++ r) (sym same) ∙ sym e ∙ f in
      (is ∙ ap instruction_listed same ∙ sym are, append_cancel_left (spelled j) r q rest)
  same_first bytes s t r q (inl (i, may, e, is)) (inr (none, b, f, are)) = absurd (none i may (r, e))
  same_first bytes s t r q (inr (none, b, e, is)) (inl (j, also, f, are)) = absurd (none j also (q, f))
  same_first bytes s t r q (inr (none, b, e, is)) (inr (nor, c, f, are)) =
      let both : b ∷ r ≡ c ∷ q = sym e ∙ f in
      (is ∙ ap Byte (same_head b c r q both) ∙ sym are, same_tail b c r q both)

  -- bytes are after no listed line of none
  nothing_listed : (bytes : List ℕ) (s : Statement) (r : List ℕ) → bytes ≡ [] → IsListedAs labels procedures bytes s r ⊎ IsListedRaw labels procedures bytes s r → ⊥
  nothing_listed bytes s r none (inl (i, may, e, is)) = no_first i r (sym none ∙ e)
  nothing_listed bytes s r none (inr (nor, b, e, is)) = nil_cons b r (sym none ∙ e)

  same_code : (code also : List Statement) (bytes : List ℕ) → IsCodeListed labels procedures bytes code → IsCodeListed labels procedures bytes also → code ≡ also
  same_code [] [] bytes h k = refl
  same_code [] (t ∷ also) bytes h k = absurd (nothing_listed bytes t k.0 h k.1)
  same_code (s ∷ code) [] bytes h k = absurd (nothing_listed bytes s h.0 k h.1)
  same_code (s ∷ code) (t ∷ also) bytes h k =
      let first = same_first bytes s t h.0 k.0 h.1 k.1 in
      let rest = same_code code also k.0 (subst (λ (r : List ℕ). IsCodeListed labels procedures r code) first.1 h.2) k.2 in
      λ i. first.0 i ∷ rest i

  same_blocks : (bytes : List ℕ) (n : ℕ) (all : List (ℕ × Frame)) (blocks also : List Block) → AreBlocksListed labels procedures bytes n all blocks → AreBlocksListed labels procedures bytes n all also → blocks ≡ also
  same_blocks bytes n [] [] [] h k = refl
  same_blocks bytes n [] [] (c ∷ also) h k = absurd k
  same_blocks bytes n [] (b ∷ blocks) also h k = absurd h
  same_blocks bytes n (l ∷ all) [] also h k = absurd h
  same_blocks bytes n (l ∷ all) (b ∷ blocks) [] h k = absurd k
  same_blocks bytes n (l ∷ all) (b ∷ blocks) (c ∷ also) h k =
      let name = h.0 ∙ sym k.0 in
      let frame = h.1 ∙ sym k.1 in
      let code = same_code b.code c.code (code_after bytes l.0 all) h.2 k.2 in
      let rest = same_blocks bytes (suc n) all blocks also h.3 k.3 in
      λ i. record { label = name i; frame = frame i; code = code i } ∷ rest i

same_procedures : (version all n : ℕ) (ps : List PlanProcedure) (sources also : List ProcedureSource) → AreProceduresListed version all n ps sources → AreProceduresListed version all n ps also → sources ≡ also
same_procedures version all n [] [] [] h k = refl
same_procedures version all n [] [] (t ∷ also) h k = absurd k
same_procedures version all n [] (s ∷ sources) also h k = absurd h
same_procedures version all n (p ∷ ps) [] also h k = absurd h
same_procedures version all n (p ∷ ps) (s ∷ sources) [] h k = absurd k
same_procedures version all n (p ∷ ps) (s ∷ sources) (t ∷ also) h k =
    let head = h.0.head ∙ sym k.0.head in
    let exit = h.0.exit ∙ sym k.0.exit in
    let blocks = same_blocks (length p.labels) all p.code 0 p.labels s.blocks t.blocks h.0.blocks k.0.blocks in
    let rest = same_procedures version all (suc n) ps sources also h.1 k.1 in
    λ i. record { head = head i; exit = exit i; blocks = blocks i } ∷ rest i

same_source : (plan : Plan) (s t : PlanSource) → IsListed plan s → IsListed plan t → s ≡ t
same_source plan s t h k =
    let title = h.title ∙ sym k.title in
    let procedures = same_procedures plan.version (length plan.procedures) 0 plan.procedures s.procedures t.procedures h.procedures k.procedures in
    λ i. record { title = title i; procedures = procedures i }

pub one_listing : (plan : Plan) (a b : List ℕ) → IsListing plan a → IsListing plan b → a ≡ b
one_listing plan a b (s, h, e) (t, k, f) = e ∙ ap (λ (s : PlanSource). text_of (source_lines s)) (same_source plan s t h k) ∙ sym f

-- Some

module _ (labels procedures : ℕ) where
  abbrev SomeCode : List ℕ → Type 0
  SomeCode bytes = (code : List Statement) × IsCodeListed labels procedures bytes code

  -- the first byte, where no instruction may be listed
  raw_first : (b : ℕ) (bytes : List ℕ) → ((i : Instruction) → MayBeListed labels procedures i → ¬ Begins (b ∷ bytes) i) → SomeCode bytes → SomeCode (b ∷ bytes)
  raw_first b bytes none (code, h) = (Byte b ∷ code, (bytes, inr (none, b, refl, refl), h))

  by_names : (t : Bool) (b : ℕ) (bytes : List ℕ) (i : Instruction) (rest : List ℕ) → has_names labels procedures i ≡ t → IsInRange i → b ∷ bytes ≡ spelled i ++ rest → SomeCode rest → SomeCode bytes → SomeCode (b ∷ bytes)
  by_names true b bytes i rest named range e more other = (instruction_listed i ∷ more.0, (rest, inl (i, record { in_range = range; names = named }, e, refl), more.1))
  by_names false b bytes i rest named range e more other =
      raw_first b bytes (λ j may begins. not_both (has_names labels procedures i) (subst (λ (k : Instruction). IsTrue (has_names labels procedures k)) (one_begins (b ∷ bytes) j i may.in_range range begins (rest, e)) may.names) named) other

  -- by the number of bytes that are left
  some_code : (fuel : ℕ) (bytes : List ℕ) → length bytes ≤ fuel → SomeCode bytes
  some_code fuel [] few = ([], refl)
  some_code zero (b ∷ bytes) few = absurd (omega arith)
  some_code (suc fuel) (b ∷ bytes) few = by (stands_or_none (b ∷ bytes) 0) (some_code fuel bytes (omega arith)) (λ rest small. some_code fuel rest small)
    where
      by : ((i : Instruction) × StandsAt (b ∷ bytes) 0 i) ⊎ ((i : Instruction) → ¬ StandsAt (b ∷ bytes) 0 i) → SomeCode bytes → ((rest : List ℕ) → length rest ≤ fuel → SomeCode rest) → SomeCode (b ∷ bytes)
      by (inl (i, stands)) other more =
          let rest = stands.begins.0 in
          let size = ap (λ (s : List ℕ). length s) stands.begins.1 in
          let some = some_bytes i in
          by_names (has_names labels procedures i) b bytes i rest refl stands.in_range stands.begins.1 (more rest (omega (arith, size, some, length-append (spelled i) rest))) other
      by (inr none) other more = raw_first b bytes (λ i may begins. none i (record { in_range = may.in_range; begins = begins })) other

  some_blocks : (bytes : List ℕ) (n : ℕ) (all : List (ℕ × Frame)) → (blocks : List Block) × AreBlocksListed labels procedures bytes n all blocks
  some_blocks bytes n [] = ([], tt)
  some_blocks bytes n (l ∷ all) =
      let here = code_after bytes l.0 all in
      let code = some_code (length here) here (omega arith) in
      let more = some_blocks bytes (suc n) all in
      (record { label = label_name n; frame = frame_listed l.1; code = code.0 } ∷ more.0, (refl, refl, code.1, more.1))

some_procedures : (version all n : ℕ) (ps : List PlanProcedure) → (sources : List ProcedureSource) × AreProceduresListed version all n ps sources
some_procedures version all n [] = ([], tt)
some_procedures version all n (p ∷ ps) =
    let blocks = some_blocks (length p.labels) all p.code 0 p.labels in
    let more = some_procedures version all (suc n) ps in
    (record { head = head_of version n p; exit = exit_listed p.exit; blocks = blocks.0 } ∷ more.0, (record { head = refl; exit = refl; blocks = blocks.1 }, more.1))

pub some_listing : (plan : Plan) → (text : List ℕ) × IsListing plan text
some_listing plan =
    let procedures = some_procedures plan.version (length plan.procedures) 0 plan.procedures in
    let s : PlanSource = record { title = title_of plan; procedures = procedures.0 } in
    (text_of (source_lines s), (s, record { title = refl; procedures = procedures.1 }, refl))
