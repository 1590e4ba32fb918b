-- A text read line by line: what the rest gives after a beginning, the whole text gives.
use Rattle.std.proofs.Common.{◌≡◌, ◌≢◌, ◌<◌, ◌≤◌, ◌+◌, ℕ, suc, List, [], ◌∷◌, ◌++◌, length, Result, Ok, Err, sym, ◌∙◌, ap, subst, append_assoc, append-nil, length-append, arith}
use Rattle.burr_assembly.specs.declared.fault.AssemblyFault.{AssemblyFault}
use Rattle.burr_assembly.specs.declared.fault.AssemblyFault.TheVariants.{A1}
use Rattle.burr_assembly.specs.Rules.Text.{Assembly, IsText}
use Rattle.burr_assembly.specs.Rules.Faults.{Beginning, Blank, LineGives, EndGives, TextGives, ends, breaks_off, fails, goes_on, FirstFault}
use Rattle.burr_text.specs.Lines.{IsUnended}
use Rattle.burr_assembly.proofs.Beginnings.{IsReached, beginning_text, line_keeps, end_is_text}

-- how far a text is read: the lines so far are a beginning, and what the rest gives the text gives
pub record IsReadTo (text : List ℕ) (n : ℕ) (so_far : Beginning) (rest : List ℕ) : Type 0 where
  pub lines : n + length rest ≤ length text + 1
  pub begins : IsReached so_far
  pub parts : beginning_text so_far ++ rest ≡ text
  pub gives : (answer : Result Assembly AssemblyFault) → TextGives n so_far rest answer → TextGives 1 Blank text answer

-- the rest has no end of a line
pub breaks : (text : List ℕ) (n : ℕ) (so_far : Beginning) (rest : List ℕ) → IsReadTo text n so_far rest → 0 < length rest → IsUnended rest → FirstFault text (A1 n)
breaks text n so_far rest read some unended =
    let full : rest ≢ [] = λ none. absurd (no_length rest none some) in
    read.gives (Err (A1 n)) (breaks_off n so_far rest full unended)
  where
    no_length : (xs : List ℕ) → xs ≡ [] → 0 < length xs → ⊥
    no_length xs none more = let count : length xs ≡ 0 = ap length none in omega arith

-- the next line has a fault
pub line_fails : (text : List ℕ) (n : ℕ) (so_far : Beginning) (rest bytes more : List ℕ) (fault : AssemblyFault)
    → IsReadTo text n so_far rest → rest ≡ bytes ++ 10 ∷ more → IsUnended bytes → LineGives n so_far bytes (Err fault) → FirstFault text fault
line_fails text n so_far rest bytes more fault read cut unended gives =
    read.gives (Err fault) (subst (λ (r : List ℕ). TextGives n so_far r (Err fault)) (sym cut) (fails n so_far bytes more fault unended gives))

-- the next line is right
pub line_goes : (text : List ℕ) (n : ℕ) (so_far next : Beginning) (rest bytes more : List ℕ)
    → IsReadTo text n so_far rest → rest ≡ bytes ++ 10 ∷ more → IsUnended bytes → LineGives n so_far bytes (Ok next) → IsReadTo text (n + 1) next more
line_goes text n so_far next rest bytes more read cut unended gives =
    let kept = line_keeps n so_far next bytes read.begins gives in
    record {
      lines = shorter (length rest) (length bytes) (length more) (length text) n read.lines (ap length cut ∙ length-append bytes (10 ∷ more));
      begins = kept.0;
      parts = regrouped (beginning_text so_far) (beginning_text next) bytes more rest text kept.1 cut read.parts;
      gives = λ answer after. read.gives answer (subst (λ (r : List ℕ). TextGives n so_far r answer) (sym cut) (goes_on n so_far next bytes more answer unended gives after));
    }
  where
    shorter : (r b m t n : ℕ) → n + r ≤ t + 1 → r ≡ b + suc m → (n + 1) + m ≤ t + 1
    shorter r b m t n bound count = omega arith

    regrouped : (before after bytes more rest text : List ℕ) → after ≡ before ++ bytes ++ 10 ∷ [] → rest ≡ bytes ++ 10 ∷ more → before ++ rest ≡ text → after ++ more ≡ text
    regrouped before after bytes more rest text grown parted whole = rw grown (simp append_assoc (ap (λ (r : List ℕ). before ++ r) (sym parted) ∙ whole))

-- the text ends, and that is a fault
pub end_fails : (text : List ℕ) (n : ℕ) (so_far : Beginning) (rest : List ℕ) (fault : AssemblyFault) → IsReadTo text n so_far rest → length rest ≡ 0 → EndGives n so_far (Err fault) → FirstFault text fault
end_fails text n so_far [] fault read none gives = read.gives (Err fault) (ends n so_far (Err fault) gives)
end_fails text n so_far (b ∷ rest) fault read none gives = absurd (omega arith)

-- the text ends, and is an assembly's
pub end_reads : (text : List ℕ) (n : ℕ) (so_far : Beginning) (rest : List ℕ) (a : Assembly) → IsReadTo text n so_far rest → length rest ≡ 0 → EndGives n so_far (Ok a) → IsText text a
end_reads text n so_far [] a read none gives =
    let told = end_is_text n so_far a read.begins gives in
    (told.0, sym read.parts ∙ append-nil (beginning_text so_far) ∙ sym told.1)
end_reads text n so_far (b ∷ rest) a read none gives = absurd (omega arith)
