use Rattle.std.proofs.Common.{◌≡◌, ◌≢◌, ◌∙◌, ℕ, List, ap₂, refl, subst}
use Rattle.std.specs.Prelude.{codes}
use Rattle.burr_assembly.specs.declared.fault.AssemblyFault.{AssemblyFault}
use Rattle.burr_assembly.specs.declared.fault.AssemblyFault.TheVariants.{A8, Memory}
use Rattle.burr_assembly.specs.Rules.FaultNames.{fault_code, fault_line}
use Rattle.burr_io.specs.Sink.{Puts}
use Rattle.burr_runs.specs.Rules.Refusals.{assembly_refusal, place_line}
use Rattle.burr_runs.proofs.lines.put_assembly_refusal.Goals as goal

-- a fault of one place, by its code and its line
placed : (text : List ℕ) (fault : AssemblyFault) → ((line earlier piece : ℕ) → fault ≡ A8 line earlier piece → ⊥) → fault ≢ Memory
    → place_line (fault_code fault) (codes "line") (fault_line fault) ≡ assembly_refusal text fault
placed text (A8 line earlier piece) other some = absurd (other line earlier piece refl)
placed text Memory other some = absurd (some refl)
placed text fault other some = refl

pub returns-in-Some : goal.returns-in-Some
returns-in-Some g c =
    let (some, code, line) = c.in-Some.ensures in
    subst (λ (text : List ℕ). Puts g.W.Sink c.args.sink.now c.put_place_line.new.sink text c.put_place_line.result)
    (ap₂ (λ (x : List ℕ) (n : ℕ). place_line x (codes "line") n) (c.as_bytes.ensures.value ∙ code) line ∙ placed c.args.text.now c.args.fault c.in_default.not-A8 some)
    c.put_place_line.ensures
