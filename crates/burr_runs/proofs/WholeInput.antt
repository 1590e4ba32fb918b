-- What is written for a whole input.
use Rattle.std.proofs.Common.{◌≡◌, ◌≢◌, ◌≤◌, List, ◌++◌, length, ℕ, ℤ, refl, inl, inr, true, false, arith, length-append}
use Rattle.std.specs.Prelude.{Option, Result, Ok, Err, Bool, IfOk, IfErr, codes}
use Rattle.std.specs.Result.{IsErrAnd}
use Rattle.std.proofs.lemmas.Result.{err_from_is_err_and}
use Rattle.std.specs.Io.KnownBytes.{Consumes}
use Rattle.std.proofs.KnownBytes.{Consumes-trans}
use Rattle.burr_io.specs.Sink.{TakesFront}
use Rattle.burr_assembly.specs.declared.fault.AssemblyFault.{AssemblyFault}
use Rattle.burr_assembly.specs.Rules.Text.{Assembly, IsAssembly}
use Rattle.burr_assembly.specs.Rules.Faults.{FirstFault}
use Rattle.burr_runs.specs.declared.text_runs.Outcome.{Outcome}
use Rattle.burr_runs.specs.declared.text_runs.Outcome.TheVariants.{Refused}
use Rattle.burr_runs.specs.declared.input.BenchFault.{BenchFault}
use Rattle.burr_runs.specs.declared.input.BenchFault.TheVariants.{Read, TooLong, Write, Memory}
use Rattle.burr_state.specs.declared.effect.Motion.{Motion}
use Rattle.burr_state.specs.Rules.Bench.{Program, running, start}
use Rattle.burr_assembly.specs.Rules.Homes.{homes_of}
use Rattle.burr_state.specs.declared.effect.Closing.{Closing}
use Rattle.burr_sheet.specs.Rules.SheetText.{sheet}
use Rattle.burr_runs.specs.Rules.Input.{IsInput}
use Rattle.burr_runs.specs.Rules.Output.{IsSheetOf, outcome_of, IsOutput, IsTextOutput}
use Rattle.burr_runs.specs.Rules.Refusals.{assembly_refusal}
use Rattle.burr_assembly.specs.Rules.Homes.{names_of}
use Rattle.burr_state.specs.Rules.Run.{Run}
use Rattle.burr_runs.specs.Views.ReadWhole.{IsWholeInput, ReadFails}
use Rattle.burr_runs.specs.Views.BenchText.{Outputs, PutsOutput, PutsFrontOfOutput, OutputFails, Streams, Succeeds, Fails}
use Rattle.burr_assembly.proofs.Common.HomeCells.{have_homes}

-- a fault of the sink is the fault `Write`
pub write_fails : {A : Type 0} (IsRight : Outputs) (r : Result A BenchFault) (old new : Option (List ℕ)) (failed : Bool)
    → IsErrAnd r (λ e. e ≡ Write) → PutsFrontOfOutput IsRight old new failed → IfErr r (λ fault. OutputFails IsRight old new failed fault)
write_fails IsRight r old new failed err front = let p = err_from_is_err_and r err in rw (p.1, p.2) front

-- only another fault would leave the sink as it was
pub write_touches : {A : Type 0} (r : Result A BenchFault) (Same : Type 0) → IsErrAnd r (λ e. e ≡ Write) → IfErr r (λ fault. fault ≢ Write → Same)
write_touches r Same err = let p = err_from_is_err_and r err in rw (p.1, p.2) (λ other. absurd (other refl))

-- bytes that are not an input

pub front_of_refused : (old new : Option (List ℕ)) (failed : Bool) (input : List ℕ)
    → ((text code : List ℕ) → ¬ IsInput input text code) → TakesFront old new (codes "refused input\n") → failed ≡ true → PutsFrontOfOutput (IsOutput input) old new failed
front_of_refused old new failed input none front fails = (codes "refused input\n", Refused, inl (none, refl, refl), front, fails)

-- an input that is a text and code

pub text_puts : (old new : Option (List ℕ)) (input text code : List ℕ) (r : Result Outcome BenchFault)
    → IsInput input text code → IfOk r (λ outcome. PutsOutput (IsTextOutput text code) old new outcome) → IfOk r (λ outcome. PutsOutput (IsOutput input) old new outcome)
text_puts old new input text code (Ok outcome) parts (output, is, puts) = (output, inr (text, code, parts, is), puts)
text_puts old new input text code (Err fault) parts puts = tt

pub text_fails : (old new : Option (List ℕ)) (failed : Bool) (input text code : List ℕ) (r : Result Outcome BenchFault)
    → IsInput input text code → IfErr r (λ fault. OutputFails (IsTextOutput text code) old new failed fault) → IfErr r (λ fault. OutputFails (IsOutput input) old new failed fault)
text_fails old new failed input text code (Ok outcome) parts fails = tt
text_fails old new failed input text code (Err Read) parts fails = fails
text_fails old new failed input text code (Err TooLong) parts fails = fails
text_fails old new failed input text code (Err Write) parts (output, outcome, is, front, broke) = (output, outcome, inr (text, code, parts, is), front, broke)
text_fails old new failed input text code (Err Memory) parts fails = fails

-- a text with a fault

pub front_of_fault : (old new : Option (List ℕ)) (failed : Bool) (text code : List ℕ) (fault : AssemblyFault)
    → FirstFault text fault → TakesFront old new (assembly_refusal text fault) → failed ≡ true → PutsFrontOfOutput (IsTextOutput text code) old new failed
front_of_fault old new failed text code fault first front fails = (assembly_refusal text fault, Refused, inl (fault, first, refl, refl), front, fails)

-- an assembly's text

-- what is written of a run is its sheet
pub sheet_of_run : (a : Assembly) (program : Program) (answers : List ℤ) (output : List ℕ) (motions : List Motion) (steps : ℕ) (closing : Closing) → IsAssembly a
    → Run (running (homes_of a) program) program.budget (start (running (homes_of a) program)) answers motions steps closing → output ≡ sheet (names_of a) motions steps closing → IsSheetOf a program answers output (outcome_of closing)
sheet_of_run a program answers output motions steps closing whole run text =
    record { homes = homes_of a; cells = have_homes a whole; motions = motions; steps = steps; closing = closing; run = run; text = text; closes = refl }

-- a fault is no outcome
pub no_outcome : {A E : Type 0} (P : A → Type 0) (Q : E → Type 0) (r : Result A E) → IsErrAnd r Q → IfOk r P
no_outcome P Q r err = let p = err_from_is_err_and r err in rw p.1 tt

-- The source was not read to its end

-- memory was refused for what it gave last
pub keeping_fails : {A : Type 0} (old mid new : Option (List ℕ)) (failed : Bool) (bytes more : List ℕ) (r : Result A BenchFault) → IsErrAnd r (λ e. e ≡ Memory)
    → Consumes old mid bytes → length bytes ≤ 16777216 → Consumes mid new more → length more ≤ 8192 → failed ≡ false
    → IfErr r (λ fault. ReadFails old new failed fault)
keeping_fails old mid new failed bytes more r err gave short gave_more short_more went =
    let p = err_from_is_err_and r err in
    let size = length-append bytes more in
    rw (p.1, p.2) (went, (bytes ++ more, omega (arith, size, short, short_more), Consumes-trans old mid new bytes more gave gave_more))

-- The whole input was read

pub whole_succeeds : (s : Streams) (input : List ℕ) (r : Result Outcome BenchFault)
    → IsWholeInput s.left_old s.left_new s.read_failed input → IfOk r (λ outcome. PutsOutput (IsOutput input) s.taken_old s.taken_new outcome) → IfOk r (λ outcome. Succeeds s outcome)
whole_succeeds s input (Ok outcome) whole puts = (input, whole, puts)
whole_succeeds s input (Err fault) whole puts = tt

pub whole_fails : (s : Streams) (input : List ℕ) (r : Result Outcome BenchFault)
    → IsWholeInput s.left_old s.left_new s.read_failed input → IfErr r (λ fault. OutputFails (IsOutput input) s.taken_old s.taken_new s.write_failed fault) → IfErr r (λ fault. Fails s fault)
whole_fails s input (Ok outcome) whole fails = tt
whole_fails s input (Err Read) whole fails = absurd fails
whole_fails s input (Err TooLong) whole fails = absurd fails
whole_fails s input (Err Write) whole fails = (input, whole, fails)
whole_fails s input (Err Memory) whole fails =
    let short = whole.short in ((whole.went, (input, omega (arith, short), whole.gave)), fails)
