-- For crates above: the laws of assembly texts, from what is known of their answers.
use Rattle.std.proofs.Common.{◌≡◌, ◌⊎◌, ℕ, List, Result, Ok, Err, refl, sym, inl, inr}
use Rattle.burr_assembly.specs.declared.fault.AssemblyFault.{AssemblyFault}
use Rattle.burr_assembly.specs.Rules.Text.{Assembly, IsText}
use Rattle.burr_assembly.specs.Rules.Faults.{Blank, TextGives, FirstFault}
use Rattle.burr_assembly.specs.Laws.Texts.{OneAssembly, FaultOrAssembly, NoFault, OneFault, ReadsBack, WritesBack}
use Rattle.burr_assembly.proofs.Beginnings.{reached_blank, text_sound}
use Rattle.burr_assembly.proofs.Takes.{text_complete}
use Rattle.burr_assembly.proofs.OneAnswer.{one_text_answer}
use Rattle.burr_assembly.proofs.SomeAnswer.{some_text_answer}

same_ok : (a b : Assembly) → (let given : Result Assembly AssemblyFault = Ok a in given) ≡ Ok b → a ≡ b
same_ok a b e = cc

same_err : (f g : AssemblyFault) → (let given : Result Assembly AssemblyFault = Err f in given) ≡ Err g → f ≡ g
same_err f g e = cc

no_fault : (a : Assembly) (f : AssemblyFault) → (let given : Result Assembly AssemblyFault = Ok a in given) ≡ Err f → ⊥
no_fault a f e = cc

pub one_assembly : OneAssembly
one_assembly text a b of_a of_b = same_ok a b (one_text_answer 1 Blank text (Ok a) (Ok b) (text_complete text a of_a) (text_complete text b of_b))

-- an answer is an assembly or a fault
told : (text : List ℕ) (answer : Result Assembly AssemblyFault) → TextGives 1 Blank text answer → ((a : Assembly) × IsText text a) ⊎ ((fault : AssemblyFault) × FirstFault text fault)
told text (Ok a) gives = inl (a, text_sound 1 Blank text a reached_blank gives)
told text (Err fault) gives = inr (fault, gives)

pub fault_or_assembly : FaultOrAssembly
fault_or_assembly text = let given = some_text_answer 1 Blank text in told text given.0 given.1

pub no_fault_of_assembly : NoFault
no_fault_of_assembly text a fault of_a gives = no_fault a fault (one_text_answer 1 Blank text (Ok a) (Err fault) (text_complete text a of_a) gives)

pub one_fault : OneFault
one_fault text f g of_f of_g = same_err f g (one_text_answer 1 Blank text (Err f) (Err g) of_f of_g)

pub reads_back : ReadsBack
reads_back a b is of_b = one_assembly _ b a of_b (is, refl)

pub writes_back : WritesBack
writes_back text a of_a = sym of_a.1
