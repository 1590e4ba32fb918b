-- For crates above: a plan has one spelling, its bytes have no fault, and bytes have one fault at
-- most.
use Rattle.std.proofs.Common.{◌≡◌, ℕ, pred, ◌<◌, ◌≤◌, ◌^◌, ◌&&◌, ◌||◌, ◌==◌, Bool, true, false, IsTrue, nat_le, List, [], ◌∷◌, ◌++◌, length, codes, flat_map, refl, sym, ap, ◌∙◌, arith, append_assoc, append-nil, eqb-true, leb-true, eq-eqb, le-leb}
use Rattle.std.specs.List.{list_all}
use Rattle.std.proofs.lemmas.Bool.{and_parts, and_from, false≢true}
use Rattle.byteorder.specs.Endian.{big_bytes}
use Rattle.burr_code.specs.declared.limits.TheConstants.{MOST_PROCEDURES, MOST_BUDGET}
use Rattle.burr_container.specs.declared.fault.ContainerFault.TheVariants.{C2, C3, C4}
use Rattle.burr_container.specs.Rules.Plans.{PlanProcedure, Plan}
use Rattle.burr_container.specs.Rules.Spelling.{counted_bytes, procedure_bytes, plan_bytes}
use Rattle.burr_container.specs.Rules.Fitting.{is_procedure, are_procedures, is_piece_count, is_name_text, is_version, is_budget, is_fitting}
use Rattle.burr_container.specs.Rules.Faults.{Failing, number, raw, passes, first, procedure, others, each, IsFollowed, name, is_magic}
use Rattle.burr_container.specs.Laws.PlanBytes.{OnePlan, NoFaultOfPlan, OneFault}
use Rattle.burr_container.proofs.Common.Lawful.{Front, Lawful, OfPart, OfFirst, OfNothing, OfEnd, Sound, first_lawful, lawful_as, passes_lawful, end_lawful}
use Rattle.burr_container.proofs.Common.Lists.{OfEach, each_lawful}
use Rattle.burr_container.proofs.Common.Fields.{number_sound, raw_sound, of_number, of_byte}
use Rattle.burr_container.proofs.Common.Procedures.{main_sound, other_sound}

-- The name

abbrev pub is_name_length : ℕ → Bool
is_name_length length = nat_le 1 length && nat_le length 32

abbrev pub OfName : Front (ℕ × List ℕ)
OfName = OfFirst (number 1 C4 is_name_length) (λ length. OfPart (raw length C4 is_name_text))

name_long : (text : List ℕ) → IsTrue (is_name_text text) → 1 ≤ length text
name_long [] is = absurd (false≢true is)
name_long (b ∷ text) is = omega arith

of_name : (text bytes r : List ℕ) → OfPart name text bytes r → (both : ℕ × List ℕ)
    × (both.1 ≡ text) × OfName both bytes r
of_name text bytes r here =
    let short = (and_parts _ (nat_le (length text) 32) here.0).1 in
    let few = leb-true (length text) 32 short in
    let so =
    and_from (nat_le 1 (length text)) (nat_le (length text) 32)
    (le-leb 1 (length text) (name_long text here.0)) short in (
      (length text, text),
      refl,
      (
        text ++ r,
        of_byte C4 is_name_length (length text) bytes (text ++ r) (omega (arith, few)) so here.1,
        (
          and_from (length text == length text) (is_name_text text)
              (eq-eqb (length text) (length text) refl) here.0,
          refl,
        ),
      ),
    )

pub name_sound : Sound name
name_sound =
    lawful_as (λ (both : ℕ × List ℕ). both.1) (OfPart name) OfName name.Fails name.Fails of_name
    (λ at bytes fault fails. fails)
    (first_lawful (number 1 C4 is_name_length) (λ length. OfPart (raw length C4 is_name_text))
    (λ length. (raw length C4 is_name_text).Fails)
    (number_sound 1 C4 is_name_length) (λ length fits. raw_sound length C4 is_name_text))

-- Procedures, and what follows them

abbrev pub Nothing : Type 0
Nothing = Unit {0}

abbrev pub is_procedure_count : ℕ → Bool
is_procedure_count count = nat_le 1 count && nat_le count MOST_PROCEDURES

others_made : (version pieces count : ℕ) (ps : List PlanProcedure) (bytes r : List ℕ)
    → OfPart (others version pieces count) ps bytes r
    → (all : List PlanProcedure) × (all ≡ ps)
    × OfEach count (procedure version pieces false) all bytes r
others_made version pieces count ps bytes r here =
    let parts =
    and_parts (length ps == count) (list_all (is_procedure version pieces false) ps) here.0 in
    (ps, refl, (eqb-true (length ps) count parts.0, parts.1, here.1))

others_sound : (version pieces count : ℕ) → pieces ≤ 32 → Sound (others version pieces count)
others_sound version pieces count few =
    lawful_as (λ (ps : List PlanProcedure). ps) (OfPart (others version pieces count))
    (OfEach count (procedure version pieces false)) (others version pieces count).Fails
    (each count (procedure version pieces false)) (others_made version pieces count)
    (λ at bytes fault fails. fails)
    (each_lawful (procedure version pieces false) count (other_sound version pieces few))

abbrev pub OfOthers : ℕ → ℕ → ℕ → Front Nothing → Front (List PlanProcedure × Nothing)
OfOthers version pieces count Last = OfFirst (others version pieces count) (λ ps. Last)

abbrev pub others_fail : ℕ → ℕ → ℕ → Failing → Failing
others_fail version pieces count last = first (others version pieces count) (λ ps. last)

abbrev pub OfProcedures : ℕ → ℕ → ℕ → Front Nothing
    → Front (PlanProcedure × (List PlanProcedure × Nothing))
OfProcedures version pieces count Last =
    OfFirst (procedure version pieces true) (λ main. OfOthers version pieces (pred count) Last)

abbrev pub procedures_fail : ℕ → ℕ → ℕ → Failing → Failing
procedures_fail version pieces count last =
    first (procedure version pieces true) (λ main. others_fail version pieces (pred count) last)

abbrev pub OfCounted : ℕ → ℕ → Front Nothing
    → Front (ℕ × (PlanProcedure × (List PlanProcedure × Nothing)))
OfCounted version pieces Last =
    OfFirst (number 1 C4 is_procedure_count) (λ count. OfProcedures version pieces count Last)

abbrev pub counted_fail : ℕ → ℕ → Failing → Failing
counted_fail version pieces last =
    first (number 1 C4 is_procedure_count) (λ count. procedures_fail version pieces count last)

counted_lawful : (version pieces : ℕ) (Last : Front Nothing) (last : Failing) → pieces ≤ 32
    → Lawful Last last
    → Lawful (OfCounted version pieces Last) (counted_fail version pieces last)
counted_lawful version pieces Last last few lawful =
    first_lawful (number 1 C4 is_procedure_count) (λ count. OfProcedures version pieces count Last)
    (λ count. procedures_fail version pieces count last) (number_sound 1 C4 is_procedure_count)
    (λ count fits.
    first_lawful (procedure version pieces true)
    (λ main. OfOthers version pieces (pred count) Last)
    (λ main. others_fail version pieces (pred count) last) (main_sound version pieces few)
    (λ main is. first_lawful (others version pieces (pred count)) (λ ps. Last) (λ ps. last)
    (others_sound version pieces (pred count) few) (λ ps are. lawful)))

-- The header

abbrev pub Counted : Type 0
Counted = ℕ × (PlanProcedure × (List PlanProcedure × Nothing))

abbrev pub OfNamed : ℕ → ℕ → Front Nothing → Front (List ℕ × Counted)
OfNamed version pieces Last = OfFirst name (λ text. OfCounted version pieces Last)

abbrev pub named_fails : ℕ → ℕ → Failing → Failing
named_fails version pieces last = first name (λ text. counted_fail version pieces last)

abbrev pub OfPieces : ℕ → Front Nothing → Front (ℕ × (List ℕ × Counted))
OfPieces version Last =
    OfFirst (number 1 C4 is_piece_count) (λ pieces. OfNamed version pieces Last)

abbrev pub pieces_fail : ℕ → Failing → Failing
pieces_fail version last =
    first (number 1 C4 is_piece_count) (λ pieces. named_fails version pieces last)

abbrev pub OfBudget : ℕ → Front Nothing → Front (ℕ × (ℕ × (List ℕ × Counted)))
OfBudget version Last = OfFirst (number 4 C4 is_budget) (λ budget. OfPieces version Last)

abbrev pub budget_fails : ℕ → Failing → Failing
budget_fails version last = first (number 4 C4 is_budget) (λ budget. pieces_fail version last)

abbrev pub OfVersion : Front Nothing → Front (ℕ × (ℕ × (ℕ × (List ℕ × Counted))))
OfVersion Last = OfFirst (number 2 C3 is_version) (λ version. OfBudget version Last)

abbrev pub version_fails : Failing → Failing
version_fails last = first (number 2 C3 is_version) (λ version. budget_fails version last)

-- the values of a container
abbrev pub Values : Type 0
Values = List ℕ × (ℕ × (ℕ × (ℕ × (List ℕ × Counted))))

abbrev pub OfValues : Front Nothing → Front Values
OfValues Last = OfFirst (raw 4 C2 is_magic) (λ magic. OfVersion Last)

abbrev pub values_fail : Failing → Failing
values_fail last = first (raw 4 C2 is_magic) (λ magic. version_fails last)

pieces_few : (pieces : ℕ) → IsTrue (is_piece_count pieces) → pieces ≤ 32
pieces_few pieces are = leb-true pieces 32 (and_parts (nat_le 2 pieces) (nat_le pieces 32) are).1

version_few : (version : ℕ) → IsTrue (is_version version) → version < 256 ^ 2
version_few version is = small_version version (version == 1) (version == 2) refl refl is
  where
    small_version : (version : ℕ) (one two : Bool) → (version == 1) ≡ one → (version == 2) ≡ two
        → IsTrue (one || two) → version < 256 ^ 2
    small_version version true two e f is = let n = eqb-true version 1 e in omega (arith, n)
    small_version version false true e f is = let n = eqb-true version 2 f in omega (arith, n)
    small_version version false false e f is = absurd (false≢true is)

module _ (Last : Front Nothing) (last : Failing) (lawful : Lawful Last last) where
  named_lawful : (version pieces : ℕ) → pieces ≤ 32
      → Lawful (OfNamed version pieces Last) (named_fails version pieces last)
  named_lawful version pieces few =
      first_lawful name (λ text. OfCounted version pieces Last)
      (λ text. counted_fail version pieces last) name_sound
      (λ text fits. counted_lawful version pieces Last last few lawful)

  pieces_lawful : (version : ℕ) → Lawful (OfPieces version Last) (pieces_fail version last)
  pieces_lawful version =
      first_lawful (number 1 C4 is_piece_count) (λ pieces. OfNamed version pieces Last)
      (λ pieces. named_fails version pieces last) (number_sound 1 C4 is_piece_count)
      (λ pieces fits. named_lawful version pieces
      (pieces_few pieces (and_parts _ (is_piece_count pieces) fits).1))

  budget_lawful : (version : ℕ) → Lawful (OfBudget version Last) (budget_fails version last)
  budget_lawful version =
      first_lawful (number 4 C4 is_budget) (λ budget. OfPieces version Last)
      (λ budget. pieces_fail version last) (number_sound 4 C4 is_budget)
      (λ budget fits. pieces_lawful version)

  version_lawful : Lawful (OfVersion Last) (version_fails last)
  version_lawful =
      first_lawful (number 2 C3 is_version) (λ version. OfBudget version Last)
      (λ version. budget_fails version last) (number_sound 2 C3 is_version)
      (λ version fits. budget_lawful version)

  values_lawful : Lawful (OfValues Last) (values_fail last)
  values_lawful =
      first_lawful (raw 4 C2 is_magic) (λ magic. OfVersion Last) (λ magic. version_fails last)
      (raw_sound 4 C2 is_magic) (λ magic fits. version_lawful)

-- Plans

abbrev pub plan_of : Values → Plan
plan_of v =
    record {
      version = v.1.0;
      name = v.1.1.1.1.0;
      pieces = v.1.1.1.0;
      budget = v.1.1.0;
      procedures =
          v.1.1.1.1.1.1.0 ∷ v.1.1.1.1.1.1.1.0;
    }

-- a plan that fits, at the front, and what follows it is so
abbrev pub OfPlan : Front Nothing → Front Plan
OfPlan Last plan bytes r =
    (rest : List ℕ) × IsTrue (is_fitting plan) × (bytes ≡ plan_bytes plan ++ rest) × Last tt rest r

some_main : (version pieces : ℕ) (ps : List PlanProcedure)
    → IsTrue (are_procedures version pieces ps)
    → (main : PlanProcedure) × (more : List PlanProcedure) × (ps ≡ main ∷ more)
    × IsTrue (is_procedure version pieces true main)
    × IsTrue (list_all (is_procedure version pieces false) more)
    × IsTrue (nat_le (length (main ∷ more)) MOST_PROCEDURES)
some_main version pieces [] are = absurd (false≢true are)
some_main version pieces (main ∷ more) are =
    let is = is_procedure version pieces true main in
    let all = list_all (is_procedure version pieces false) more in
    let a = and_parts (is && all) (nat_le (length (main ∷ more)) MOST_PROCEDURES) are in
    let b = and_parts is all a.0 in
    (main, more, refl, b.0, b.1, a.1)

counted_made : (version pieces : ℕ) (Last : Front Nothing) (main : PlanProcedure)
    (more : List PlanProcedure) (bytes rest r : List ℕ)
    → IsTrue (is_procedure version pieces true main)
    → IsTrue (list_all (is_procedure version pieces false) more)
    → IsTrue (nat_le (length (main ∷ more)) MOST_PROCEDURES)
    → bytes ≡ counted_bytes (procedure_bytes version) (main ∷ more) ++ rest → Last tt rest r
    → OfCounted version pieces Last (length (main ∷ more), (main, (more, tt))) bytes r
counted_made version pieces Last main more bytes rest r is are many e last =
    let few = leb-true (length (main ∷ more)) 16 many in
    let so =
    and_from (nat_le 1 (length (main ∷ more))) (nat_le (length (main ∷ more)) MOST_PROCEDURES)
    (le-leb 1 (length (main ∷ more)) (omega arith)) many in
    let others_fit =
    and_from (length more == length more) (list_all (is_procedure version pieces false) more)
    (eq-eqb (length more) (length more) refl) are in
    let after = flat_map (procedure_bytes version) (main ∷ more) ++ rest in (
      after,
      of_byte C4 is_procedure_count (length (main ∷ more)) bytes after (omega (arith, few)) so e,
      (
        flat_map (procedure_bytes version) more ++ rest,
        (
          is,
          append_assoc (procedure_bytes version main) (flat_map (procedure_bytes version) more)
              rest,
        ),
        (rest, (others_fit, refl), last),
      ),
    )

-- the bytes of a plan's procedures
abbrev pub all_bytes_of : Plan → List ℕ
all_bytes_of plan = counted_bytes (procedure_bytes plan.version) plan.procedures

pub plan_apart : (plan : Plan) (rest : List ℕ)
    → plan_bytes plan ++ rest
    ≡ codes
    "BPLN" ++ (big_bytes 2
    plan.version ++ (big_bytes 4
    plan.budget ++ (plan.pieces ∷ length
    plan.name ∷ (plan.name ++ (all_bytes_of plan ++ rest)))))
plan_apart plan rest =
    ap (λ (all : List ℕ). codes
    "BPLN" ++ (big_bytes 2
    plan.version ++ (big_bytes 4 plan.budget ++ (plan.pieces ∷ length plan.name ∷ all))))
    (append_assoc plan.name (all_bytes_of plan) rest)

with_procedures : (plan : Plan) (ps : List PlanProcedure) → plan.procedures ≡ ps
    → record plan { procedures = ps } ≡ plan
with_procedures plan ps e = λ i. record plan { procedures = sym e i }

-- what a plan that fits is asked
pub record PlanFits (plan : Plan) : Type 0 where
  pub version : IsTrue (is_version plan.version)
  pub budget : IsTrue (is_budget plan.budget)
  pub pieces : IsTrue (is_piece_count plan.pieces)
  pub name : IsTrue (is_name_text plan.name)
  pub procedures : IsTrue (are_procedures plan.version plan.pieces plan.procedures)

pub plan_fits : (plan : Plan) → IsTrue (is_fitting plan) → PlanFits plan
plan_fits plan fits =
    let version = is_version plan.version in
    let budget = is_budget plan.budget in
    let pieces = is_piece_count plan.pieces in
    let name = is_name_text plan.name in
    let a =
    and_parts (version && budget && pieces && name)
    (are_procedures plan.version plan.pieces plan.procedures) fits in
    let b = and_parts (version && budget && pieces) name a.0 in
    let c = and_parts (version && budget) pieces b.0 in
    let d = and_parts version budget c.0 in
    record { version = d.0; budget = d.1; pieces = c.1; name = b.1; procedures = a.1 }

of_plan : (Last : Front Nothing) (plan : Plan) (bytes r : List ℕ) → OfPlan Last plan bytes r
    → (v : Values) × (plan_of v ≡ plan) × OfValues Last v bytes r
of_plan Last plan bytes r here =
    let version = plan.version in
    let fits = plan_fits plan here.1 in
    let most =
    leb-true plan.budget MOST_BUDGET
    (and_parts (nat_le 1 plan.budget) (nat_le plan.budget MOST_BUDGET) fits.budget).1 in
    let few = pieces_few plan.pieces fits.pieces in
    let some = some_main version plan.pieces plan.procedures fits.procedures in
    let after_name = all_bytes_of plan ++ here.0 in
    let after_pieces = length plan.name ∷ (plan.name ++ after_name) in
    let after_budget = plan.pieces ∷ after_pieces in
    let after_version = big_bytes 4 plan.budget ++ after_budget in
    let after_magic = big_bytes 2 version ++ after_version in
    let past_name =
    ap (λ (ps : List PlanProcedure). counted_bytes (procedure_bytes version) ps ++ here.0) some.2 in
    let counted =
    counted_made version plan.pieces Last some.0 some.1 after_name here.0 r some.3 some.4 some.5
    past_name here.3 in
    let named : List ℕ × Counted =
    (plan.name, (length (some.0 ∷ some.1), (some.0, (some.1, tt)))) in
    let from_pieces : OfPieces version Last (plan.pieces, named) after_budget r = (
      after_pieces,
      of_byte C4 is_piece_count plan.pieces after_budget after_pieces
          (omega (arith, few)) fits.pieces refl,
      (after_name, (fits.name, refl), counted),
    ) in
    let from_budget : OfBudget version Last (plan.budget, (plan.pieces, named)) after_version r = (
      after_budget,
      of_number 4 C4 is_budget plan.budget after_version after_budget
          (omega (arith, most)) fits.budget refl,
      from_pieces,
    ) in
    let from_version : OfVersion Last (version, (plan.budget, (plan.pieces, named))) after_magic
    r = (
      after_version,
      of_number 2 C3 is_version version after_magic after_version
          (version_few version fits.version) fits.version refl,
      from_budget,
    ) in (
      (codes "BPLN", (version, (plan.budget, (plan.pieces, named)))),
      with_procedures plan _ some.2,
      (after_magic, (refl, here.2 ∙ plan_apart plan here.0), from_version),
    )

plan_lawful : (Last : Front Nothing) (last : Failing) → Lawful Last last
    → Lawful (OfPlan Last) (values_fail last)
plan_lawful Last last lawful =
    lawful_as plan_of (OfPlan Last) (OfValues Last) (values_fail last) (values_fail last)
    (of_plan Last) (λ at bytes fault fails. fails) (values_lawful Last last lawful)

pub one_plan : OnePlan
one_plan p q r s first second e =
    (plan_lawful OfNothing passes passes_lawful).one p q (plan_bytes p ++ r) r s
    (r, first, refl, refl) (s, second, e, refl)

pub no_fault_of_plan : NoFaultOfPlan
no_fault_of_plan bytes fault (plan, fits, e) fails =
    (plan_lawful OfEnd IsFollowed end_lawful).never plan bytes [] 0 fault
    ([], fits, e ∙ sym (append-nil (plan_bytes plan)), (refl, refl)) fails

pub one_fault : OneFault
one_fault bytes a b here also =
    (plan_lawful OfEnd IsFollowed end_lawful).one_fault 0 bytes a b here also
