-- A header, procedures and nothing after them.
use Rattle.std.proofs.Common.{◌≡◌, ◌≢◌, ℕ, [], rules, refl, sym, eqb-true, length, subst₂, ◌∙◌}
use Rattle.std.specs.Prelude.{List}
use Rattle.std.proofs.lemmas.Result.{err_from_is_err_and}
use Rattle.burr_container.specs.declared.fault.ContainerFault.TheVariants.{C6}
use Rattle.burr_container.specs.Rules.Faults.{ContainerFails}
use Rattle.burr_container.proofs.ContainerRead.{none_left, followed, plan_at}
use Rattle.burr_container.proofs.container.Container.parse.Goals as goal

pub returns-in_err-read_procedures : goal.returns-in_err-read_procedures
returns-in_err-read_procedures c =
    let begin = c.new-cursor.ensures in
    let p = err_from_is_err_and c.from_residual-in_err-read_procedures.result c.from_residual-in_err-read_procedures.ensures.1 in
    rw (p.1, p.2)
    (subst₂ (λ (at : ℕ) (b : List ℕ). ContainerFails at b c.in_err-read_procedures.field-0.0) begin.at begin.rest (c.in_ok-header.ensures.reads.fails c.in_err-read_procedures.field-0.0 c.in_err-read_procedures.ensures))

pub returns-then-not-is_empty : goal.returns-then-not-is_empty
returns-then-not-is_empty c =
    let begin = c.new-cursor.ensures in
    let here = c.in_ok-read_procedures.ensures in
    let more : c.read_procedures.new.cursor.rest.now ≢ [] = search rules in
    subst₂ (λ (at : ℕ) (b : List ℕ). ContainerFails at b (C6 c.read_procedures.new.cursor.at)) begin.at begin.rest
    (c.in_ok-header.ensures.reads.fails _
    (followed c.in_ok-header.header.version c.in_ok-header.header.pieces c.header.new.cursor c.read_procedures.new.cursor here.0 here.2 more))

pub returns : goal.returns
returns c =
    let begin = c.new-cursor.ensures in
    let here = c.in_ok-read_procedures.ensures in
    let none : c.read_procedures.new.cursor.rest.now ≡ [] =
    none_left c.read_procedures.new.cursor.rest.now (eqb-true (length c.read_procedures.new.cursor.rest.now) 0 (sym c.if-not-is_empty.ensures)) in
    let plan =
    plan_at c.in_ok-header.header c.new-cursor.result c.header.new.cursor c.read_procedures.new.cursor here.0 c.in_ok-header.ensures.reads here.2 none in (
      _,
      plan.0,
      sym begin.rest ∙ plan.1,
      record {
        header = record { version = refl; budget = refl; pieces = refl; name = refl };
        procedures = here.1;
      },
    )

pub invariant_of-result : goal.invariant_of-result
invariant_of-result c =
    let here = c.in_ok-read_procedures.ensures in
    let none : c.read_procedures.new.cursor.rest.now ≡ [] =
    none_left c.read_procedures.new.cursor.rest.now (eqb-true (length c.read_procedures.new.cursor.rest.now) 0 (sym c.if-not-is_empty.ensures)) in
    let plan =
    plan_at c.in_ok-header.header c.new-cursor.result c.header.new.cursor c.read_procedures.new.cursor here.0 c.in_ok-header.ensures.reads here.2 none in (
      _,
      plan.0,
      record {
        header = record { version = refl; budget = refl; pieces = refl; name = refl };
        procedures = here.1;
      },
    )
