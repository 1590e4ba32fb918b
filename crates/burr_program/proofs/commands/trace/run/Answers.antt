use Rattle.std.proofs.Common.{List, ℕ, [], refl, subst, sym}
use Rattle.std.specs.Prelude.{codes}
use Rattle.std.proofs.lemmas.List.{append-nil}
use Rattle.burr_io.proofs.Common.Puts.{Puts-more}
use Rattle.burr_lines.specs.FilledTexts.{IsFilledIn}
use Rattle.burr_judge.specs.PlanEnds.{TryEnds}
use Rattle.burr_judge.specs.declared.tasks.Task.TheVariants.{Try}
use Rattle.burr_judge.specs.Stops.{IsFault}
use Rattle.burr_judge.proofs.Common.Results.{handed, put_ends, put_fails, wants_memory}
use Rattle.burr_program.proofs.Noted.{container_noted, noted_refused, plan_text_noted, task_noted, text_noted, traced}
use Rattle.burr_program.proofs.commands.trace.run.Goals as goal

pub returns-in_err-framed : goal.returns-in_err-framed
returns-in_err-framed g c = wants_memory (handed _ (IsFault (codes "no memory\n")) _ c.in_err-framed.ensures.err c.from_residual-in_err-framed.ensures.1)

pub returns-in_err-tables : goal.returns-in_err-tables
returns-in_err-tables g c =
    let filled = subst (λ (text : List ℕ). IsFilledIn text c.in_ok-framed.framed.items) c.bytes-2.ensures c.in_ok-framed.ensures.ok in
    traced filled (text_noted Try c.args.answers.now c.in_err-tables.ensures.err c.from_residual-in_err-tables.ensures.1)

pub returns-in_err-bytes : goal.returns-in_err-bytes
returns-in_err-bytes g c =
    let filled = subst (λ (text : List ℕ). IsFilledIn text c.deref.result.now) c.bytes-2.ensures (subst (λ (text : List ℕ). IsFilledIn c.bytes-2.result.now text) (sym c.deref.ensures.value) c.in_ok-framed.ensures.ok) in
    traced filled (plan_text_noted Try c.args.answers.now c.in_ok-tables.tables.assembly c.deref.result.now c.in_ok-tables.ensures.ok refl c.in_err-bytes.ensures.err c.from_residual-in_err-bytes.ensures.1)

pub returns-in_err-container : goal.returns-in_err-container
returns-in_err-container g c =
    let filled = subst (λ (text : List ℕ). IsFilledIn text c.deref.result.now) c.bytes-2.ensures (subst (λ (text : List ℕ). IsFilledIn c.bytes-2.result.now text) (sym c.deref.ensures.value) c.in_ok-framed.ensures.ok) in
    traced filled (container_noted Try c.args.answers.now c.in_ok-tables.tables.assembly c.deref.result.now c.deref-2.result.now _ c.in_ok-tables.ensures.ok refl (rw c.deref-2.ensures.value c.in_ok-bytes.ensures.ok) c.in_err-container.ensures c.from_residual-in_err-container.ensures.1)

pub returns-in_err-status : goal.returns-in_err-status
returns-in_err-status g c =
    let filled = subst (λ (text : List ℕ). IsFilledIn text c.deref.result.now) c.bytes-2.ensures (subst (λ (text : List ℕ). IsFilledIn c.bytes-2.result.now text) (sym c.deref.ensures.value) c.in_ok-framed.ensures.ok) in
    traced filled (task_noted Try c.args.answers.now c.in_ok-tables.tables.assembly c.deref.result.now c.deref-2.result.now c.in_ok-container.container c.in_ok-tables.ensures.ok refl (rw c.deref-2.ensures.value c.in_ok-bytes.ensures.ok) c.in_ok-container.ensures
    (noted_refused _ (λ line is. is) c.in_err-status.ensures.err c.from_residual-in_err-status.ensures.1))

pub returns-in_err-put_all : goal.returns-in_err-put_all
returns-in_err-put_all g c =
    let filled = subst (λ (text : List ℕ). IsFilledIn text c.deref.result.now) c.bytes-2.ensures (subst (λ (text : List ℕ). IsFilledIn c.bytes-2.result.now text) (sym c.deref.ensures.value) c.in_ok-framed.ensures.ok) in
    let ends : TryEnds c.in_ok-container.container c.in_ok-tables.tables.assembly c.args.answers.now c.deref-4.result.now c.in_ok-status.status = rw c.deref-4.ensures.value c.in_ok-status.ensures.ok in
    traced filled (task_noted Try c.args.answers.now c.in_ok-tables.tables.assembly c.deref.result.now c.deref-2.result.now c.in_ok-container.container c.in_ok-tables.ensures.ok refl (rw c.deref-2.ensures.value c.in_ok-bytes.ensures.ok) c.in_ok-container.ensures
    (put_fails c.in_ok-status.status (c.deref-4.result.now, [], sym (append-nil c.deref-4.result.now), ends) c.in_err-put_all.ensures.puts c.from_residual-in_err-put_all.ensures.1))

pub returns-in_err-put_all-2 : goal.returns-in_err-put_all-2
returns-in_err-put_all-2 g c =
    let filled = subst (λ (text : List ℕ). IsFilledIn text c.deref.result.now) c.bytes-2.ensures (subst (λ (text : List ℕ). IsFilledIn c.bytes-2.result.now text) (sym c.deref.ensures.value) c.in_ok-framed.ensures.ok) in
    let ends : TryEnds c.in_ok-container.container c.in_ok-tables.tables.assembly c.args.answers.now c.deref-4.result.now c.in_ok-status.status = rw c.deref-4.ensures.value c.in_ok-status.ensures.ok in
    traced filled (task_noted Try c.args.answers.now c.in_ok-tables.tables.assembly c.deref.result.now c.deref-2.result.now c.in_ok-container.container c.in_ok-tables.ensures.ok refl (rw c.deref-2.ensures.value c.in_ok-bytes.ensures.ok) c.in_ok-container.ensures
    (put_fails c.in_ok-status.status (c.deref-4.result.now, _, refl, ends) (Puts-more c.in_ok-put_all.ensures.puts c.in_err-put_all-2.ensures.puts) c.from_residual-in_err-put_all-2.ensures.1))

pub returns : goal.returns
returns g c =
    let filled = subst (λ (text : List ℕ). IsFilledIn text c.deref.result.now) c.bytes-2.ensures (subst (λ (text : List ℕ). IsFilledIn c.bytes-2.result.now text) (sym c.deref.ensures.value) c.in_ok-framed.ensures.ok) in
    let ends : TryEnds c.in_ok-container.container c.in_ok-tables.tables.assembly c.args.answers.now c.deref-4.result.now c.in_ok-status.status = rw c.deref-4.ensures.value c.in_ok-status.ensures.ok in
    traced filled (task_noted Try c.args.answers.now c.in_ok-tables.tables.assembly c.deref.result.now c.deref-2.result.now c.in_ok-container.container c.in_ok-tables.ensures.ok refl (rw c.deref-2.ensures.value c.in_ok-bytes.ensures.ok) c.in_ok-container.ensures
    (put_ends (c.deref-4.result.now, _, refl, ends) (Puts-more c.in_ok-put_all.ensures.puts c.in_ok-put_all-2.ensures.puts)))
