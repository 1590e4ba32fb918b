-- A label is read each turn.
use Rattle.std.proofs.Common.{inl, ◌-◌, ◌+◌, List, ℕ, arith, refl, sym, subst}
use Rattle.std.specs.Prelude.{Some}
use Rattle.std.proofs.lemmas.Result.{err_from_is_err_and}
use Rattle.burr_container.specs.Views.Readable.{starts_at}
use Rattle.burr_container.proofs.Kept.{all_readable}
use Rattle.burr_container.proofs.LabelsWalk.{IsLabelsWalk, labels_go_on, labels_fail_on, labels_end, labels_at, labels_fail_at, came_on, came_to, starts_more, within_more}
use Rattle.burr_container.specs.Rules.Faults.{is_next_label}
use Rattle.burr_container.proofs.reading.parts.labels.Goals as goal

pub returns-in_err-count : goal.returns-in_err-count
returns-in_err-count c =
    let p = err_from_is_err_and c.from_residual.result c.from_residual.ensures.1 in
    rw (p.1, p.2) (inl c.in_err-count.ensures)

pub returns-in_err-position : goal.returns-in_err-position
returns-in_err-position c =
    let p = err_from_is_err_and c.from_residual-in_err-position.result c.from_residual-in_err-position.ensures.1 in
    let fails =
    labels_fail_on c.args.layout.pieces c.in_ok-count.count c.word_within.new.cursor c.loop.counter
    (starts_at c.word_within.new.cursor.rest.now c.loop.begins.items) c.loop.last c.loop.cursor (omega arith)
    c.loop.invariant.0 _ c.in_err-position.ensures in
    rw (p.1, p.2)
    (labels_fail_at c.args.layout.pieces c.in_ok-count.count c.args.cursor.now c.word_within.new.cursor _ c.in_ok-count.ensures fails)

pub loop-preserved : goal.loop-preserved
loop-preserved c =
    let label = c.in_ok-position.ensures in
    let pieces = c.args.layout.pieces in
    let begin = c.word_within.new.cursor in
    let cursor = c.loop.cursor in
    let next = c.label.new.cursor in
    let old = c.loop.begins.items in
    let came = c.loop.invariant.1 in
    let to = came_to begin c.loop.counter cursor came in
    let walk =
    labels_go_on pieces c.in_ok-count.count begin c.loop.counter (starts_at begin.rest.now old) c.loop.last cursor (omega arith)
    c.loop.invariant.0 label.0 c.in_ok-position.position next label.1 label.2 in
    rw c.push.ensures.items (
      subst
          (λ (starts : List (List ℕ)). IsLabelsWalk pieces c.in_ok-count.count begin (c.loop.counter + 1) starts (Some c.in_ok-position.position) next)
          (sym (starts_more begin c.loop.counter cursor old came)) walk,
      came_on (is_next_label c.loop.last) pieces c.args.layout.few begin c.loop.counter cursor next label.0 came label.2,
      within_more begin.rest.now old (cursor.at - begin.at) c.loop.invariant.2 to.2,
    )

pub returns : goal.returns
returns c =
    let all =
    labels_end c.args.layout.pieces c.in_ok-count.count c.word_within.new.cursor c.loop.counter
    (starts_at c.word_within.new.cursor.rest.now c.loop.begins.items) c.loop.last c.loop.cursor (omega arith)
    c.loop.invariant.0 in (
      all.0,
      record { of_plan = refl; labels = all.2; last = all.3 },
      labels_at c.args.layout.pieces c.in_ok-count.count c.args.cursor.now c.word_within.new.cursor c.loop.cursor all.0 c.in_ok-count.ensures all.1
          c.loop.invariant.0.after,
    )

pub invariant_of-table : goal.invariant_of-table
invariant_of-table c =
    let starts = starts_at c.word_within.new.cursor.rest.now c.loop.begins.items in
    let all = labels_end c.args.layout.pieces c.in_ok-count.count c.word_within.new.cursor c.loop.counter starts c.loop.last c.loop.cursor (omega arith)
    c.loop.invariant.0 in
    record { within = c.loop.invariant.2; readable = all_readable c.args.layout.pieces c.args.layout.few starts all.0 all.2 }
