-- The fields of the header stand one after the other.
use Rattle.std.proofs.Common.{refl, inl}
use Rattle.std.proofs.lemmas.Result.{err_from_is_err_and}
use Rattle.burr_container.proofs.HeaderRead.{version_fails_next, budget_fails_next, piece_count_fails, name_fails, header_at}
use Rattle.burr_container.proofs.reading.parts.header.Goals as goal

pub returns-in_err-magic-clause-reads : goal.returns-in_err-magic-clause-reads
returns-in_err-magic-clause-reads c =
    let p = err_from_is_err_and c.from_residual.result c.from_residual.ensures.1 in
    rw (p.1, p.2) (inl c.in_err-magic.ensures)

pub returns-in_err-version-clause-reads : goal.returns-in_err-version-clause-reads
returns-in_err-version-clause-reads c =
    let magic = c.in_ok-magic.ensures in
    let p = err_from_is_err_and c.from_residual-in_err-version.result c.from_residual-in_err-version.ensures.1 in
    rw (p.1, p.2)
    (version_fails_next c.args.cursor.now c.magic.new.cursor magic.0 magic.1 _ c.in_err-version.ensures)

pub returns-in_err-budget-clause-reads : goal.returns-in_err-budget-clause-reads
returns-in_err-budget-clause-reads c =
    let magic = c.in_ok-magic.ensures in
    let p = err_from_is_err_and c.from_residual-in_err-budget.result c.from_residual-in_err-budget.ensures.1 in
    rw (p.1, p.2)
    (budget_fails_next c.args.cursor.now c.magic.new.cursor c.version.new.cursor magic.0 c.in_ok-version.version magic.1
    c.in_ok-version.ensures _ c.in_err-budget.ensures)

pub returns-in_err-pieces-clause-reads : goal.returns-in_err-pieces-clause-reads
returns-in_err-pieces-clause-reads c =
    let magic = c.in_ok-magic.ensures in
    let p = err_from_is_err_and c.from_residual-in_err-pieces.result c.from_residual-in_err-pieces.ensures.1 in
    rw (p.1, p.2)
    (piece_count_fails c.args.cursor.now c.magic.new.cursor c.version.new.cursor c.budget.new.cursor magic.0
    c.in_ok-version.version c.in_ok-budget.budget magic.1 c.in_ok-version.ensures c.in_ok-budget.ensures _ c.in_err-pieces.ensures)

pub returns-in_err-name-clause-reads : goal.returns-in_err-name-clause-reads
returns-in_err-name-clause-reads c =
    let magic = c.in_ok-magic.ensures in
    let p = err_from_is_err_and c.from_residual-in_err-name.result c.from_residual-in_err-name.ensures.1 in
    rw (p.1, p.2)
    (name_fails c.args.cursor.now c.magic.new.cursor c.version.new.cursor c.budget.new.cursor magic.0
    c.in_ok-version.version c.in_ok-budget.budget magic.1 c.in_ok-version.ensures c.in_ok-budget.ensures c.byte_within.new.cursor
    c.in_ok-pieces.pieces c.in_ok-pieces.ensures _ c.in_err-name.ensures)

pub returns-clause-reads : goal.returns-clause-reads
returns-clause-reads c =
    let magic = c.in_ok-magic.ensures in
    header_at c.args.cursor.now c.magic.new.cursor c.version.new.cursor c.budget.new.cursor magic.0
    c.in_ok-version.version c.in_ok-budget.budget magic.1 c.in_ok-version.ensures c.in_ok-budget.ensures c.byte_within.new.cursor
    c.in_ok-pieces.pieces c.in_ok-pieces.ensures c.name.new.cursor c.in_ok-name.name.now c.in_ok-name.ensures _ refl refl refl refl
