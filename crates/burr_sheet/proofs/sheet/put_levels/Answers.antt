use Rattle.std.proofs.Common.{◌<◌, ◌∷◌, [], length, decimal, rules}
use Rattle.burr_io.proofs.Common.Puts.{Puts-more, Puts-fails, Remains-item}
use Rattle.burr_sheet.proofs.LineWords.{levels_word-some}
use Rattle.burr_sheet.proofs.sheet.put_levels.Goals as goal

pub returns-in_err-put_all : goal.returns-in_err-put_all
returns-in_err-put_all g c = Puts-fails _ c.in_err-put_all.ensures.puts c.from_residual.ensures.0

pub loop-level-init : goal.loop-level-init
loop-level-init g c new r put =
    let some : 0 < length c.args.levels.now = search rules in
    Puts-more c.in_ok-put_all.ensures.puts (rw (levels_word-some c.args.levels.now (10 ∷ []) some) put)

pub returns-in_err-put_all-2 : goal.returns-in_err-put_all-2
returns-in_err-put_all-2 g c =
    Remains-item decimal c.args.levels.now _ 0 c.loop-level-test.true _ 46 _ c.loop-level.invariant _ _
    (Puts-fails _ c.in_err-put_all-2.ensures.puts c.from_residual-in_err-put_all-2.ensures.0)

pub returns-in_err-put_number : goal.returns-in_err-put_number
returns-in_err-put_number g c =
    Remains-item decimal c.args.levels.now _ 0 c.loop-level-test.true _ 46 _ c.loop-level.invariant _ _
    (Puts-more c.in_ok-put_all-2.ensures.puts (Puts-fails _ c.in_err-put_number.ensures c.from_residual-in_err-put_number.ensures.0))

pub loop-level-preserved : goal.loop-level-preserved
loop-level-preserved g c new r put =
    Remains-item decimal c.args.levels.now _ 0 c.loop-level-test.true _ 46 _ c.loop-level.invariant new r
    (Puts-more c.in_ok-put_all-2.ensures.puts (Puts-more c.in_ok-put_number.ensures put))
