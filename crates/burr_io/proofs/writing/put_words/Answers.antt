use Rattle.std.proofs.Common.{◌∷◌, [], map}
use Rattle.burr_io.proofs.Common.Puts.{Puts-more, Puts-fails, Remains-item, joined-join}
use Rattle.burr_io.proofs.writing.put_words.Goals as goal

pub loop-word-init : goal.loop-word-init
loop-word-init g c new r put = rw (joined-join 32 (map (λ w. w.now) c.args.words.now) (10 ∷ [])) put

pub returns-in_err-put_all : goal.returns-in_err-put_all
returns-in_err-put_all g c =
    Remains-item _ c.args.words.now _ c.loop-word.separator c.loop-word-test.true _ 32 _ c.loop-word.invariant _ _
    (Puts-fails _ c.in_err-put_all.ensures.puts c.from_residual.ensures.0)

pub returns-in_err-put_all-2 : goal.returns-in_err-put_all-2
returns-in_err-put_all-2 g c =
    Remains-item _ c.args.words.now _ _ c.loop-word-test.true _ 32 _ c.loop-word.invariant _ _
    (Puts-more c.in_ok-put_all.ensures.puts (Puts-fails _ c.in_err-put_all-2.ensures.puts c.from_residual-in_err-put_all-2.ensures.0))

pub loop-word-preserved : goal.loop-word-preserved
loop-word-preserved g c new r put =
    Remains-item _ c.args.words.now _ _ c.loop-word-test.true _ 32 _ c.loop-word.invariant new r
    (Puts-more c.in_ok-put_all.ensures.puts (Puts-more c.in_ok-put_all-2.ensures.puts put))
