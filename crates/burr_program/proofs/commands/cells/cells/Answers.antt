use Rattle.std.proofs.Common.{◌∙◌, refl, inl, inr, codes, arith}
use Rattle.burr_judge.specs.declared.status.Status.TheVariants.{Done}
use Rattle.burr_judge.specs.Stops.{RefusesText}
use Rattle.burr_judge.proofs.Common.Results.{handed}
use Rattle.burr_program.proofs.Results.{faulted_so, file_read, put_done, put_fails, read_memory, refused_so, unread}
use Rattle.burr_program.proofs.commands.cells.cells.Goals as goal

pub returns-in_err-drawing : goal.returns-in_err-drawing
returns-in_err-drawing g c = unread _ _ (0, omega arith, refl) c.in_err-drawing.ensures.err c.from_residual.ensures.1

pub returns-in_err-assembly : goal.returns-in_err-assembly
returns-in_err-assembly g c =
    refused_so (RefusesText c.bytes.result.now) (λ text (fault, first, same). (c.bytes.result.now, inl (fault, first, (same, refl)))) (read_memory _)
    (handed _ _ _ c.in_err-assembly.ensures.err c.from_residual-in_err-assembly.ensures.1)

pub returns-in_err-text : goal.returns-in_err-text
returns-in_err-text g c = faulted_so (codes "no memory\n") (read_memory _ _ refl) c.from_residual-in_err-text.ensures.1

pub returns-in_err-put_all : goal.returns-in_err-put_all
returns-in_err-put_all g c =
    put_fails Done (c.bytes.result.now, inr (_, c.in_ok-assembly.ensures.ok, (c.deref.ensures.value ∙ c.in_ok-text.ensures, refl))) c.in_err-put_all.ensures.puts c.from_residual-in_err-put_all.ensures.1

pub returns : goal.returns
returns g c =
    put_done (c.bytes.result.now, file_read c.in_ok-drawing.drawing _ _ c.in_ok-drawing.ensures.ok c.bytes.ensures, refl, refl, inr (_, c.in_ok-assembly.ensures.ok, (c.deref.ensures.value ∙ c.in_ok-text.ensures, refl)))
    c.in_ok-put_all.ensures.puts
