use Rattle.std.proofs.Common.{List, ℕ, refl, inl}
use Rattle.std.specs.Prelude.{string_bytes}
use Rattle.burr_io.proofs.Common.Puts.{Puts-more}
use Rattle.burr_program.proofs.Results.{notes_fail, notes_put}
use Rattle.burr_program.proofs.commands.frames.put_left.Goals as goal

pub returns-in_err-put_all-in-Some : goal.returns-in_err-put_all-in-Some
returns-in_err-put_all-in-Some g c =
    notes_fail (Puts-more c.in_ok-put-in-Some.ensures c.in_err-put_all-in-Some.ensures.puts) c.from_residual-in_err-put_all-in-Some.ensures.1

pub returns : goal.returns
returns g c = notes_put (Puts-more c.in_ok-put-in-Some.ensures c.in_ok-put_all-in-Some.ensures.puts)
