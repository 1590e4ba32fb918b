use Rattle.std.proofs.Common.{List, ℕ, refl, sym, subst, inl, inr, codes, arith}
use Rattle.burr_judge.specs.declared.status.Status.TheVariants.{Done}
use Rattle.burr_program.specs.Commands.{IsContainerListing}
use Rattle.burr_program.proofs.Results.{faulted_so, file_read, put_done, put_fails, read_memory, refused_so, unread}
use Rattle.burr_program.proofs.commands.list.list.Goals as goal

pub returns-in_err-source : goal.returns-in_err-source
returns-in_err-source g c = unread _ _ (0, omega arith, refl) c.in_err-source.ensures.err c.from_residual.ensures.1

pub returns-in_err-container : goal.returns-in_err-container
returns-in_err-container g c =
    refused_so _ (λ text same. (c.bytes.result.now, inl (_, c.in_err-container.ensures, (same, refl)))) (read_memory _) c.from_residual-in_err-container.ensures.1

pub returns-in_err-text : goal.returns-in_err-text
returns-in_err-text g c = faulted_so (codes "no memory\n") (read_memory _ _ refl) c.from_residual-in_err-text.ensures.1

pub returns-in_err-put_all : goal.returns-in_err-put_all
returns-in_err-put_all g c =
    let listing = subst (λ (t : List ℕ). IsContainerListing c.args.places c.in_ok-container.container t) (sym c.deref.ensures.value) c.in_ok-text.ensures in
    put_fails Done (c.bytes.result.now, inr (c.in_ok-container.container, c.in_ok-container.ensures, (listing, refl))) c.in_err-put_all.ensures.puts c.from_residual-in_err-put_all.ensures.1

pub returns : goal.returns
returns g c =
    let listing = subst (λ (t : List ℕ). IsContainerListing c.args.places c.in_ok-container.container t) (sym c.deref.ensures.value) c.in_ok-text.ensures in
    put_done (c.bytes.result.now, refl, file_read c.in_ok-source.source _ _ c.in_ok-source.ensures.ok c.bytes.ensures, refl, inr (c.in_ok-container.container, c.in_ok-container.ensures, (listing, refl)))
    c.in_ok-put_all.ensures.puts
