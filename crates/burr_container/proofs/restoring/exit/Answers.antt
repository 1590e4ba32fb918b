-- The plan has the exit frame that is read, or none either.
use Rattle.burr_container.proofs.RestoredPlans.{no_exit, its_exit}
use Rattle.burr_container.proofs.restoring.exit.Goals as goal

pub returns-in-None : goal.returns-in-None
returns-in-None c p q of at = no_exit p.pieces q.parameters q.results q.exit (c.in-None.ensures p q of at)

pub returns-in_ok-of-in-Some : goal.returns-in_ok-of-in-Some
returns-in_ok-of-in-Some c p q of at =
    its_exit p.pieces q.parameters q.results c.in-Some.exit q.exit c.in_ok-of-in-Some.field-0 (c.in-Some.ensures p q of at)
    c.in_ok-of-in-Some.ensures
