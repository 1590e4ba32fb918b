use Rattle.burr_assembly.proofs.text.beginning.Beginning.finish.Goals as goal

pub returns-clause-homes : goal.returns-clause-homes
returns-clause-homes c = rw (c.in-Pieces.is, c.into_pieces.ensures) (λ home. home)
