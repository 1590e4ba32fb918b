use Rattle.std.proofs.Common.{◌≡◌, take, length}
use Rattle.std.specs.Prelude.{map, neg_ℤ}
use Rattle.burr_frames.proofs.state.instructions.negated.Given as goal

-- the first ones are the other way
abbrev pub invariant-loop-symbol : goal.invariant-loop-symbol
invariant-loop-symbol l = record {
  first : take l.symbol l.coefs ≡ map neg_ℤ (take l.symbol l.form.coefs);
  many : length l.coefs ≡ 8;
}
