use Rattle.std.proofs.Common.{◌≡◌, ◌<◌, ℕ, length, get_or, None}
use Rattle.std.specs.Prelude.{option_map}
use Rattle.burr_forms.specs.Rules.Forms.{value}
use Rattle.burr_verify.proofs.point_state.slots_at.Given as goal

-- the first slots are taken at the point
abbrev pub invariant-loop-v : goal.invariant-loop-v
invariant-loop-v l = record {
  first : (n : ℕ) → n < l.v → get_or l.slots n None ≡ option_map (value l.symbols.items) (get_or l.state.slots n None);
  many : length l.slots ≡ 8;
}
