-- Looks are queries that are counted. Kept are the assembly whose pieces they are about, and their number so far.
use Rattle.std.specs.Prelude.{◌≡◌, ℕ, ◌+◌}
use Rattle.burr_assembly.specs.Rules.Text.{Assembly}

pub record Counted : Type 0 where
  pub assembly : Assembly
  pub count : ℕ

abbrev pub counted : Assembly → ℕ → Counted
counted assembly count = record { assembly = assembly; count = count }

-- with this many looks more
abbrev pub with_more : ℕ → Counted → Counted
with_more n looks = record looks { count = looks.count + n }

-- a number of looks was made for which `AreLooks` holds, and nothing else changed
abbrev pub HasCounted : (ℕ → Type 0) → Counted → Counted → Type 0
HasCounted AreLooks old new = (n : ℕ) × AreLooks n × (new ≡ with_more n old)

-- two pieces of an assembly: the one that is displaced, and the other at home
pub record PiecePair : Type 0 where
  pub assembly : Assembly
  pub piece : ℕ
  pub other : ℕ

abbrev pub pair_of : Assembly → ℕ → ℕ → PiecePair
pair_of assembly piece other = record { assembly = assembly; piece = piece; other = other }
