-- One more slot is taken at the point.
use Rattle.std.proofs.Common.{◌≡◌, ℕ, ◌∙◌, sym, subst, get_or, None, arith}
use Rattle.std.specs.Prelude.{option_map, slice_set}
use Rattle.std.proofs.lemmas.List.{length-set}
use Rattle.burr_forms.specs.Rules.Forms.{value}
use Rattle.burr_verify.proofs.PointNumbers.{one_more}
use Rattle.burr_verify.proofs.point_state.slots_at.Goals as goal

pub loop-v-preserved : goal.loop-v-preserved
loop-v-preserved c =
    let wanted = λ (n : ℕ). option_map (value c.args.symbols.now.items) (get_or c.args.state.now.slots n None) in
    record {
      first = λ n below.
          subst (λ (k : ℕ). get_or (slice_set c.loop-v.slots k c.slot_at.result) n None ≡ wanted n) (sym c.from.ensures)
          (one_more wanted c.loop-v.slots c.loop-v.v c.slot_at.result (omega (arith, c.loop-v.invariant.many, c.loop-v-test.true)) c.loop-v.invariant.first
          (sym c.slot_at.ensures) n below);
      many = length-set c.loop-v.slots c.from.result c.slot_at.result ∙ c.loop-v.invariant.many;
    }
