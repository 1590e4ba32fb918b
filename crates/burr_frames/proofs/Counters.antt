-- The checks of a counter, one after the other, and what follows them.
use Rattle.std.proofs.Common.{◌≡◌, ◌≤◌, get_or, inl, inr, arith}
use Rattle.std.specs.Prelude.{ℕ, ◌<◌, length, slice_get, Option, Some, None, Ok, Err, IfSome, IfOk}
use Rattle.std.specs.Option.{ok_or}
use Rattle.burr_forms.specs.Rules.Forms.{Form, one_less, IsSmallForm}
use Rattle.burr_container.specs.Rules.Plans.{Frame}
use Rattle.burr_frames.specs.declared.rule.Break.{Break}
use Rattle.burr_frames.specs.declared.rule.Rule.TheVariants as rules
use Rattle.burr_frames.specs.Rules.FramedPlans.{FramedProcedure}
use Rattle.burr_frames.specs.Rules.States.{AbstractState}
use Rattle.burr_frames.specs.Rules.Verdicts.{Broken, Verdict, Breaks, FallsThrough, Rest, falls_through, arriving}
use Rattle.burr_frames.specs.Rules.ControlRules.{lowering, counting_down, counted_down, counted_out}
use Rattle.burr_frames.specs.Views.Breaks.{broken_of, plain_break, FindsCounter}
use Rattle.burr_frames.specs.Views.Changes.{at_cost}

-- the state that has paid for a step
abbrev pub paid_for : AbstractState → AbstractState
paid_for s = at_cost (one_less s.cost) s

-- what is known of the slot, or nothing
pub known_or : (here : FramedProcedure) (s : AbstractState) (v : ℕ) (known : Option Form) (b : Break) → here.parameters ≤ v
    → get_or s.slots v None ≡ known → broken_of b ≡ plain_break rules.EmptySlot → FindsCounter here s v (ok_or known b)
known_or here s v None b own e is = inr (own, e, is)
known_or here s v (Some f) b own e is = (own, e)

pub small_or : (known : Option Form) (b : Break) → IfSome known IsSmallForm → IfOk (ok_or known b) IsSmallForm
small_or None b small = small
small_or (Some f) b small = small

-- Lowering

-- a counter that can't be lowered, whatever follows
pub lowering_breaks : (s : AbstractState) (f : Form) (next : AbstractState → AbstractState) (rest : AbstractState → Rest) (broken : Broken)
    → lowering s f (λ paid. falls_through (next paid)) (Breaks broken) → lowering s f rest (Breaks broken)
lowering_breaks s f next rest broken (inl large) = inl large
lowering_breaks s f next rest broken (inr (small, inl below)) = inr (small, inl below)
lowering_breaks s f next rest broken (inr (small, inr (never, rest_of))) = inr (small, inr (never, grind (arith, rest_of)))

-- a counter that is lowered: what the state is then, and what follows
pub lowering_on : (s : AbstractState) (f : Form) (next : AbstractState → AbstractState) (rest : AbstractState → Rest) (t : AbstractState)
    (verdict : Verdict)
    → lowering s f (λ paid. falls_through (next paid)) (FallsThrough t) → rest (paid_for s) verdict
    → lowering s f rest verdict
lowering_on s f next rest t verdict falls h = grind (arith, falls, h)

pub lowered_state : (s : AbstractState) (f : Form) (next : AbstractState → AbstractState) (t : AbstractState)
    → lowering s f (λ paid. falls_through (next paid)) (FallsThrough t) → t ≡ next (paid_for s)
lowered_state s f next t falls = grind (arith, falls)

-- there was room for its guard
pub lowered_room : (s : AbstractState) (f : Form) (next : AbstractState → AbstractState) (t : AbstractState)
    → lowering s f (λ paid. falls_through (next paid)) (FallsThrough t) → length s.guards < 8
lowered_room s f next t falls = grind (arith, falls)

-- Counting down

-- where `down` goes on once its step is paid for
abbrev pub branches : ℕ → Form → AbstractState → Frame → Rest
branches v f paid to = arriving (counted_down v f paid) to (falls_through (counted_out f paid))

-- the counter is found at a label that is there, and what follows
pub counting_on : (here : FramedProcedure) (s : AbstractState) (v label position : ℕ) (to : Frame) (f : Form)
    (rest : Form → AbstractState → Frame → Rest) (verdict : Verdict)
    → slice_get here.labels label ≡ Some (position, to) → FindsCounter here s v (Ok f)
    → lowering s f (λ paid. rest f paid to) verdict → counting_down here s v label rest verdict
counting_on here s v label position to f rest verdict found counter h =
    inr ((position, to), found, inr (counter.0, inr (f, counter.1, h)))

-- it is not found
pub counting_breaks : (here : FramedProcedure) (s : AbstractState) (v label position : ℕ) (to : Frame) (b : Break)
    (rest : Form → AbstractState → Frame → Rest)
    → slice_get here.labels label ≡ Some (position, to) → FindsCounter here s v (Err b)
    → counting_down here s v label rest (Breaks (broken_of b))
counting_breaks here s v label position to b rest found counter = grind (arith, found, counter)
