-- For crates above: checks of a verdict that names no broken rule, and moves that keep their rules,
-- which come to what they come to where nothing is in the way.
use Rattle.std.proofs.Common.{◌≡◌, ◌⊎◌, ℕ, List, Option, Some, None, subst, inl, inr}
use Rattle.std.specs.Prelude.{pos, ◌≤ℤ◌}
use Rattle.burr_text.specs.Checks.{needs}
use Rattle.burr_voxels.specs.declared.cell.Cell.{Cell}
use Rattle.burr_voxels.specs.declared.direction.Direction.{Direction}
use Rattle.burr_code.proofs.Common.OneAnswer.{IsOne}
use Rattle.burr_code.proofs.Common.Checked.{needed, ends, one_built}
use Rattle.burr_forms.specs.Rules.Forms.{Point, value, one_less, IsSmallForm}
use Rattle.burr_frames.specs.declared.rule.Rule.{Rule}
use Rattle.burr_frames.specs.declared.rule.Rule.TheVariants as rules
use Rattle.burr_frames.specs.Views.Moving.{free_aside, free_step}
use Rattle.burr_frames.specs.Rules.SpaceRules.{aside_rule, moved, step_rule}
use Rattle.burr_frames.specs.Rules.States.{AbstractState, Everywhere, IsFirstFailing}
use Rattle.burr_frames.proofs.Common.Built.{built_paid}
use Rattle.burr_frames.proofs.Common.Decided.{decide_small_places}
use Rattle.burr_frames.specs.Rules.Verdicts.{Broken, Verdict, Breaks, FallsThrough, NoSuccessor, everywhere, plainly, at_point, at_pair, IsFirstPair}

abbrev pub IsFine : Verdict → Type 0
IsFine (Breaks break) = ⊥
IsFine (FallsThrough s) = Unit {0}
IsFine NoSuccessor = Unit {0}

pub fine : {v : Verdict} (b : Broken) → v ≡ Breaks b → IsFine v → ⊥
fine b e h = subst IsFine e h

pub held : {C Q : Type 0} {b : Broken} {v : Verdict} → IsFine v → ((¬ C) × (v ≡ Breaks b)) ⊎ (C × Q)
    → C × Q
held {b = b} h (inl p) = absurd (fine b p.1 h)
held h (inr p) = p

pub found : {A : Type 0} {o : Option A} {Q : A → Type 0} {b : Broken} {v : Verdict} → IsFine v
    → ((o ≡ None) × (v ≡ Breaks b)) ⊎ ((x : A) × (o ≡ Some x) × Q x) → (x : A) × (o ≡ Some x) × Q x
found {b = b} h (inl p) = absurd (fine b p.1 h)
found h (inr p) = p

pub held_everywhere : (s : AbstractState) {P : Point
    → Type 0} {rule : Rule} {Q : Type 0} {v : Verdict} → IsFine v
    → ((point : Point) × IsFirstFailing s P point × (v ≡ at_point rule point))
    ⊎ (Everywhere s P × Q) → Everywhere s P × Q
held_everywhere s h (inl p) = absurd (fine _ p.2 h)
held_everywhere s h (inr p) = p

pub held_of_pairs : (s : AbstractState) {P : Point → ℕ → ℕ
    → Type 0} {rule : Rule} {Q : Type 0} {v : Verdict} → IsFine v
    → ((point : Point) × (p q : ℕ) × IsFirstFailing s (λ x. (r t : ℕ) → P x r t) point × IsFirstPair
    (P point) p q × (v ≡ at_pair rule point p q)) ⊎ (Everywhere s (λ x. (r t : ℕ) → P x r t) × Q)
    → Everywhere s (λ x. (r t : ℕ) → P x r t) × Q
held_of_pairs s h (inl p) = absurd (fine _ p.5 h)
held_of_pairs s h (inr p) = p

-- a step is paid for
pub paid : (s : AbstractState) {Q : Type 0} {v : Verdict} → IsFine v
    → needs (IsSmallForm (one_less s.cost)) (plainly rules.FormTooLarge)
    (everywhere s (λ point. pos 0 ≤ℤ value point (one_less s.cost)) rules.CostTooLow (λ _. Q)) v
    → Everywhere s (λ point. pos 0 ≤ℤ value point (one_less s.cost)) × Q
paid s fine p = held_everywhere s fine (held fine p).1

-- Moves

pub free_of_step : (homes : List (List Cell)) (s : AbstractState) (direction : Direction) (v : Verdict) → IsFine v
    → step_rule homes s direction v → free_step s direction v
free_of_step homes s direction v fine rule =
    let small = held fine (held fine rule).1 in
    inr (small.0, (held_of_pairs s fine (held_everywhere s fine small.1).1).1)

pub free_of_aside : (homes : List (List Cell)) (s : AbstractState) (direction : Direction) (tray : ℕ) (v : Verdict) → IsFine v
    → aside_rule homes s direction tray v → free_aside s tray v
free_of_aside homes s direction tray v fine rule =
    let empty = held fine (held fine rule).1 in
    (held_of_pairs s fine (held_everywhere s fine empty.1).1).1

pub one_free_step : (s : AbstractState) (direction : Direction) → IsOne (free_step s direction)
one_free_step s direction =
    one_built (needed (decide_small_places (moved s.grip direction s.places)) λ small. built_paid {Ends = λ v. Unit {0}} s λ paid. ends tt)

pub one_free_aside : (s : AbstractState) (tray : ℕ) → IsOne (free_aside s tray)
one_free_aside s tray = one_built (built_paid {Ends = λ v. Unit {0}} s λ paid. ends tt)
