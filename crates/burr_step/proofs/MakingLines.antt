-- The line of a move while its motions are made.
use Rattle.std.proofs.Common.{◌≡◌, ℕ, zero, suc, ◌+◌, ◌-◌, ◌<◌, ◌≤◌, List, [], ◌∷◌, ◌++◌, replicate, Bool, true, false, ◌&&◌, ◌==◌, ◌^◌, bit_and, w32, append-nil, Option, Some, None, Ok, refl, sym, ap, subst, ◌∙◌, arith}
use Rattle.std.proofs.lemmas.Bool.{and_parts, eqb-true}
use Rattle.burr_voxels.specs.declared.direction.Direction.{Direction}
use Rattle.burr_voxels.specs.Grid.{number_of}
use Rattle.burr_verify.specs.Laws.VerifyLaws.{FittingIsFromContainer}
use Rattle.burr_state.specs.declared.effect.Motion.{Motion}
use Rattle.burr_state.specs.declared.effect.Progress.{Progress}
use Rattle.burr_state.specs.declared.effect.Progress.TheVariants as progress
use Rattle.burr_state.specs.Rules.Bench.{BenchState, Program, Setup}
use Rattle.burr_state.specs.Rules.Step.{Called}
use Rattle.burr_state.specs.Views.Benches.{Benched, setup_of, in_state, IsSameRun}
use Rattle.burr_bench.specs.Soundness.Machine.{IsSafeBench}
use Rattle.burr_sheet.specs.declared.sheet.GrowingLine.{GrowingLine}
use Rattle.burr_sheet.specs.Rules.SheetText.{MoveLine, alone, motion_count, motion_on, motions_of, is_one}
use Rattle.burr_sheet.specs.Views.SheetUnderWay.{move_line_of}
use Rattle.burr_step.specs.Rules.Moves.{Makes, stays, makes, Rests, ComesToRest, MovesNext, GoesAsideTo, MakesMove}
use Rattle.std.specs.Prelude.{is_some}
use Rattle.std.proofs.lemmas.Option.{same_Some}
use Rattle.burr_step.specs.Views.Driving.{AreApart, HasComeToRest, IsAhead, MakesLine, ended}
use Rattle.std.specs.Int.{bit_not}
use Rattle.burr_step.proofs.ApartSets.{apart_by}
use Rattle.burr_step.proofs.LedRuns.{safe_on}
use Rattle.burr_step.proofs.Making.{makes_on, same_step}
use Rattle.burr_step.proofs.NextSteps.{goes_some, stepped}
use Rattle.burr_step.proofs.UnderWay.{same_run, same_setup}

-- the unit steps of a line
abbrev pub steps_of : GrowingLine → List Motion
steps_of l = replicate l.units (motion_on (move_line_of l false) false)

-- The steps of the line are made, and the run rests. Where there are none yet, the first motion stands next, and goes on the line.
pub record IsMaking (first : Motion) (old : Benched) (l : GrowingLine) (now : Benched) : Type 0 where
  pub safe : IsSafeBench now
  pub same : IsSameRun old now
  pub makes : Makes (setup_of old) old.state (steps_of l) now.state
  pub rests : Rests (setup_of old) now.state
  pub begun : l.units ≡ 0 → MovesNext (setup_of old) now.state first × (is_one (move_line_of l false) (alone first) ≡ true)
  pub few : l.units ≤ now.state.steps

-- The motion that goes on

same_number : (n : ℕ) → (n == n) ≡ true
same_number n = grind arith

-- a motion is one with the line that it begins
pub begins_own : (m : Motion) → is_one (record { group = m.group; tray = m.tray; direction = m.dir; units = 0; out = false }) (alone m) ≡ true
begins_own m = rw (same_number m.group, same_number m.tray, same_number (number_of m.dir)) refl

same_direction : (d e : Direction) → number_of d ≡ number_of e → d ≡ e
same_direction d e same = grind arith

-- a motion that is one with a line is a motion of it
pub motion_of_line : (l : MoveLine) (m : Motion) → is_one l (alone m) ≡ true → m ≡ motion_on l m.out
motion_of_line l m is =
    let direction = and_parts ((l.group == m.group) && (l.tray == m.tray)) (number_of l.direction == number_of m.dir) is in
    let place = and_parts (l.group == m.group) (l.tray == m.tray) direction.0 in
    λ i. record {
      group = sym (eqb-true _ _ place.0) i;
      tray = sym (eqb-true _ _ place.1) i;
      dir = sym (same_direction _ _ (eqb-true _ _ direction.1)) i;
      out = m.out;
    }

-- One step more

-- what a line comes to after one motion more
pub record IsFarther (old : Benched) (l : GrowingLine) (motion : Motion) (now mid new : Benched) : Type 0 where
  pub safe_mid : IsSafeBench mid
  pub safe : IsSafeBench new
  pub same : IsSameRun old new
  pub makes : Makes (setup_of old) old.state (steps_of l ++ motion ∷ []) new.state
  pub rests : Rests (setup_of old) new.state
  pub more : now.state.steps + 1 ≤ new.state.steps
  pub within : now.state.steps < now.program.budget
  pub budget : new.program.budget ≡ now.program.budget

-- steps that move no piece are steps
steps_grow : FittingIsFromContainer → (b : Benched) (s t : BenchState) (motions : List Motion) → Makes (setup_of b) s motions t → IsSafeBench (in_state s b)
    → s.steps ≤ t.steps
steps_grow given b _ _ _ (stays s) safe = omega arith
steps_grow given b _ _ _ (makes s new last motion motions called rest) safe =
    let step = stepped given (in_state s b) (in_state new b) motion safe (record { assembly = refl; program = refl }) called in
    grows _ _ _ step.steps (steps_grow given b new last motions rest step.safe)
  where
    grows : (a b c : ℕ) → b ≡ a + 1 → b ≤ c → a ≤ c
    grows a b c one more = omega (arith, one, more)

pub same_twice : (a b c : Benched) → IsSameRun a b → IsSameRun b c → IsSameRun a c
same_twice a b c first second = record { assembly = second.assembly ∙ first.assembly; program = second.program ∙ first.program }

pub farther : FittingIsFromContainer → (first : Motion) (old : Benched) (l : GrowingLine) (motion : Motion) (told : Progress) (now mid new : Benched)
    → IsMaking first old l now → MovesNext (setup_of now) now.state motion → Called (setup_of now) now.state None (Ok told) mid.state
    → IsSameRun now mid → HasComeToRest mid new → IsFarther old l motion now mid new
farther given first old l motion told now mid new so_far ahead called same (same_new, rest) =
    let went = goes_some (setup_of now) now.state mid.state told motion called ahead in
    let step = stepped given now mid (Some motion) so_far.safe same went in
    let setup_now : setup_of now ≡ setup_of old = same_setup old now so_far.same in
    let setup_mid : setup_of mid ≡ setup_of old = same_setup now mid same ∙ setup_now in
    let went_there = subst (λ (x : Setup). Called x now.state None (Ok (progress.Went (Some motion))) mid.state) setup_now went in
    let rest_there = subst (λ (x : Setup). ComesToRest x mid.state new.state) setup_mid rest in
    let safe_new = subst (λ (x : Benched). IsSafeBench x) (same_run mid new same_new) (safe_on given mid mid.state new.state [] rest.0 step.safe) in
    record {
      safe_mid = step.safe;
      safe = safe_new;
      same = same_twice old mid new (same_twice old now mid so_far.same same) same_new;
      makes =
          makes_on (setup_of old) old.state now.state new.state (steps_of l) (motion ∷ []) so_far.makes
          (makes now.state mid.state new.state (Some motion) [] went_there rest_there.0);
      rests = rest_there.1;
      more = grown _ _ _ step.steps (steps_grow given mid mid.state new.state [] rest.0 step.safe);
      within = step.within;
      budget = ap (λ (p : Program). p.budget) (same_new.program ∙ same.program);
    }
  where
    grown : (a b c : ℕ) → b ≡ a + 1 → b ≤ c → a + 1 ≤ c
    grown a b c one more = omega (arith, one, more)

-- the motions of a line with one step more
steps_more : (n : ℕ) (m : Motion) → replicate n m ++ m ∷ [] ≡ replicate (n + 1) m
steps_more n m = subst (λ (k : ℕ). replicate n m ++ m ∷ [] ≡ replicate k m) (next n) (one_last n m)
  where
    next : (n : ℕ) → suc n ≡ n + 1
    next n = omega arith

    one_last : (n : ℕ) (m : Motion) → replicate n m ++ m ∷ [] ≡ replicate (suc n) m
    one_last zero m = refl
    one_last (suc n) m = ap (λ (ms : List Motion). m ∷ ms) (one_last n m)

-- the line goes on by a step
pub goes_on : (first : Motion) (old : Benched) (l : GrowingLine) (motion : Motion) (now mid new : Benched) → IsMaking first old l now
    → IsFarther old l motion now mid new → is_one (move_line_of l false) (alone motion) ≡ true → motion.out ≡ false
    → IsMaking first old (record l { units = l.units + 1 }) new
goes_on first old l motion now mid new so_far on one step =
    let is : motion ≡ motion_on (move_line_of l false) false =
    motion_of_line (move_line_of l false) motion one ∙ ap (λ (out : Bool). motion_on (move_line_of l false) out) step in
    let list : steps_of l ++ motion ∷ [] ≡ steps_of (record l { units = l.units + 1 }) =
    ap (λ (m : Motion). steps_of l ++ m ∷ []) is ∙ steps_more l.units (motion_on (move_line_of l false) false) in record {
      safe = on.safe;
      same = on.same;
      makes = subst (λ (ms : List Motion). Makes (setup_of old) old.state ms new.state) list on.makes;
      rests = on.rests;
      begun = λ none. absurd (some l.units none);
      few = grown l.units now.state.steps new.state.steps so_far.few on.more;
    }
  where
    some : (n : ℕ) → n + 1 ≡ 0 → ⊥
    some n none = absurd (omega (arith, none))

    grown : (u a b : ℕ) → u ≤ a → a + 1 ≤ b → u + 1 ≤ b
    grown u a b few more = omega (arith, few, more)

-- The line is whole

no_aside : (l : GrowingLine) → steps_of l ≡ motions_of (ended l None)
no_aside l = sym (append-nil (steps_of l))

-- where no motion on it stands next
pub ends_still : (first : Motion) (old : Benched) (l : GrowingLine) (now : Benched) → IsMaking first old l now
    → ((motion : Motion) → MovesNext (setup_of now) now.state motion → is_one (move_line_of l false) (alone motion) ≡ false)
    → MakesLine old l None now
ends_still first old l now so_far other =
    let setup_now : setup_of now ≡ setup_of old = same_setup old now so_far.same in record {
      same = so_far.same;
      makes = subst (λ (ms : List Motion). Makes (setup_of old) old.state ms now.state) (no_aside l) so_far.makes;
      whole = λ step motion next. other motion (subst (λ (x : Setup). MovesNext x now.state motion) (sym setup_now) next);
      rests = so_far.rests;
      to = tt;
    }

-- and then it has a motion, since the first goes on it
pub has_some : (first : Motion) (old : Benched) (l : GrowingLine) (now : Benched) → IsMaking first old l now
    → ((motion : Motion) → MovesNext (setup_of now) now.state motion → is_one (move_line_of l false) (alone motion) ≡ false)
    → 0 < motion_count (ended l None)
has_some first old l now so_far other = by l.units refl
  where
    true-false : true ≡ false → ⊥
    true-false e = cc

    by : (units : ℕ) → l.units ≡ units → 0 < l.units + 0
    by zero none =
        let begun = so_far.begun none in
        let setup_now : setup_of now ≡ setup_of old = same_setup old now so_far.same in
        absurd (true-false (sym begun.1 ∙ other first (subst (λ (x : Setup). MovesNext x now.state first) (sym setup_now) begun.0)))
    by (suc n) some = omega (arith, some)

-- where an aside ends it
pub ends_out : (first : Motion) (old : Benched) (l : GrowingLine) (motion : Motion) (tray : ℕ) (now mid new : Benched) → IsMaking first old l now
    → IsFarther old l motion now mid new → is_one (move_line_of l false) (alone motion) ≡ true → motion.out ≡ true
    → GoesAsideTo (setup_of now) now.state tray → MakesLine old l (Some tray) new
ends_out first old l motion tray now mid new so_far on one out aside =
    let setup_now : setup_of now ≡ setup_of old = same_setup old now so_far.same in
    let is : motion ≡ motion_on (move_line_of l false) true =
    motion_of_line (move_line_of l false) motion one ∙ ap (λ (o : Bool). motion_on (move_line_of l false) o) out in record {
      same = on.same;
      makes = subst (λ (m : Motion). Makes (setup_of old) old.state (steps_of l ++ m ∷ []) new.state) is on.makes;
      whole = λ step. absurd (true-false step);
      rests = on.rests;
      to = (now.state, so_far.makes, subst (λ (x : Setup). GoesAsideTo x now.state tray) setup_now aside);
    }
  where
    true-false : true ≡ false → ⊥
    true-false e = cc

-- What was seen to stand next

-- a motion that stands next
pub is_ahead : (b : Benched) (motion : Motion) (out : Option ℕ) → IsAhead (setup_of b) b.state (Some (motion, out)) → MovesNext (setup_of b) b.state motion
is_ahead b motion None ahead = ahead.0
is_ahead b motion (Some tray) ahead = ahead.0

-- it is the only one, so none goes on a line that it does not go on
pub other_ahead : (l : GrowingLine) (b : Benched) (motion : Motion) (out : Option ℕ) → IsAhead (setup_of b) b.state (Some (motion, out))
    → is_one (move_line_of l false) (alone motion) ≡ false
    → (other : Motion) → MovesNext (setup_of b) b.state other → is_one (move_line_of l false) (alone other) ≡ false
other_ahead l b motion out ahead apart other next =
    let here = is_ahead b motion out ahead in
    let same = same_step (setup_of b) b.state here.0 next.0 (Some motion) (Some other) here.1 next.1 in
    subst (λ (m : Motion). is_one (move_line_of l false) (alone m) ≡ false) (same_Some motion other same.0) apart

-- whether it goes out, and where to
pub step_ahead : (b : Benched) (motion : Motion) (out : Option ℕ) → IsAhead (setup_of b) b.state (Some (motion, out)) → is_some out ≡ false → motion.out ≡ false
step_ahead b motion None ahead none = ahead.1
step_ahead b motion (Some tray) ahead none = absurd (true-false none)
  where
    true-false : true ≡ false → ⊥
    true-false e = cc

pub ends_by : (first : Motion) (old : Benched) (l : GrowingLine) (motion : Motion) (out : Option ℕ) (now mid new : Benched) → IsMaking first old l now
    → IsFarther old l motion now mid new → is_one (move_line_of l false) (alone motion) ≡ true
    → IsAhead (setup_of now) now.state (Some (motion, out)) → is_some out ≡ true → MakesLine old l out new
ends_by first old l motion None now mid new so_far on one ahead some = absurd (false-true some)
  where
    false-true : false ≡ true → ⊥
    false-true e = cc
ends_by first old l motion (Some tray) now mid new so_far on one ahead some = ends_out first old l motion tray now mid new so_far on one ahead.1 ahead.2

-- fewer steps are left then
pub fewer_then : (old : Benched) (l : GrowingLine) (motion : Motion) (now mid new : Benched) → IsFarther old l motion now mid new
    → new.program.budget - new.state.steps < now.program.budget - now.state.steps
fewer_then old l motion now mid new on = fewer _ _ _ _ on.budget on.more on.within
  where
    fewer : (m n k l : ℕ) → m ≡ k → l + 1 ≤ n → l < k → m - n < k - l
    fewer m n k l budget more within = omega (arith, budget, more, within)

-- The move

pub whole_move : (b c : Benched) (moved before now : ℕ) (l : GrowingLine) (out : Option ℕ) → MakesLine b l out c → 0 < motion_count (ended l out)
    → before < 2 ^ 32 → now < 2 ^ 32 → AreApart b.state before → AreApart c.state now
    → MakesMove (setup_of b) moved b.state (record {
      number = moved + 1;
      tray = l.tray;
      group = l.group;
      direction = l.direction;
      units = l.units;
      out = out;
      apart = bit_and now (bit_not w32 before);
    }) c.state
whole_move b c moved before now l out line some small few was is = record {
  number = refl;
  some = some;
  makes = line.makes;
  whole = line.whole;
  rests = line.rests;
  to = line.to;
  apart = apart_by b.state c.state before now small few was is;
}
