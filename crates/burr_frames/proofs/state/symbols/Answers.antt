-- A live slot gives its range, and has the next symbol.
use Rattle.std.proofs.Common.{rules, ◌≡◌, ℕ, ◌+◌, ◌∙◌, ap, sym, subst, set, List, [], ◌∷◌, ◌++◌, drop, length, Some, None, arith, append_assoc}
use Rattle.std.proofs.lemmas.List.{length_push}
use Rattle.std.proofs.lemmas.List.Elements.{All-nil, All-push, All-set, All-replicate}
use Rattle.std.specs.Prelude.{FitsSigned}
use Rattle.std.specs.Int.{w16, w32}
use Rattle.std.proofs.lemmas.Int.{to_z-of_z}
use Rattle.burr_forms.specs.Rules.Forms.{symbol}
use Rattle.burr_forms.specs.Rules.Points.{IsRange, AreRanges}
use Rattle.burr_container.specs.Views.Refs.{frame_of}
use Rattle.burr_container.specs.Rules.Plans.{Range}
use Rattle.burr_container.proofs.Common.ListsRead.{drop_here}
use Rattle.burr_frames.specs.Rules.States.{live_ranges}
use Rattle.burr_frames.specs.Views.StateViews.{IsSmallSlot}
use Rattle.burr_frames.proofs.Numbering.{IsNumbered, none_numbered, passed, given, all_numbered}
use Rattle.burr_frames.proofs.state.symbols.Goals as goal

pub loop-v-init : goal.loop-v-init
loop-v-init c =
    let slots = (frame_of c.args.frame.now).slots in
    record {
      is = ap (λ (ranges : List Range). ranges ++ live_ranges slots) c.new-ranges.ensures;
      are = subst AreRanges (sym c.new-ranges.ensures) (All-nil IsRange);
      few = omega (arith, ap (length {A = Range}) c.new-ranges.ensures);
      numbered = subst (λ (ranges : List Range). IsNumbered slots 0 (length ranges) _) (sym c.new-ranges.ensures) (none_numbered slots);
      small = All-replicate IsSmallSlot 8 None tt;
    }

pub loop-v-preserved-in_default : goal.loop-v-preserved-in_default
loop-v-preserved-in_default c =
    let v = c.loop-v.v in
    let slots = (frame_of c.args.frame.now).slots in
    let before = c.loop-v.ranges.items in
    let old = c.loop-v.invariant in
    record {
      is = ap (λ (rest : List Range). before ++ rest) (sym (ap live_ranges (drop_here slots v None c.in_default.ensures.slot))) ∙ old.is;
      are = old.are;
      few = omega (arith, old.few);
      numbered = passed slots v (length before) c.loop-v.slots c.loop-v-test.true c.in_default.ensures.slot old.numbered;
      small = old.small;
    }

pub loop-v-preserved : goal.loop-v-preserved
loop-v-preserved c =
    let v = c.loop-v.v in
    let slots = (frame_of c.args.frame.now).slots in
    let before = c.loop-v.ranges.items in
    let old = c.loop-v.invariant in
    let range : Range = (c.in-Some.low, c.in-Some.high) in
    let after = live_ranges (drop (v + 1) slots) in
    let low_narrow : FitsSigned w16 c.in-Some.low = search rules in
    let high_narrow : FitsSigned w16 c.in-Some.high = search rules in
    let low_fits : FitsSigned w32 c.from-in-loop-v.result = search rules in
    let high_fits : FitsSigned w32 c.from-in-loop-v-2.result = search rules in
    let low : c.from-in-loop-v.result ≡ c.in-Some.low = simp to_z-of_z at c.from-in-loop-v.ensures in
    let high : c.from-in-loop-v-2.result ≡ c.in-Some.high = simp to_z-of_z at c.from-in-loop-v-2.ensures in
    let pushed : c.push.new.self.items ≡ before ++ (c.from-in-loop-v.result, c.from-in-loop-v-2.result) ∷ [] = simp to_z-of_z at c.push.ensures.items in
    let items : c.push.new.self.items ≡ before ++ range ∷ [] =
    pushed ∙ ap (λ n. before ++ (n, c.from-in-loop-v-2.result) ∷ []) low ∙ ap (λ n. before ++ (c.in-Some.low, n) ∷ []) high in
    let many : length c.push.new.self.items ≡ length before + 1 = ap (length {A = Range}) items ∙ length_push before range in
    let next : c.symbol.result ≡ symbol (length before) = c.symbol.ensures.symbol ∙ ap symbol c.len.ensures.value in
    let put = given slots v (length before) c.loop-v.slots range c.loop-v-test.true c.in-Some.ensures.slot old.numbered in
    let same : set c.loop-v.slots v (Some (symbol (length before))) ≡ set c.loop-v.slots c.from.result (Some c.symbol.result) =
    λ i. set c.loop-v.slots (sym c.from.ensures i) (Some (sym next i)) in
    record {
      is = ap (λ (rs : List Range). rs ++ after) items ∙ append_assoc before (range ∷ []) after
          ∙ ap (λ (rest : List Range). before ++ rest) (sym (ap live_ranges (drop_here slots v (Some range) c.in-Some.ensures.slot))) ∙ old.is;
      are = subst AreRanges (sym items) (All-push IsRange before range old.are c.in-Some.ensures.range);
      few = omega (arith, many, old.few);
      numbered = subst (λ (n : ℕ). IsNumbered slots (v + 1) n (set c.loop-v.slots c.from.result (Some c.symbol.result))) (sym many)
          (subst (IsNumbered slots (v + 1) (length before + 1)) same put);
      small = All-set IsSmallSlot c.loop-v.slots c.from.result (Some c.symbol.result) c.symbol.ensures.small old.small;
    }

pub returns-clause-slots : goal.returns-clause-slots
returns-clause-slots c =
    let eight : length c.args.frame.now.slots ≡ 8 = search rules in
    all_numbered (frame_of c.args.frame.now).slots c.loop-v.v (length c.loop-v.ranges.items) c.loop-v.slots
    (omega (arith, c.loop-v-test.false, c.loop-v.auto.v-end)) eight c.loop-v.invariant.numbered
