-- What the tests show of the parts, one after the other, is shown of the whole.
use Rattle.std.proofs.Common.{◌↔◌, IsTrue, refl}
use Rattle.burr_forms.specs.Rules.Conditions.{region}
use Rattle.burr_forms.specs.Rules.Forms.{substituted}
use Rattle.burr_frames.specs.Views.Shown.{ShowsMetBy}
use Rattle.burr_frames.specs.Views.Targets.{target_of}
use Rattle.burr_frames.proofs.Settled.{and_passed, and_failed, FormsShown, GuardsShown, met_by_parts, shown_met}
use Rattle.burr_frames.proofs.state.meeting.Agreement.is_settled.Goals as goal
use Rattle.burr_frames.proofs.state.meeting.Agreement.is_settled.Goals.{then-are_substituted, else-are_substituted, then-keeps_within, else-keeps_within}

pub returns-then-keeps_guards : goal.returns-then-keeps_guards
returns-then-keeps_guards c =
    let r = region c.args.here.now.ranges.now c.args.here.now.guards.now in
    let t = target_of c.args.self.now in
    let forms = c.args.self.now.forms.now in
    let made = substituted c.padded-arguments.result in
    let ranged = c.split_at-2.result.1.now in
    let equal = c.split_at-3.result.1.now in
    let two : IsTrue c.if-are_substituted.value ↔ FormsShown r t made ranged equal = elim c.if-are_substituted.branch [
      | then-are_substituted w ↦ and_passed w.value-is w.if-are_substituted.true c.are_substituted.ensures w.keeps_within.ensures
      | else-are_substituted w ↦ and_failed w.value-is w.if-are_substituted.false c.are_substituted.ensures
    ] in
    let three : IsTrue c.if-keeps_within.value ↔ GuardsShown r t made ranged equal = elim c.if-keeps_within.branch [
      | then-keeps_within w ↦ and_passed w.value-is w.if-keeps_within.true two w.keeps_guards.ensures
      | else-keeps_within w ↦ and_failed w.value-is w.if-keeps_within.false two
    ] in
    let exact : IsTrue c.keeps_above.result ↔ ShowsMetBy r t forms =
    met_by_parts r t forms c.split_at.result.0.now c.split_at.result.1.now ranged c.split_at-3.result.0.now equal c.padded-arguments.result c.keeps_above.result
    c.split_at.ensures.front c.split_at.ensures.back c.split_at-2.ensures.back c.split_at-3.ensures.front c.split_at-3.ensures.back
    c.padded-arguments.ensures.padded (and_passed refl c.if-keeps_guards.true three c.keeps_above.ensures) in
    record { sound = λ shown. shown_met r t forms (exact.0 shown); exact = exact }

pub returns-else-keeps_guards : goal.returns-else-keeps_guards
returns-else-keeps_guards c =
    let r = region c.args.here.now.ranges.now c.args.here.now.guards.now in
    let t = target_of c.args.self.now in
    let forms = c.args.self.now.forms.now in
    let made = substituted c.padded-arguments.result in
    let ranged = c.split_at-2.result.1.now in
    let equal = c.split_at-3.result.1.now in
    let two : IsTrue c.if-are_substituted.value ↔ FormsShown r t made ranged equal = elim c.if-are_substituted.branch [
      | then-are_substituted w ↦ and_passed w.value-is w.if-are_substituted.true c.are_substituted.ensures w.keeps_within.ensures
      | else-are_substituted w ↦ and_failed w.value-is w.if-are_substituted.false c.are_substituted.ensures
    ] in
    let three : IsTrue c.if-keeps_within.value ↔ GuardsShown r t made ranged equal = elim c.if-keeps_within.branch [
      | then-keeps_within w ↦ and_passed w.value-is w.if-keeps_within.true two w.keeps_guards.ensures
      | else-keeps_within w ↦ and_failed w.value-is w.if-keeps_within.false two
    ] in
    let exact : IsTrue c.if-keeps_within.value ↔ ShowsMetBy r t forms =
    met_by_parts r t forms c.split_at.result.0.now c.split_at.result.1.now ranged c.split_at-3.result.0.now equal c.padded-arguments.result c.if-keeps_within.value
    c.split_at.ensures.front c.split_at.ensures.back c.split_at-2.ensures.back c.split_at-3.ensures.front c.split_at-3.ensures.back
    c.padded-arguments.ensures.padded (and_failed refl c.if-keeps_guards.false three) in
    record { sound = λ shown. shown_met r t forms (exact.0 shown); exact = exact }
