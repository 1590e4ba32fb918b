-- An entry frame that is not met, and what follows where it is.
use Rattle.std.proofs.Common.{◌≡◌, ◌≤◌, ◌+◌, ◌∙◌, ap, sym, subst, ℕ, List, length, drop, inl, inr, arith}
use Rattle.std.specs.Prelude.{reverse}
use Rattle.burr_forms.specs.Rules.Forms.{Form, AllSmallForms, substituted}
use Rattle.burr_container.specs.Views.Refs.{frame_of}
use Rattle.burr_frames.specs.declared.rule.Rule.TheVariants as rules
use Rattle.burr_frames.specs.Rules.States.{AbstractState}
use Rattle.burr_frames.specs.Rules.FramedPlans.{FramedExit, framed}
use Rattle.burr_frames.specs.Rules.Verdicts.{Verdict, Breaks}
use Rattle.burr_frames.specs.Views.Breaks.{broken_of, next_verdict}
use Rattle.burr_frames.specs.Rules.ControlRules.{calling}
use Rattle.burr_frames.proofs.CallArguments.{left_many, still_room}
use Rattle.burr_frames.proofs.Meetings.{meeting_on, meeting_breaks}
use Rattle.burr_frames.proofs.CallVerdicts.{PaysCall, calling_on}
use Rattle.burr_frames.proofs.state.State.calls.Goals as goal

abbrev operands_of : AbstractState → List Form
operands_of s = s.operands

abbrev results_of : FramedExit → ℕ
results_of exit = length exit.results

pub returns-in-Err-clause-verdict : goal.returns-in-Err-clause-verdict
returns-in-Err-clause-verdict c =
    let s = c.args.self.now in
    let count = c.from-count.result in
    let arguments = c.in-Some.arguments.items in
    let entry = framed (frame_of c.args.entry.now) in
    let exit = c.args.exit.now in
    let room = still_room count _ s.operands _ _ _ (ap operands_of c.self.view_is) c.len.ensures.value (c.len-2.ensures.value ∙ ap results_of c.exit.view_is)
    c.if-len-count-gt-MOST_OPERANDS.false in
    let missed = rw c.as_slice.ensures.value at c.in-Err.ensures in
    rw (← c.from-count.ensures, c.at.ensures)
    (calling_on s count entry exit arguments _ room c.in-Some.ensures.operands.1 c.in-Some.ensures.operands.0
    (meeting_breaks _ entry rules.EntryMissed (λ live. PaysCall s arguments exit (substituted live entry.cost)) _ missed))

pub returns-clause-verdict : goal.returns-clause-verdict
returns-clause-verdict c =
    let s = c.args.self.now in
    let count = c.from-count.result in
    let arguments = c.in-Some.arguments.items in
    let entry = framed (frame_of c.args.entry.now) in
    let exit = c.args.exit.now in
    let v : Verdict = next_verdict c.pays_for.new.self c.pays_for.result in
    let room = still_room count _ s.operands _ _ _ (ap operands_of c.self.view_is) c.len.ensures.value (c.len-2.ensures.value ∙ ap results_of c.exit.view_is)
    c.if-len-count-gt-MOST_OPERANDS.false in
    let met = rw c.as_slice.ensures.value at c.in-Ok.ensures.0 in
    let paid = rw (c.as_slice-2.ensures.value, c.as_slice-3.ensures.value, c.cost.ensures.cost) at c.pays_for.ensures.verdict in
    rw (← c.from-count.ensures)
    (calling_on s count entry exit arguments v room c.in-Some.ensures.operands.1 c.in-Some.ensures.operands.0
    (meeting_on _ entry rules.EntryMissed (λ live. PaysCall s arguments exit (substituted live entry.cost)) c.in-Ok.live.items v met paid))

pub returns-then-len-count-gt-MOST_OPERANDS-clause-verdict : goal.returns-then-len-count-gt-MOST_OPERANDS-clause-verdict
returns-then-len-count-gt-MOST_OPERANDS-clause-verdict c =
    let s = c.args.self.now in
    let count = c.from-count.result in
    let exit = c.args.exit.now in
    let left = left_many count c.self.inside.operands.items s.operands (ap operands_of c.self.view_is) in
    let more = c.if-len-count-gt-MOST_OPERANDS.true in
    let many = c.len-2.ensures.value ∙ ap results_of c.exit.view_is in
    let all = c.len.ensures.value in
    let full : ¬ (length (drop count s.operands) + length exit.results ≤ 8) =
    λ room. omega (arith, room, left, more, many, all) in
    let entry = framed (frame_of c.args.entry.now) in
    let b = c.plain-then-len-count-gt-MOST_OPERANDS.result in
    subst (λ (n : ℕ). calling s n (length exit.results) entry exit (Breaks (broken_of b))) c.from-count.ensures
    (inr (
      (reverse c.in-Some.arguments.items, drop count s.operands),
      c.in-Some.ensures.operands.0,
      inl (full, ap Breaks c.plain-then-len-count-gt-MOST_OPERANDS.ensures),
    ))

pub returns-in_default-clause-verdict : goal.returns-in_default-clause-verdict
returns-in_default-clause-verdict c =
    let exit = c.args.exit.now in
    subst (λ (n : ℕ). calling c.args.self.now n (length exit.results) (framed (frame_of c.args.entry.now)) exit (Breaks (broken_of c.plain.result)))
    c.from-count.ensures (inl (c.in_default.ensures.operands, ap Breaks c.plain.ensures))

-- What the calls ask for

pub met_with-requires-clause-small : goal.met_with-requires-clause-small
met_with-requires-clause-small c = subst AllSmallForms (sym c.as_slice.ensures.value) c.in-Some.ensures.operands.2

pub pays_for-requires-clause-small : goal.pays_for-requires-clause-small
pays_for-requires-clause-small c = subst AllSmallForms (sym c.as_slice-2.ensures.value) c.in-Some.ensures.operands.2

pub pays_for-requires-clause-few : goal.pays_for-requires-clause-few
pays_for-requires-clause-few c =
    omega (arith, c.requires.few, c.from-count.ensures, c.in-Some.ensures.operands.1, ap (length {A = Form}) c.as_slice-2.ensures.value)

pub pays_for-requires-clause-room : goal.pays_for-requires-clause-room
pays_for-requires-clause-room c =
    let s = c.args.self.now in
    let count = c.from-count.result in
    let given : length c.as_slice-2.result.now ≡ count = ap (length {A = Form}) c.as_slice-2.ensures.value ∙ c.in-Some.ensures.operands.1 in
    let room = still_room count _ s.operands _ _ _ (ap operands_of c.self.view_is) c.len.ensures.value (c.len-2.ensures.value ∙ ap results_of c.exit.view_is)
    c.if-len-count-gt-MOST_OPERANDS.false in
    subst (λ (n : ℕ). length (drop n s.operands) + length c.args.exit.now.results ≤ 8) (sym given) room
