-- The last of the operands are the arguments.
use Rattle.std.proofs.Common.{rules, ◌≡◌, ◌≤◌, ◌-◌, ◌∙◌, ap, sym, subst, length, drop, List, Some, arith}
use Rattle.std.specs.Prelude.{reverse}
use Rattle.std.proofs.lemmas.List.{length-drop, take_rest}
use Rattle.std.proofs.lemmas.List.Elements.{All-drop}
use Rattle.burr_code.specs.Stacks.{top_many}
use Rattle.burr_forms.specs.Rules.Forms.{Form, IsSmallForm, AllSmallForms}
use Rattle.burr_frames.specs.Rules.States.{AbstractState}
use Rattle.burr_frames.proofs.Offsets.{small_reversed}
use Rattle.burr_code.proofs.Common.Turned.{take_reverse, top_many_of}
use Rattle.burr_frames.proofs.state.State.top_many.Goals as goal

pub returns-clause-operands : goal.returns-clause-operands
returns-clause-operands c =
    let items : List Form = c.self.inside.operands.items in
    let count = c.args.count in
    let some : count ≤ length items = search rules in
    let first : c.in_ok-first.first ≡ length items - count = search rules in
    let deref : c.deref.result.now ≡ items = c.deref.ensures.0 in
    let taken : c.copied.result.items ≡ drop (length items - count) items =
    c.copied.ensures ∙ take_rest c.deref.result.now c.in_ok-first.first
    ∙ ap (λ (xs : List Form). drop c.in_ok-first.first xs) deref ∙ ap (λ n. drop n items) first in
    let same : reverse items ≡ c.args.self.now.operands = ap (λ (s : AbstractState). s.operands) c.self.view_is in (
      subst (λ (xs : List Form). top_many count xs ≡ Some (reverse c.copied.result.items, drop count xs)) same
          (top_many_of count items some
          ∙ ap (λ (xs : List Form). Some (xs, drop count (reverse items))) (take_reverse count items ∙ ap (λ (xs : List Form). reverse xs) (sym taken))),
      ap (length {A = Form}) taken ∙ length-drop (length items - count) items ∙ omega (arith, some),
      subst AllSmallForms (sym taken)
          (All-drop IsSmallForm (length items - count) items (small_reversed items c.self.invariant.operands)),
    )
