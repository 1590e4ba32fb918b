use Rattle.std.specs.List.{list_all}
use Rattle.std.proofs.Common.{subst, sym, ap, ◌∙◌, List, ℕ, true≢false}
use Rattle.std.specs.Prelude.{take}
use Rattle.burr_asm.specs.Views.Forms.{IsConstantCut}
use Rattle.std.proofs.lemmas.Bool.{and_parts}
use Rattle.burr_plantext.specs.Rules.Written.{is_number, is_term, constant_word, term_words}
use Rattle.burr_asm.proofs.FormTerms.{form_begins, slot_fails, coefficient_fails, constant_fails, form_goes_on, form_ends}
use Rattle.burr_asm.proofs.text.form.FormWord.value.Goals as goal

pub loop-term-init : goal.loop-term-init
loop-term-init c =
    let word = c.args.self.bytes.now in
    form_begins _ word _ _ (and_parts (is_number (constant_word word)) (list_all is_term (term_words word)) c.args.self.formed).1 (subst (λ (w : List ℕ). IsConstantCut word w c.split_at.result.1.now) (sym c.split_at.ensures.front) (subst (λ (w : List ℕ). IsConstantCut word (take c.args.self.constant word) w) (sym c.split_at.ensures.back) c.args.self.cut.1))

pub cut-requires : goal.cut-requires
cut-requires c = c.loop-term.invariant.begins

pub loop-term-preserved : goal.loop-term-preserved
loop-term-preserved c =
    form_goes_on _ _ _ _ _ c.loop-term.invariant _ _ _ c.in-Some.ensures _ _ c.in_ok-slot.ensures.value.0 c.in_ok-slot.ensures.value.1 c.in_ok-coefs.ensures.0 c.in_ok-coefs.ensures.1

pub loop-term-smaller : goal.loop-term-smaller
loop-term-smaller c = c.in-Some.ensures.shorter

pub returns-in_err-slot : goal.returns-in_err-slot
returns-in_err-slot c = rw c.from_residual.ensures (slot_fails _ _ _ _ _ c.loop-term.invariant _ _ _ c.in-Some.ensures c.in_err-slot.ensures.value)

pub returns-in_err-coefs : goal.returns-in_err-coefs
returns-in_err-coefs c = rw c.from_residual-in_err-coefs.ensures (coefficient_fails _ _ _ _ _ c.loop-term.invariant _ _ _ c.in-Some.ensures c.in_err-coefs.ensures)

pub returns-in_err-constant : goal.returns-in_err-constant
returns-in_err-constant c = rw c.from_residual-in_err-constant.ensures (constant_fails c.args.live.now c.args.self.bytes.now c.in_ok-parse.field-0.bytes.now (c.in_ok-parse.ensures.1 ∙ c.split_at.ensures.front ∙ c.args.self.cut.1.constant) c.in_err-constant.ensures)

pub returns : goal.returns
returns c = form_ends _ _ _ _ _ c.loop-term.invariant c.in_default.ensures c.told-live c.in_ok-parse.field-0.bytes.now _ (c.in_ok-parse.ensures.1 ∙ c.split_at.ensures.front ∙ c.args.self.cut.1.constant) c.in_ok-constant.ensures.0 c.in_ok-constant.ensures.1

pub returns-in_err-parse : goal.returns-in_err-parse
returns-in_err-parse c =
    let word = c.args.self.bytes.now in
    let written = (and_parts (is_number (constant_word word)) (list_all is_term (term_words word)) c.args.self.formed).0 in
    absurd (true≢false (sym written ∙ ap is_number (sym (c.split_at.ensures.front ∙ c.args.self.cut.1.constant)) ∙ c.in_err-parse.ensures))
