use Rattle.burr_asm.proofs.FormWords.{sign_cut_by, term_unsigned, term_without_v, term_without_number, term_without_slot, term_is_cut}
use Rattle.burr_asm.proofs.text.form.TermWords.cut.Goals as goal

pub returns-in_err-number_of : goal.returns-in_err-number_of
returns-in_err-number_of c = rw c.from_residual.ensures (term_unsigned _ c.requires c.in_err-number_of.ensures)

pub returns-in_err-coefficient : goal.returns-in_err-coefficient
returns-in_err-coefficient c = rw c.from_residual-in_err-coefficient.ensures (term_without_v _ c.requires _ c.in_ok-number_of.ensures.1 c.in_err-coefficient.ensures)

pub returns-in_err-coefficient-2 : goal.returns-in_err-coefficient-2
returns-in_err-coefficient-2 c =
    rw c.from_residual-in_err-coefficient-2.ensures
    (term_without_number _ c.requires _ _ _ c.in_ok-number_of.ensures.1 c.in_ok-coefficient.ensures c.in_err-coefficient-2.ensures)

pub returns-in_err-slot : goal.returns-in_err-slot
returns-in_err-slot c =
    rw c.from_residual-in_err-slot.ensures
    (term_without_slot _ c.requires _ _ _ c.in_ok-number_of.ensures.1 c.in_ok-coefficient.ensures _ _
    (sign_cut_by _ _ _ _ c.before_sign.ensures.value c.split_at.ensures.front c.split_at.ensures.back) c.in_err-slot.ensures)

pub returns : goal.returns
returns c =
    term_is_cut _ _ _ _ _ _ c.in_ok-number_of.ensures.0 c.in_ok-number_of.ensures.1 c.in_ok-coefficient.ensures
    (sign_cut_by _ _ _ _ c.before_sign.ensures.value c.split_at.ensures.front c.split_at.ensures.back) _ _ c.in_ok-coefficient-2.ensures.0 c.in_ok-coefficient-2.ensures.1 c.in_ok-slot.ensures.0 c.in_ok-slot.ensures.1
