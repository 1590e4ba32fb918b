use Rattle.std.proofs.Common.{◌≡◌, IsTrue, length}
use Rattle.std.specs.List.{list_all}
use Rattle.burr_plantext.specs.Rules.Written.{is_term}
use Rattle.burr_asm.specs.Views.Forms.{begins_term, terms_of}
use Rattle.burr_asm.proofs.text.form.are_terms.Given as goal

-- what is left is judged as all of the bytes
abbrev pub invariant-loop-term : goal.invariant-loop-term
invariant-loop-term l = record {
  begins : IsTrue (begins_term l.rest);
  same : list_all is_term (terms_of l.fn.bytes) ≡ list_all is_term (terms_of l.rest);
}

abbrev pub decreases-loop-term : goal.decreases-loop-term
decreases-loop-term l = length l.rest
