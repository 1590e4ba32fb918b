use Rattle.std.proofs.Common.{rules, ◌≡◌, true, false, sym, ◌∙◌, arith}
use Rattle.burr_container.specs.Rules.Fitting.{is_name_text}
use Rattle.burr_plantext.specs.Rules.Texts.{words_of}
use Rattle.burr_plantext.proofs.Common.Cuts.{all_uncut}
use Rattle.burr_plantext.proofs.Common.WordTests.{name_result}
use Rattle.burr_asm.proofs.Offers.{count_cut, count_uncut, some_words, too_many, no_name_next, name_next, name_last}
use Rattle.burr_asm.proofs.Words.{cut_shorter}
use Rattle.burr_asm.proofs.text.names.count_names.Goals.{then-count-eq8-via-then-count-eq8, then-count-eq8-via-else-count-eq8+then-not-is_name}
use Rattle.burr_asm.proofs.text.names.count_names.Goals as goal

pub returns-then-count-eq8 : goal.returns-then-count-eq8
returns-then-count-eq8 c = elim c.then-count-eq8.branch [
  | then-count-eq8-via-then-count-eq8 w ↦ too_many (words_of c.args.bytes.now) (omega (arith, count_cut _ _ _ c.in-Some.ensures, some_words c.in-Some.more.now))
  | then-count-eq8-via-else-count-eq8+then-not-is_name w ↦
      (let no : w.is_name.result ≡ false = search rules in
      no_name_next c.args.bytes.now _ _ _ w.is_name.result c.loop-word.invariant.named c.in-Some.ensures (name_result _ _ w.is_name.ensures) no)
]

pub loop-word-preserved : goal.loop-word-preserved
loop-word-preserved c =
    let is : c.is_name.result ≡ true = search rules in
    record {
      some = omega arith;
      few = omega arith;
      counted = omega (arith, count_cut _ _ _ c.in-Some.ensures);
      named = c.loop-word.invariant.named ∙ name_next _ _ _ c.is_name.result c.in-Some.ensures (name_result _ _ c.is_name.ensures) is;
    }

pub returns : goal.returns
returns c =
    rw c.then_some.ensures
    (name_last (words_of c.args.bytes.now) c.is_name-2.result c.loop-word.count
    (name_result _ _ c.is_name-2.ensures ∙ sym (all_uncut is_name_text 32 c.loop-word.rest.now c.in_default.ensures) ∙ sym c.loop-word.invariant.named)
    (omega (arith, count_uncut _ c.in_default.ensures)) c.loop-word.invariant.few)

pub loop-word-smaller : goal.loop-word-smaller
loop-word-smaller c = cut_shorter _ _ _ c.in-Some.ensures
