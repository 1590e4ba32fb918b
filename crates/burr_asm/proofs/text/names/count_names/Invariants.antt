use Rattle.std.proofs.Common.{◌≡◌, ◌≤◌, ◌+◌, length}
use Rattle.std.specs.List.{list_all}
use Rattle.burr_container.specs.Rules.Fitting.{is_name_text}
use Rattle.burr_plantext.specs.Rules.Texts.{words_of}
use Rattle.burr_asm.proofs.text.names.count_names.Given as goal

-- the words before the rest are names; these are counted, and the first word of the rest
abbrev pub invariant-loop-word : goal.invariant-loop-word
invariant-loop-word l = record {
  some : 1 ≤ l.count;
  few : l.count ≤ 8;
  counted : length (words_of l.fn.bytes) + 1 ≡ l.count + length (words_of l.rest);
  named : list_all is_name_text (words_of l.fn.bytes) ≡ list_all is_name_text (words_of l.rest);
}

abbrev pub decreases-loop-word : goal.decreases-loop-word
decreases-loop-word l = length l.rest
