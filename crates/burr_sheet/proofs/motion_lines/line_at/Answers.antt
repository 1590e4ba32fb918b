use Rattle.std.proofs.Common.{sym, ◌∙◌}
use Rattle.burr_assembly.specs.Rules.Homes.{names_of}
use Rattle.burr_sheet.specs.Views.MotionLines.{line_of}
use Rattle.burr_sheet.proofs.GroupNames.{names_of_assembly}
use Rattle.burr_sheet.proofs.LineTexts.{line-words, line_of_words, one_line, words_are_plain, words_of_line}
use Rattle.burr_sheet.proofs.motion_lines.line_at.Goals as goal

pub returns-in_err-words : goal.returns-in_err-words
returns-in_err-words c =
    let names = names_of c.args.assembly.now in
    let are = names_of_assembly c.args.assembly.now c.a_reference_holds_an_assembly.ensures in
    rw c.from_residual.ensures (λ l after line e. c.in_err-words.ensures _ _ _ _ after (words_are_plain names l are) (e ∙ line-words names c.args.number l after))

pub returns-in_err-line_with : goal.returns-in_err-line_with
returns-in_err-line_with c =
    let are = names_of_assembly c.args.assembly.now c.a_reference_holds_an_assembly.ensures in
    rw c.from_residual-in_err-line_with.ensures (λ l after line e.
    c.in_err-line_with.ensures l line (words_of_line _ c.args.number _ _ _ l after are c.in_ok-words.ensures.0 c.in_ok-words.ensures.1 e))

pub returns : goal.returns
returns c =
    let names = names_of c.args.assembly.now in
    let are = names_of_assembly c.args.assembly.now c.a_reference_holds_an_assembly.ensures in
    let line = line_of c.in_ok-line_with.field-0 in
    let parts = line_of_words names c.args.number _ _ _ line c.in_ok-line_with.ensures.1 c.in_ok-words.ensures.1 in
    record {
      line = c.in_ok-line_with.ensures.0;
      parts = parts;
      alone = λ k more fits e. one_line names c.args.number k line more _ are fits c.in_ok-line_with.ensures.0 (sym e ∙ parts);
    }
