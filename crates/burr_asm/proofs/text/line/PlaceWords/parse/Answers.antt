use Rattle.std.proofs.Common.{rules, ap, ◌∙◌}
use Rattle.std.specs.Prelude.{◌≢◌, codes}
use Rattle.burr_plantext.specs.Rules.Texts.{words_of}
use Rattle.burr_asm.proofs.LineForms.{mapped, on, place_cut, place_none}
use Rattle.burr_asm.proofs.text.line.PlaceWords.parse.Goals as goal

pub returns-in_err-tray : goal.returns-in_err-tray
returns-in_err-tray c =
    let differs : c.args.bytes.now ≢ codes "apart" = search rules in
    rw c.from_residual.ensures (place_none c.args.bytes.now differs c.in_err-tray.ensures)

pub returns-in_err-x : goal.returns-in_err-x
returns-in_err-x c = rw c.from_residual-in_err-x.ensures
    (place_cut (words_of c.args.bytes.now) c.in_ok-tray.tray.bytes.now (words_of c.in_ok-tray.forms.now) c.in_ok-tray.ensures
    ∙ ap (mapped (on c.in_ok-tray.tray.bytes.now)) c.in_err-x.ensures)

pub returns : goal.returns
returns c =
    place_cut (words_of c.args.bytes.now) c.in_ok-tray.tray.bytes.now (words_of c.in_ok-tray.forms.now) c.in_ok-tray.ensures
    ∙ ap (mapped (on c.in_ok-tray.tray.bytes.now)) c.in_ok-x.ensures
