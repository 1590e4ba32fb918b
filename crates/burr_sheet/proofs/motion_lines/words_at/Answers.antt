-- What an exit has cut off are the words of a line, so there is one only where another byte is left to cut at.
use Rattle.burr_sheet.proofs.LineTexts.{cut_same, no_cut, number_same}
use Rattle.burr_sheet.proofs.motion_lines.words_at.Goals as goal

pub returns-in_err-tray : goal.returns-in_err-tray
returns-in_err-tray c = rw c.from_residual-in_err-tray.ensures (λ tray names direction ending after plain e.
    let in_number = number_same c.args.number _ _ tray names direction ending after c.in_ok-text.ensures e in
    no_cut 32 _ tray _ c.in_err-tray.ensures in_number)

pub returns-in_err-names : goal.returns-in_err-names
returns-in_err-names c = rw c.from_residual-in_err-names.ensures (λ tray names direction ending after plain e.
    let in_number = number_same c.args.number _ _ tray names direction ending after c.in_ok-text.ensures e in
    let in_tray = cut_same 32 _ _ _ tray _ c.in_ok-tray.ensures plain.tray in_number in
    no_cut 32 _ names _ c.in_err-names.ensures in_tray.1)

pub returns-in_err-direction : goal.returns-in_err-direction
returns-in_err-direction c = rw c.from_residual-in_err-direction.ensures (λ tray names direction ending after plain e.
    let in_number = number_same c.args.number _ _ tray names direction ending after c.in_ok-text.ensures e in
    let in_tray = cut_same 32 _ _ _ tray _ c.in_ok-tray.ensures plain.tray in_number in
    let in_names = cut_same 32 _ _ _ names _ c.in_ok-names.ensures plain.names in_tray.1 in
    no_cut 32 _ direction _ c.in_err-direction.ensures in_names.1)

pub returns-in_err-ending : goal.returns-in_err-ending
returns-in_err-ending c = rw c.from_residual-in_err-ending.ensures (λ tray names direction ending after plain e.
    let in_number = number_same c.args.number _ _ tray names direction ending after c.in_ok-text.ensures e in
    let in_tray = cut_same 32 _ _ _ tray _ c.in_ok-tray.ensures plain.tray in_number in
    let in_names = cut_same 32 _ _ _ names _ c.in_ok-names.ensures plain.names in_tray.1 in
    let in_direction = cut_same 32 _ _ _ direction _ c.in_ok-direction.ensures plain.direction in_names.1 in
    no_cut 10 _ ending _ c.in_err-ending.ensures in_direction.1)
