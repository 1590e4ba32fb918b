use Rattle.burr_assembly.specs.Rules.Homes.{names_of}
use Rattle.burr_io.proofs.Common.Puts.{Puts-more, Puts-fails}
use Rattle.burr_step.proofs.ShownWords.{tray_line-parts}
use Rattle.burr_step.proofs.state_text.put_tray.Goals as goal

pub returns-in_err-put_all : goal.returns-in_err-put_all
returns-in_err-put_all g c =
    rw (tray_line-parts (names_of c.args.machine.now.assembly) c.args.machine.now.state)
    (Puts-fails _ c.in_err-put_all.ensures.puts c.from_residual.ensures.0)

pub returns-in_err-put_number : goal.returns-in_err-put_number
returns-in_err-put_number g c =
    let put = rw c.tray.ensures at c.in_err-put_number.ensures in
    rw (tray_line-parts (names_of c.args.machine.now.assembly) c.args.machine.now.state)
    (Puts-more c.in_ok-put_all.ensures.puts (Puts-fails _ put c.from_residual-in_err-put_number.ensures.0))

pub returns-in_err-put_all-2 : goal.returns-in_err-put_all-2
returns-in_err-put_all-2 g c =
    let tray = rw c.tray.ensures at c.in_ok-put_number.ensures in
    rw (tray_line-parts (names_of c.args.machine.now.assembly) c.args.machine.now.state)
    (Puts-more c.in_ok-put_all.ensures.puts (Puts-more tray (Puts-fails _ c.in_err-put_all-2.ensures.puts c.from_residual-in_err-put_all-2.ensures.0)))

pub returns-in_err-put_grip : goal.returns-in_err-put_grip
returns-in_err-put_grip g c =
    let tray = rw c.tray.ensures at c.in_ok-put_number.ensures in
    rw (tray_line-parts (names_of c.args.machine.now.assembly) c.args.machine.now.state)
    (Puts-more c.in_ok-put_all.ensures.puts (Puts-more tray (Puts-more c.in_ok-put_all-2.ensures.puts
    (Puts-fails _ c.in_err-put_grip.ensures c.from_residual-in_err-put_grip.ensures.0))))

pub returns : goal.returns
returns g c =
    let tray = rw c.tray.ensures at c.in_ok-put_number.ensures in
    rw (tray_line-parts (names_of c.args.machine.now.assembly) c.args.machine.now.state)
    (Puts-more c.in_ok-put_all.ensures.puts (Puts-more tray (Puts-more c.in_ok-put_all-2.ensures.puts (Puts-more c.in_ok-put_grip.ensures c.put_all-3.ensures.puts))))
