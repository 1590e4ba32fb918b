-- Three forms follow a tray.
use Rattle.std.proofs.Common.{◌≡◌, ◌<◌, ◌*◌, ◌==◌, false, ap, ◌∙◌, ℕ, arith, ne_eqb, lt-ltb}
use Rattle.std.proofs.lemmas.Bool.{or_right}
use Rattle.std.proofs.lemmas.Result.{err_from_is_err_and}
use Rattle.burr_container.specs.declared.fault.ContainerFault.TheVariants.{C4}
use Rattle.burr_container.specs.Rules.Fitting.{is_tray}
use Rattle.burr_container.proofs.Common.Places.{is_place_head}
use Rattle.burr_container.proofs.Chains.{byte_at}
use Rattle.burr_container.proofs.FormsRead.{place_at, place_fails}
use Rattle.burr_container.proofs.reading.parts.place.Goals as goal

pub returns-in_err-_forms-clause-reads : goal.returns-in_err-_forms-clause-reads
returns-in_err-_forms-clause-reads c =
    let tray = c.in_ok-first.first in
    let low : tray < 32 = omega (arith, c.if-first-ge-TRAYS.false) in
    let on : (tray == 255) ≡ false = ne_eqb tray 255 (omega (arith, low)) in
    let head =
    byte_at C4 is_place_head c.args.cursor.now c.byte.new.self tray (omega (arith, low))
    (or_right (tray == 255) (is_tray tray) (lt-ltb tray 32 low)) c.in_ok-first.ensures in
    let p = err_from_is_err_and c.from_residual-in_err-_forms.result c.from_residual-in_err-_forms.ensures.1 in
    rw (p.1, p.2)
    (place_fails c.args.live.now c.args.cursor.now c.byte.new.self tray _ head on
    (rw (← c.form_size.ensures.size) c.in_err-_forms.ensures.taken))

pub returns-clause-reads : goal.returns-clause-reads
returns-clause-reads c =
    let tray = c.in_ok-first.first in
    let low : tray < 32 = omega (arith, c.if-first-ge-TRAYS.false) in
    let on : (tray == 255) ≡ false = ne_eqb tray 255 (omega (arith, low)) in
    let head =
    byte_at C4 is_place_head c.args.cursor.now c.byte.new.self tray (omega (arith, low))
    (or_right (tray == 255) (is_tray tray) (lt-ltb tray 32 low)) c.in_ok-first.ensures in
    let took = c.in_ok-_forms.ensures in
    place_at c.args.live.now c.args.cursor.now c.byte.new.self c.bytes.new.self tray c.in_ok-_forms._forms.now head on
    (took.taken.0 ∙ ap (λ (n : ℕ). 3 * n) c.form_size.ensures.size) took.small took.taken.1
