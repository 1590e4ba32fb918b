use Rattle.std.proofs.lemmas.Bool.{and_left, and_right}
use Rattle.burr_asm.proofs.text.frame.place.Goals as goal

pub returns-in_err-x-in-On : goal.returns-in_err-x-in-On
returns-in_err-x-in-On c = rw (c.from_residual.ensures, c.in-On.is) (and_left _ _ (and_left _ _ (and_right _ _ c.in_err-x-in-On.ensures)))

pub returns-in_err-y-in-On : goal.returns-in_err-y-in-On
returns-in_err-y-in-On c = rw (c.from_residual-in_err-y-in-On.ensures, c.in-On.is) (and_left _ _ (and_right _ _ c.in_err-y-in-On.ensures))

pub returns-in_err-z-in-On : goal.returns-in_err-z-in-On
returns-in_err-z-in-On c = rw (c.from_residual-in_err-z-in-On.ensures, c.in-On.is) (and_right _ _ c.in_err-z-in-On.ensures)

pub returns-in_err-tray-in-On : goal.returns-in_err-tray-in-On
returns-in_err-tray-in-On c = rw (c.from_residual-in_err-tray-in-On.ensures, c.in-On.is) (and_left _ _ (and_left _ _ (and_left _ _ c.in_err-tray-in-On.ensures.value)))
