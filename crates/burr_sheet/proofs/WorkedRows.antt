-- Worked rows of the sheet, computed of the definitions.
use Rattle.std.specs.Prelude.{◌≡◌, ℕ, List, [], ◌∷◌, codes, pos, true, false, refl}
use Rattle.std.specs.Fmt.{digits}
use Rattle.burr_voxels.specs.declared.direction.Direction.TheVariants.{PlusX, MinusX, PlusY, PlusZ}
use Rattle.burr_state.specs.declared.effect.Motion.{Motion}
use Rattle.burr_state.specs.declared.effect.Trap.TheVariants.{NotFree, TrayInUse}
use Rattle.burr_state.specs.declared.effect.Closing.{Closing}
use Rattle.burr_state.specs.declared.effect.Closing.TheVariants as closings
use Rattle.burr_state.specs.Rules.Space.{motion_of}
use Rattle.burr_sheet.specs.Rules.SheetText.{sheet}
use Rattle.burr_sheet.specs.Views.SheetUnderWay.{blank, still}

abbrev two : List (List ℕ)
two = codes "A" ∷ codes "B" ∷ []

abbrev four : List (List ℕ)
four = codes "A" ∷ codes "B" ∷ codes "C" ∷ codes "D" ∷ []

-- A out by -x
pub one_out : sheet two (motion_of 1 0 MinusX true ∷ []) 3 closings.Apart ≡ codes "1 t0 A -x 0 out\nlevels 1\napart in 3 steps\n"
unfolding digits
one_out = refl

-- no motion, and a trap
pub no_line : sheet two [] 1 (closings.Trapped NotFree 0 5) ≡ codes "levels -\ntrap 3 NotFree proc 0 pc 5 after 1 steps\n"
unfolding digits
no_line = refl

-- no motion, and a question
pub waits : sheet two [] 1 (closings.Waiting (pos 0) (pos 2)) ≡ codes "levels -\nwaiting 0 2 after 1 steps\n"
unfolding digits
waits = refl

-- two outs
pub two_outs : sheet (codes "A" ∷ codes "M" ∷ codes "C" ∷ []) (motion_of 2 0 PlusY true ∷ motion_of 1 0 MinusX true ∷ []) 5 closings.Apart ≡ codes "1 t0 M +y 0 out\n2 t0 A -x 0 out\nlevels 1.1\napart in 5 steps\n"
unfolding digits
two_outs = refl

-- steps join the line of the out
pub steps_join : sheet two (motion_of 1 0 PlusZ false ∷ motion_of 1 0 PlusZ false ∷ motion_of 1 0 PlusZ false ∷ motion_of 1 0 PlusZ true ∷ []) 11 closings.Apart ≡ codes "1 t0 A +z 3 out\nlevels 1\napart in 11 steps\n"
unfolding digits
steps_join = refl

-- a line that the budget leaves without its out
pub stops_short : sheet two (motion_of 1 0 PlusZ false ∷ motion_of 1 0 PlusX false ∷ motion_of 1 0 PlusX false ∷ []) 10 closings.Stopped ≡ codes "1 t0 A +z 1\n2 t0 A +x 2\nlevels -\nstopped after 10 steps\n"
unfolding digits
stops_short = refl

-- two pieces at once, and a second tray
pub three_outs : sheet four (motion_of 12 0 PlusY true ∷ motion_of 1 0 MinusX true ∷ motion_of 4 1 MinusX true ∷ []) 8 closings.Apart ≡ codes "1 t0 C,D +y 0 out\n2 t0 A -x 0 out\n3 t1 C -x 0 out\nlevels 1.1.1\napart in 8 steps\n"
unfolding digits
three_outs = refl

-- lines since the out before
pub levels : sheet two (motion_of 1 0 PlusZ false ∷ motion_of 1 0 PlusX true ∷ motion_of 2 0 PlusX false ∷ motion_of 2 0 PlusY false ∷ motion_of 2 0 PlusZ true ∷ []) 7 (closings.Trapped TrayInUse 0 13) ≡ codes "1 t0 A +z 1\n2 t0 A +x 0 out\n3 t0 B +x 1\n4 t0 B +y 1\n5 t0 B +z 0 out\nlevels 2.3\ntrap 5 TrayInUse proc 0 pc 13 after 7 steps\n"
unfolding digits
levels = refl

-- of a sheet that no motion has come to, all is still to be written
pub blank_sheet : (names : List (List ℕ)) (motions : List Motion) (steps : ℕ) (closing : Closing) → still (blank names) motions steps closing ≡ sheet names motions steps closing
blank_sheet names motions steps closing = refl
