-- Plans whose counts have room in their bytes.
use Rattle.std.specs.Prelude.{ℕ, ◌^◌, List, length, Bool, Option, Some, None, true, false, ◌&&◌, nat_le, nat_lt, [], ℤ}
use Rattle.std.specs.List.{list_all}
use Rattle.burr_code.specs.Instruction.{signed_word}
use Rattle.burr_container.specs.Rules.Plans.{Frame, ExitFrame, PlanProcedure}

abbrev pub has_room_in_frame : Frame → Bool
has_room_in_frame f = nat_lt (length f.guards) 256 && nat_lt (length f.stack) 256

abbrev pub has_room_in_label : ℕ × Frame → Bool
has_room_in_label label = has_room_in_frame label.1

abbrev pub has_room_in_exit : Option ExitFrame → Bool
has_room_in_exit None = true
has_room_in_exit (Some f) = nat_lt (length f.guards) 256

abbrev pub has_room : PlanProcedure → Bool
has_room p =
    nat_le p.parameters 4 && nat_le p.results 2 && has_room_in_exit p.exit
    && nat_lt (length p.labels) (2 ^ 16) && list_all has_room_in_label p.labels
    && nat_lt (length p.code) (2 ^ 16)

-- the bytes of a coefficient, if its slot is live
abbrev pub coef_bytes : Bool → ℤ → List ℕ
coef_bytes true c = signed_word c
coef_bytes false c = []
