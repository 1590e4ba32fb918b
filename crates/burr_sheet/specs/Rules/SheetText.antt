-- The sheet of a run: its motions in lines, the levels, and how it closed.
use Rattle.std.specs.Prelude.{ℕ, suc, ◌+◌, List, [], ◌∷◌, ◌++◌, Bool, true, false, ◌&&◌, not, ◌==◌, if◌then◌else◌, codes, map, decimal, replicate}
use Rattle.std.specs.List.{join_with_byte}
use Rattle.std.specs.Fmt.{signed_decimal}
use Rattle.burr_text.specs.Words.{text_line}
use Rattle.burr_voxels.specs.declared.direction.Direction.{Direction}
use Rattle.burr_voxels.specs.Grid.{number_of, name_of}
use Rattle.burr_code.specs.PieceSets.{is_left_out}
use Rattle.burr_state.specs.declared.effect.Motion.{Motion}
use Rattle.burr_state.specs.declared.effect.Trap.{Trap}
use Rattle.burr_state.specs.Rules.TrapNames.{trap_number, trap_name}
use Rattle.burr_state.specs.declared.effect.Closing.{Closing}
use Rattle.burr_state.specs.declared.effect.Closing.TheVariants as closings

-- a line of a sheet: unit steps of one group in one tray along one direction, and whether an aside
-- ends them
pub record MoveLine : Type 0 where
  pub group : ℕ
  pub tray : ℕ
  pub direction : Direction
  pub units : ℕ
  pub out : Bool

-- the line of one motion
abbrev pub alone : Motion → MoveLine
alone m = record {
  group = m.group;
  tray = m.tray;
  direction = m.dir;
  units = if m.out then 0 else 1;
  out = m.out;
}

-- a motion of a line: a step, or an aside
abbrev pub motion_on : MoveLine → Bool → Motion
motion_on l out =
    record { group = l.group; tray = l.tray; dir = l.direction; out = out }

-- the aside of a line, if it ends in one
abbrev pub aside_of : MoveLine → List Motion
aside_of l = if l.out then (motion_on l true ∷ []) else []

-- the motions of a line: its steps, and the aside
abbrev pub motions_of : MoveLine → List Motion
motions_of l = replicate l.units (motion_on l false) ++ aside_of l

-- how many motions a line has
abbrev pub motion_count : MoveLine → ℕ
motion_count l = l.units + (if l.out then 1 else 0)

-- a line that does not end in an aside and the one after it are of one group, tray and direction
abbrev pub is_one : MoveLine → MoveLine → Bool
is_one l m =
    (l.group == m.group) && (l.tray == m.tray)
    && (number_of l.direction == number_of m.direction)

-- A motion goes onto the line after it where group, tray and direction are equal and it is no
-- aside.
abbrev pub goes_onto : Motion → MoveLine → Bool
goes_onto m l =
    not m.out && (m.group == l.group) && (m.tray == l.tray)
    && (number_of m.dir == number_of l.direction)

-- lines with a motion before them: it goes onto the first, or has a line of its own
abbrev pub with_motion : Motion → List MoveLine → List MoveLine
with_motion m [] = alone m ∷ []
with_motion m (l ∷ ls) =
    if goes_onto m l then (record l { units = l.units + 1 } ∷ ls) else (alone m ∷ l ∷ ls)

-- the motions, cut into longest lines
abbrev pub longest_lines : List Motion → List MoveLine
longest_lines [] = []
longest_lines (m ∷ ms) = with_motion m (longest_lines ms)

-- the levels of lines that stand after n lines since an out: for each out, how many lines there
-- are since the out before it, its own included
abbrev pub levels_from : ℕ → List MoveLine → List ℕ
levels_from n [] = []
levels_from n (l ∷ ls) = if l.out then ((n + 1) ∷ levels_from 0 ls) else levels_from (n + 1) ls

-- of the names of the pieces from piece p on, those of the pieces of a group
abbrev pub names_from : ℕ → ℕ → List (List ℕ) → List (List ℕ)
names_from p group [] = []
names_from p group (name ∷ names) =
    if is_left_out group p then names_from (suc p) group names
    else (name ∷ names_from (suc p) group names)

-- the word `out` of a line that an aside ends
abbrev pub out_word : Bool → List (List ℕ)
out_word out = if out then (codes "out" ∷ []) else []

-- the words of the n-th line
abbrev pub move_words : List (List ℕ) → ℕ → MoveLine → List (List ℕ)
move_words names n l =
    decimal n ∷ (codes "t" ++ decimal l.tray) ∷ join_with_byte 44 (names_from 0 l.group names)
    ∷ name_of l.direction ∷ decimal l.units ∷ out_word l.out

-- the n-th line
abbrev pub move_line : List (List ℕ) → ℕ → MoveLine → List ℕ
move_line names n l = text_line (move_words names n l)

-- lines, the first of them the n-th
abbrev pub move_lines : List (List ℕ) → ℕ → List MoveLine → List ℕ
move_lines names n [] = []
move_lines names n (l ∷ ls) = move_line names n l ++ move_lines names (suc n) ls

-- levels with a dot between each two, and a dash for none
abbrev pub levels_word : List ℕ → List ℕ
levels_word [] = codes "-"
levels_word (n ∷ ns) = join_with_byte 46 (map decimal (n ∷ ns))

-- the line of the levels
abbrev pub levels_line : List ℕ → List ℕ
levels_line levels = text_line (codes "levels" ∷ levels_word levels ∷ [])

-- the words `after N steps`
abbrev pub after_words : ℕ → List (List ℕ)
after_words steps = codes "after" ∷ decimal steps ∷ codes "steps" ∷ []

-- the words of a trap and of its place
abbrev pub trap_words : Trap → ℕ → ℕ → List (List ℕ)
trap_words trap procedure pc =
    codes "trap" ∷ decimal (trap_number trap) ∷ trap_name trap
    ∷ codes "proc" ∷ decimal procedure ∷ codes "pc" ∷ decimal pc ∷ []

-- the line that tells how a run closed, after this many steps
abbrev pub closing_line : Closing → ℕ → List ℕ
closing_line closings.Apart steps =
    text_line (codes "apart" ∷ codes "in" ∷ decimal steps ∷ codes "steps" ∷ [])
closing_line (closings.Waiting low high) steps =
    text_line (codes "waiting" ∷ signed_decimal low ∷ signed_decimal high ∷ after_words steps)
closing_line (closings.Trapped trap procedure pc) steps =
    text_line (trap_words trap procedure pc ++ after_words steps)
closing_line closings.Stopped steps = text_line (codes "stopped" ∷ after_words steps)

-- the lines of motions
abbrev pub motion_lines : List (List ℕ) → List Motion → List ℕ
motion_lines names motions = move_lines names 1 (longest_lines motions)

-- The sheet of a run, a function of its motions, its steps and its closing.
abbrev pub sheet : List (List ℕ) → List Motion → ℕ → Closing → List ℕ
sheet names motions steps closing =
    motion_lines names motions
    ++ levels_line (levels_from 0 (longest_lines motions))
    ++ closing_line closing steps
