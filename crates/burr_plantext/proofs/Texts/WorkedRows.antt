-- Worked rows of the definitions: texts with their plans and their faults, and a listing.
use Rattle.std.proofs.Common.{◌≡◌, ℕ, List, [], ◌∷◌, ◌++◌, codes, refl, pos, neg_ℤ, ℤ, inl, inr, replicate, map, flat_map, suc, ◌+◌, ◌^◌, IsTrue, arith, Option, Some, None, Result, Ok, Err, sym, ap, ◌∙◌}
use Rattle.burr_code.specs.Instruction.{Instruction, Begins, spelled}
use Rattle.burr_code.specs.declared.placement.Placement.{Placement}
use Rattle.burr_forms.specs.Rules.Forms.{Form}
use Rattle.burr_container.specs.Rules.Plans.{Range, FormCell, Frame, PlanProcedure, Plan}
use Rattle.burr_plantext.specs.Rules.Statements.{Statement, Push, Byte}
use Rattle.burr_plantext.specs.Rules.Lines.{ProcedureWords}
use Rattle.burr_plantext.specs.Rules.Sources.{Block, ProcedureSource, PlanSource}
use Rattle.burr_plantext.specs.Rules.Meaning.{plan_of}
use Rattle.burr_plantext.specs.Rules.Texts.{StandsFor, lines_read, line_number}
use Rattle.burr_plantext.specs.Rules.Checks.{FaultKind, P1, P2, P3, P4, P5}
use Rattle.burr_plantext.specs.Rules.Faults.{PlacedFault, judgement, HasFault}
use Rattle.burr_container.specs.Rules.Fitting.{is_fitting}
use Rattle.burr_plantext.specs.Rules.Listing.{IsListing, MayBeListed, IsCodeListed, frame_listed, exit_listed, instruction_listed, title_of, head_of, label_name}
use Rattle.std.specs.Fmt.{digits}
use Rattle.burr_text.proofs.Common.Cuts.{same_head, same_tail}
use Rattle.burr_code.specs.Instruction as code
use Rattle.burr_voxels.specs.declared.direction.Direction.TheVariants.{MinusX, PlusY}
use Rattle.burr_code.specs.declared.placement.Placement.TheVariants.{On}
use Rattle.std.proofs.lemmas.Option.{same_Some}

-- Plans

-- a form over two symbols
abbrev form : ℤ → ℤ → ℤ → Form
form constant a b = record { constant = constant; coefs = a ∷ b ∷ replicate 6 (pos 0) }

abbrev plain : ℕ → Form
plain n = form (pos n) (pos 0) (pos 0)

-- in tray 0, moved along z alone
abbrev along_z : Form → Placement FormCell
along_z z = On 0 (record { x = plain 0; y = plain 0; z = z })

abbrev slots : Option Range → Option Range → List (Option Range)
slots a b = a ∷ b ∷ replicate 6 None

abbrev up_to : ℕ → Option Range
up_to n = Some (pos 0, pos n)

-- a frame of two pieces; the second stays at home
abbrev frame : ℕ → List (Option Range) → List Form → Form → Form → Frame
frame grip live guards cost z = record {
  tray = 0;
  grip = grip;
  slots = live;
  guards = guards;
  stack = [];
  cost = cost;
  places = along_z z ∷ along_z (plain 0) ∷ [];
}

abbrev start : ℕ → Frame
start cost = frame 0 (slots None None) [] (plain cost) (plain 0)

abbrev main : List (ℕ × Frame) → List ℕ → PlanProcedure
main labels bytes = record { parameters = 0; results = 0; exit = None; labels = labels; code = bytes }

abbrev ring : Plan
ring = record {
  version = 1;
  name = codes "ring";
  pieces = 2;
  budget = 11;
  procedures = main
      ((0, start 11) ∷ (10, frame 1 (slots (up_to 2) None) [] (form (pos 4) (pos 2) (pos 0)) (form (pos 2) (neg_ℤ (pos 1)) (pos 0))) ∷ [])
      (16 ∷ 0 ∷ 0 ∷ 0 ∷ 1 ∷ 1 ∷ 0 ∷ 2 ∷ 3 ∷ 0 ∷ 17 ∷ 4 ∷ 33 ∷ 0 ∷ 0 ∷ 1 ∷ 18 ∷ 4 ∷ 1 ∷ 0 ∷ []) ∷ [];
}

-- the guard and the offset of the cup's frames: one slot less the other, and a number
abbrev above : ℤ → Form
above n = form n (pos 1) (neg_ℤ (pos 1))

abbrev cup_labels : List (ℕ × Frame)
cup_labels =
    (16, frame 1 (slots (up_to 2) (up_to 2)) (above (pos 0) ∷ []) (form (pos 3) (pos 0) (pos 3)) (above (pos 0)))
    ∷ (24, frame 1 (slots (up_to 2) (up_to 1)) (above (neg_ℤ (pos 1)) ∷ []) (form (pos 5) (pos 0) (pos 3)) (above (neg_ℤ (pos 1))))
    ∷ []

abbrev cup : Plan
cup = record {
  version = 1;
  name = codes "cup";
  pieces = 2;
  budget = 14;
  procedures = main ((0, start 14) ∷ cup_labels)
      (16 ∷ 0 ∷ 0 ∷ 0 ∷ 1 ∷ 34 ∷ 0 ∷ 0 ∷ 0 ∷ 2 ∷ 3 ∷ 0 ∷ 2 ∷ 0 ∷ 3 ∷ 1 ∷ 33 ∷ 1 ∷ 0 ∷ 2 ∷ 18 ∷ 4 ∷ 1 ∷ 0 ∷ 17 ∷ 4 ∷ 32 ∷ 0 ∷ 1 ∷ []) ∷ [];
}

-- Texts that stand for plans

-- the source that a text is
abbrev source_of : Result PlanSource PlacedFault → PlanSource → PlanSource
source_of (Ok s) other = s
source_of (Err found) other = other

abbrev blank : PlanSource
blank = record { title = record { version = 1; name = []; pieces = []; budget = [] }; procedures = [] }

abbrev source_in : List ℕ → PlanSource
source_in text = source_of (judgement (lines_read text)) blank

abbrev ring_text : List ℕ
ring_text = codes "plan ring 2 11\nproc main 0\nlabel start\nframe 0 -\ncost 11\nat 0 0 0 0 0\nat 1 0 0 0 0\ngrip 0\npush 2\nstore 0\nlabel L\nframe 0 0\nslot 0 0 2\ncost 4+2v0\nat 0 0 0 0 2-1v0\nat 1 0 0 0 0\nstep +z\ndown 0 L\naside +z 1\nhalt\n"

ring_stands : StandsFor ring_text ring
ring_stands = (source_in ring_text, record { right = refl; lines = refl }, refl)

ring_fits : IsTrue (is_fitting ring)
ring_fits = refl

abbrev cup_text : List ℕ
cup_text = codes "plan cup 2 14\nproc main 0\nlabel start\nframe 0 -\ncost 14\nat 0 0 0 0 0\nat 1 0 0 0 0\ngrip 0\nask 0 2\nstore 0\nload 0\nstore 1\nlabel L\nframe 0 0\nslot 0 0 2\nslot 1 0 2\nguard 0+1v0-1v1\ncost 3+3v1\nat 0 0 0 0 0+1v0-1v1\nat 1 0 0 0 0\ndown 1 M\naside +z 1\nhalt\nlabel M\nframe 0 0\nslot 0 0 2\nslot 1 0 1\nguard -1+1v0-1v1\ncost 5+3v1\nat 0 0 0 0 -1+1v0-1v1\nat 1 0 0 0 0\nstep +z\njump L\n"

cup_stands : StandsFor cup_text cup
cup_stands = (source_in cup_text, record { right = refl; lines = refl }, refl)

cup_fits : IsTrue (is_fitting cup)
cup_fits = refl

-- the same with a comment and an empty line
commented_cup_stands : StandsFor (codes "; a dot in a bowl\n\n" ++ cup_text) cup
commented_cup_stands = (source_in cup_text, record { right = refl; lines = refl }, refl)

-- a plan of version 2, whose second procedure has a result
abbrev lift_text : List ℕ
lift_text = codes "plan2 cup 2 18\nproc main 0 0\nlabel start\nframe 0 -\ncost 18\nat 0 0 0 0 0\nat 1 0 0 0 0\ngrip 0\ncall lift\ndrop\naside +z 1\nhalt\nproc lift 0 1\nexit 0 0\nresult 0 2\nat 0 0 0 0 0+1v0\nat 1 0 0 0 0\nlabel start\nframe 0 0\ncost 13\nat 0 0 0 0 0\nat 1 0 0 0 0\nask 0 2\nstore 0\nload 0\nstore 1\nlabel L\nframe 0 0\nslot 0 0 2\nslot 1 0 2\nguard 0+1v0-1v1\ncost 3+3v1\nat 0 0 0 0 0+1v0-1v1\nat 1 0 0 0 0\ndown 1 M\nload 0\nret\nlabel M\nframe 0 0\nslot 0 0 2\nslot 1 0 1\nguard -1+1v0-1v1\ncost 5+3v1\nat 0 0 0 0 -1+1v0-1v1\nat 1 0 0 0 0\nstep +z\njump L\n"

abbrev lift : Plan
lift = plan_of (source_in lift_text)

lift_stands : StandsFor lift_text lift
lift_stands = (source_in lift_text, record { right = refl; lines = refl }, refl)

lift_fits : IsTrue (is_fitting lift)
lift_fits = refl

-- the code and the exit frame of its procedures
lift_code : map (λ (p : PlanProcedure). p.code) lift.procedures
    ≡ (16 ∷ 0 ∷ 0 ∷ 0 ∷ 1 ∷ 36 ∷ 1 ∷ 6 ∷ 18 ∷ 4 ∷ 1 ∷ 0 ∷ []) ∷ (34 ∷ 0 ∷ 0 ∷ 0 ∷ 2 ∷ 3 ∷ 0 ∷ 2 ∷ 0 ∷ 3 ∷ 1 ∷ 33 ∷ 1 ∷ 0 ∷ 2 ∷ 2 ∷ 0 ∷ 37 ∷ 17 ∷ 4 ∷ 32 ∷ 0 ∷ 1 ∷ []) ∷ []
lift_code = refl

lift_exit : map (λ (p : PlanProcedure). p.exit) lift.procedures
    ≡ None ∷ Some (record { tray = 0; grip = 1; results = (pos 0, pos 2) ∷ []; guards = []; places = along_z (form (pos 0) (pos 1) (pos 0)) ∷ along_z (plain 0) ∷ [] }) ∷ []
lift_exit = refl

-- Faults

abbrev fault_of : List ℕ → Result PlanSource PlacedFault → Option (FaultKind × ℕ)
fault_of text (Ok s) = None
fault_of text (Err found) = Some (found.0, line_number text found.1)

found : (text : List ℕ) (kind : FaultKind) (line : ℕ) → fault_of text (judgement (lines_read text)) ≡ Some (kind, line) → HasFault text kind line
found text kind line e = by (judgement (lines_read text)) refl e
  where
    by : (r : Result PlanSource PlacedFault) → judgement (lines_read text) ≡ r → fault_of text r ≡ Some (kind, line) → HasFault text kind line
    by (Ok s) is e = cc
    by (Err fault) is e =
        let same = same_Some (fault.0, line_number text fault.1) (kind, line) e in
        record { place = fault.1; found = is ∙ ap (λ (f : FaultKind × ℕ). Err (f.0, fault.1)) same; number = sym (ap (λ (f : FaultKind × ℕ). f.1) same) }

-- each text has its fault, at the line of its number
abbrev AreFaults : List (List ℕ × FaultKind × ℕ) → Type 0
AreFaults [] = Unit {0}
AreFaults (row ∷ rows) = HasFault row.0 row.1 row.2 × AreFaults rows

-- a part that is due, or that may not stand there
part_faults : AreFaults (
    (codes "plan ring 2 11\nproc main 0\nframe 0 -\ncost 11\nat 0 0 0 0 0\nat 1 0 0 0 0\ngrip 0\npush 2\nstore 0\nlabel L\nframe 0 0\nslot 0 0 2\ncost 4+2v0\nat 0 0 0 0 2-1v0\nat 1 0 0 0 0\nstep +z\ndown 0 L\naside +z 1\nhalt\n", P5, 3)  -- without first label
    ∷ (codes "plan ring 2 11\nproc main 0\nlabel start\nframe 0 -\ncost 11\nat 0 0 0 0 0\nat 1 0 0 0 0\ngrip 0\npush 2\nstore 0\nlabel L\n", P5, 12)  -- cut behind label
    ∷ (codes "plan ring 2 11\nproc main 0\nlabel start\nfram 0 -\ncost 11\nat 0 0 0 0 0\nat 1 0 0 0 0\ngrip 0\npush 2\nstore 0\nlabel L\nframe 0 0\nslot 0 0 2\ncost 4+2v0\nat 0 0 0 0 2-1v0\nat 1 0 0 0 0\nstep +z\ndown 0 L\naside +z 1\nhalt\n", P5, 4)  -- no frame
    ∷ (codes "plan ring 2 11\nproc main 0\nlabel start\n frame 0 -\ncost 11\nat 0 0 0 0 0\nat 1 0 0 0 0\ngrip 0\npush 2\nstore 0\nlabel L\nframe 0 0\nslot 0 0 2\ncost 4+2v0\nat 0 0 0 0 2-1v0\nat 1 0 0 0 0\nstep +z\ndown 0 L\naside +z 1\nhalt\n", P5, 4)  -- blank before frame
    ∷ (codes "plan ring 2 11\nproc main 0\nlabel start\nframe 0 -\ncost 11\nat 0 0 0 0 0\nat 1 0 0 0 0\ngrip 0\npush 2\nstore 0\nlabel L\nframe 0 0\nslot 0 0 2\ncost 4+2v0\nat 0 0 0 0 2-1v0\nat 1 0 0 0 0\nstep +z\ndown 0 L\naside +z 1\nhalt\nlabel M\nframe 0 -\ncost 1\nat 0 apart\nat 1 apart\n", P4, 21)  -- label at end
    ∷ (codes "plan ring 2 11\nproc main 0\nlabel start\nframe 0 -\ncost 11\nat 0 0 0 0 0\nat 1 0 0 0 0\ngrip 0\npush 2\nstore 0\nlabel L\nframe 0 0\nslot 0 0 2\ncost 4+2v0\nat 0 0 0 0 2-1v0\nat 1 0 0 0 0\nstep +z\ndown 0 L\naside +z 1\nhalt\nlabel M\nframe 0 -\ncost 1\nat 0 apart\nat 1 apart\nproc main 9\n", P4, 21)  -- label at procedure
    ∷ (codes "plan ring 2 11\nproc main 0\nlabel start\nframe 0 -\ncost 11\nat 0 0 0 0 0\nat 1 0 0 0 0\ngrip 0\npush 2\nstore 0\nlabel L\nframe 0 0\nslot 0 0 2\ncost 4+2v0\nat 0 0 0 0 2-1v0\nat 1 0 0 0 0\nstep +z\ndown 0 L\naside +z 1\nhalt\nlabel M\nframe 0 -\ncost 1\nat 0 apart\nat 1 apart\nproc main x\n", P1, 26)  -- no label seen
    ∷ (codes "plan ring 2 11\nproc main 0\nexit 0 -\nframe 0 -\ncost 11\nat 0 0 0 0 0\nat 1 0 0 0 0\ngrip 0\npush 2\nstore 0\nlabel L\nframe 0 0\nslot 0 0 2\ncost 4+2v0\nat 0 0 0 0 2-1v0\nat 1 0 0 0 0\nstep +z\ndown 0 L\naside +z 1\nhalt\n", P5, 3)  -- exit of main
    ∷ (codes "plan ring 2 11\nproc main 0\nlabel start\nframe 0 -\ncost 11\nat 0 0 0 0 0\nat 1 0 0 0 0\ngrip 0\npush 2\nstore 0\nlabel L\nframe 0 0\nslot 0 0 2\ncost 4+2v0\nat 0 0 0 0 2-1v0\nat 1 0 0 0 0\nstep +z\ndown 0 L\naside +z 1\nlabel M\nframe 0 -\ncost 1\nat 0 apart\nat 1 apart\nlabel N\n", P4, 25)  -- labels at one place
    ∷ (codes "plan ring 2 11\nproc main 0\nlabel start\nframe 0 -\ncost 11\nat 0 0 0 0 0\nat 1 0 0 0 0\ngrip 0\npush 2\nstore 0\nlabel L\nframe 0 0\nslot 0 0 2\n", P1, 14)  -- ends in a frame
    ∷ (codes "plan ring 2 11\nproc main 0\nlabel start\nfram 0 -", P5, 4)  -- unended wrong word
    ∷ (codes "plan ring 2 11\nproc main 0\nlabel start\nframe 0 -", P1, 4)  -- unended frame
    ∷ (codes "plan ring 2 11\nproc main 0\nlabel start\nframe 0 -\ncost 11\nat 0 0 0 0 0\nat 1 0 0 0 0\ngrip 0\npush 2\nstore 0\nlabel L\nframe 0 0\nslot 0 0 2\ncost 4+2v0\nat 0 0 0 0 2-1v0\nat 1 0 0 0 0\nstep +z\ndown 0 M\naside +z 1\nhalt\nlabel N\nframe 0 -\ncost 1\nat 0 apart\nat 1 apart\n", P4, 21)  -- unknown before label at end
    ∷ (codes "", P1, 1)  -- empty text
    ∷ []
    )
part_faults = (found _ _ _ refl, (found _ _ _ refl, (found _ _ _ refl, (found _ _ _ refl, (found _ _ _ refl, (found _ _ _ refl, (found _ _ _ refl, (found _ _ _ refl, (found _ _ _ refl, (found _ _ _ refl, (found _ _ _ refl, (found _ _ _ refl, (found _ _ _ refl, (found _ _ _ refl, tt))))))))))))))

-- names and numbers
number_faults : AreFaults (
    (codes "plan ring 2 11\nproc main 0\nlabel start\nframe 0 -\ncost 11\nat 0 0 0 0 0\nat 1 0 0 0 0\ngrip 0\npush 2\nstore 0\nlabel L\nframe 0 0\nslot 0 0 2\ncost 4+2v1\nat 0 0 0 0 2-1v0\nat 1 0 0 0 0\nstep +z\ndown 0 L\naside +z 1\nhalt\n", P3, 14)  -- dead slot
    ∷ (codes "plan ring 2 11\nproc main 0\nlabel start\nframe 0 -\ncost 11\nat 0 0 0 0 0\nat 1 0 0 0 0\ngrip 0\npush 2\nstore 0\nlabel L\nframe 0 0\nslot 0 0 2\ncost 4+2v0\nat 0 0 0 0 2-1v0\nat 1 0 0 0 0\nstep +z\ndown 0 M\naside +z 1\nhalt\n", P2, 18)  -- unknown label
    ∷ (codes "; a plan\n\nplan ring 2 11\nproc main 0\nlabel start\nframe 0 -\ncost 11\nat 0 0 0 0 0\nat 1 0 0 0 0\ngrip 0\npush 2\nstore 0\nlabel L\nframe 0 0\nslot 0 0 2\ncost 4+2v0\nat 0 0 0 0 2-1v0\nat 1 0 0 0 0\nstep +z\n\ndown 0 M\n; no M\naside +z 1\nhalt\n", P2, 21)  -- skipped lines
    ∷ (codes "plan ring 2 11\nproc main 0\nlabel start\nframe 0 -\ncost 11\nat 0 0 0 0 0\nat 1 0 0 0 0\ngrip 0\npush 2\nstore 0\nlabel start\nframe 0 0\nslot 0 0 2\ncost 4+2v0\nat 0 0 0 0 2-1v0\nat 1 0 0 0 0\nstep +z\ndown 0 L\naside +z 1\nhalt\n", P2, 11)  -- repeated label
    ∷ (codes "plan ring 2 11\nproc main 0\nlabel start\nframe 0 -\ncost 11\nat 0 0 0 0 0\nat 1 0 0 0 0\ngrip 1,0\npush 2\nstore 0\nlabel L\nframe 0 0\nslot 0 0 2\ncost 4+2v0\nat 0 0 0 0 2-1v0\nat 1 0 0 0 0\nstep +z\ndown 0 L\naside +z 1\nhalt\n", P3, 8)  -- falling set
    ∷ (codes "plan ring 2 11\nproc main 0\nlabel start\nframe 0 -\ncost 11\nat 0 0 0 0 0\nat 1 0 0 0 0\ngrip 0\npush 99999999999999999999999999999999999999999999999999999999999999999999999999\nstore 0\nlabel L\nframe 0 0\nslot 0 0 2\ncost 4+2v0\nat 0 0 0 0 2-1v0\nat 1 0 0 0 0\nstep +z\ndown 0 L\naside +z 1\nhalt\n", P3, 9)  -- large number
    ∷ (codes "plan ring 2 11\nproc main 0\nlabel start\nframe 0 -1\ncost 11\nat 0 0 0 0 0\nat 1 0 0 0 0\ngrip 0\npush 2\nstore 0\nlabel L\nframe 0 0\nslot 0 0 2\ncost 4+2v0\nat 0 0 0 0 2-1v0\nat 1 0 0 0 0\nstep +z\ndown 0 L\naside +z 1\nhalt\n", P3, 4)  -- negative in set
    ∷ (codes "plan ring 2 11\nproc main 1\nlabel start\nframe 0 -\ncost 11\nat 0 0 0 0 0\nat 1 0 0 0 0\ngrip 0\npush 2\nstore 0\nlabel L\nframe 0 0\nslot 0 0 2\ncost 4+2v0\nat 0 0 0 0 2-1v0\nat 1 0 0 0 0\nstep +z\ndown 0 L\naside +z 1\nhalt\n", P3, 2)  -- parameters of main
    ∷ (codes "plan ring 2 11\nproc main 0\nlabel start\nframe 0 -\ncost 11\nat 0 0 0 0 0\nat 1 0 0 0 0\ngrip 0\npush 2\nstore 0\nlabel L\nframe 0 0\nslot 0 2 0\ncost 4+2v0\nat 0 0 0 0 2-1v0\nat 1 0 0 0 0\nstep +z\ndown 0 L\naside +z 1\nhalt\n", P3, 13)  -- low above high
    ∷ (codes "plan ring 2 1000001\nproc main 0\nlabel start\nframe 0 -\ncost 11\nat 0 0 0 0 0\nat 1 0 0 0 0\ngrip 0\npush 2\nstore 0\nlabel L\nframe 0 0\nslot 0 0 2\ncost 4+2v0\nat 0 0 0 0 2-1v0\nat 1 0 0 0 0\nstep +z\ndown 0 L\naside +z 1\nhalt\n", P3, 1)  -- large budget
    ∷ []
    )
number_faults = (found _ _ _ refl, (found _ _ _ refl, (found _ _ _ refl, (found _ _ _ refl, (found _ _ _ refl, (found _ _ _ refl, (found _ _ _ refl, (found _ _ _ refl, (found _ _ _ refl, (found _ _ _ refl, tt))))))))))

-- the words of a line
word_faults : AreFaults (
    (codes "plan ring 2 11\nproc main 0\nlabel start\nframe 0\ncost 11\nat 0 0 0 0 0\nat 1 0 0 0 0\ngrip 0\npush 2\nstore 0\nlabel L\nframe 0 0\nslot 0 0 2\ncost 4+2v0\nat 0 0 0 0 2-1v0\nat 1 0 0 0 0\nstep +z\ndown 0 L\naside +z 1\nhalt\n", P1, 4)  -- malformed frame
    ∷ (codes "plan ring 2 11\nproc main 0\nlabel start\nframe 0 -\ncost 11\nat 0 0 0 0 0\nat 1 0 0 0 0\ngrip 0\npush 2\nstore 0\nlabel L\nframe 0 0\nslot 0 0 2\ncost 4+2v0\nat 0 0 0 0 2-1v0\nat 1 0 0 0 0\nstep +z\ndown 0 L\naside +z 1\nhalt", P1, 20)  -- without last end
    ∷ (codes "plan ring 2 11\nproc main 0\nlabel start\n; here", P1, 4)  -- comment without end
    ∷ (codes "plan ring 2 11\nproc main 0\nlabel start\nframe 0 -\ncost 11\nat 1 0 0 0 0\nat 1 0 0 0 0\ngrip 0\npush 2\nstore 0\nlabel L\nframe 0 0\nslot 0 0 2\ncost 4+2v0\nat 0 0 0 0 2-1v0\nat 1 0 0 0 0\nstep +z\ndown 0 L\naside +z 1\nhalt\n", P1, 6)  -- wrong piece
    ∷ (codes "plan ring 2 11\nproc main 0\nlabel start\nframe 0 -\ncost 11\nat 0 0 0 0 0\nat 1 0 0 0 0\ngrip 0\npush 2\nstore 0\nlabel L\nframe 0 0\nslot 0 0 2\ncost 4+0v0\nat 0 0 0 0 2-1v0\nat 1 0 0 0 0\nstep +z\ndown 0 L\naside +z 1\nhalt\n", P1, 14)  -- no count
    ∷ (codes "plan ring 2 11\nproc main 0 0\nlabel start\nframe 0 -\ncost 11\nat 0 0 0 0 0\nat 1 0 0 0 0\ngrip 0\npush 2\nstore 0\nlabel L\nframe 0 0\nslot 0 0 2\ncost 4+2v0\nat 0 0 0 0 2-1v0\nat 1 0 0 0 0\nstep +z\ndown 0 L\naside +z 1\nhalt\n", P1, 2)  -- results in version 1
    ∷ (codes "plan ring 2 11\nproc main 0\nlabel start\nframe 0 0,\ncost 11\nat 0 0 0 0 0\nat 1 0 0 0 0\ngrip 0\npush 2\nstore 0\nlabel L\nframe 0 0\nslot 0 0 2\ncost 4+2v0\nat 0 0 0 0 2-1v0\nat 1 0 0 0 0\nstep +z\ndown 0 L\naside +z 1\nhalt\n", P1, 4)  -- empty in set
    ∷ (codes "plan ring 2 11\nproc main 0\nlabel start\nframe 0 -\ncost 11\nat 0 0 0 0 0\nat 1 0 0 0 0\ngrip 0\npush 2\nstore 0\nlabel L\nframe 0 0\nslot 0 0 2\ncost 1+1v-1\nat 0 0 0 0 2-1v0\nat 1 0 0 0 0\nstep +z\ndown 0 L\naside +z 1\nhalt\n", P1, 14)  -- slot without digits
    ∷ (codes "plan ring 2 11\nproc main 0\nlabel start\nframe 0 -\ncost 11\nat 0 0 0 0 0\nat 1 0 0 0 0\ngrip 0\npush 2\nstore 0\nlabel L\nframe 0 0\nslot 0 0 2\ncost 1+1v01\nat 0 0 0 0 2-1v0\nat 1 0 0 0 0\nstep +z\ndown 0 L\naside +z 1\nhalt\n", P1, 14)  -- slot with zero
    ∷ (codes "plan ring 2 11\nproc main 0\nlabel start\nframe 0 -\ncost 11\nat 0 0 0 0 0\nat 1 0 0 0 0\ngrip 0\npush 2\nstore 0\nlabel L\nframe 0 0\nslot 0 0 2\ncost 4+2v0\nat 0 0 0 0 2-1v0\nat 1 0 0 0 0\nstep +z\npick L\naside +z 1\nhalt\n", P1, 18)  -- one offered
    ∷ (codes "plan ring 2 11\nproc main 0\nlabel start\nframe 0 -\ncost 11\nat 0 0 0 0 0\nat 1 0 0 0 0\ngrip 0\npush 2\nstore 0\nlabel L\nframe 0 0\nslot 0 0 2\ncost 4+2v0\nat 0 0 0 0 2-1v0\nat 1 0 0 0 0\nstep +z\ndown 0 L\naside +z 1\nhalt\nproc q 0\nexit 0 -\nguard 0\n", P1, 23)  -- exit guard in version 1
    ∷ (codes "plan ring 2 11\nproc main 0\nlabel start\nframe 0 -\ncost 11\nat 0 0 0 0 0\nat 1 0 0 0 0\ngrip 0\npush 2\nstore 0\nlabel L\nframe 0 0\nslot 0 0 2\ncost 4+2v0\nat 0 0 0 0 2-1v0\nat 1 0 0 0 0\nstep +z\ndown 0 L\naside +z 1\nbyte 0A\n", P1, 20)  -- upper case byte
    ∷ []
    )
word_faults = (found _ _ _ refl, (found _ _ _ refl, (found _ _ _ refl, (found _ _ _ refl, (found _ _ _ refl, (found _ _ _ refl, (found _ _ _ refl, (found _ _ _ refl, (found _ _ _ refl, (found _ _ _ refl, (found _ _ _ refl, (found _ _ _ refl, tt))))))))))))

-- limits, and results of version 2
limit_faults : AreFaults (
    (codes "plan cup 2 14\nproc main 0\nlabel start\nframe 0 -\ncost 14\nat 0 0 0 0 0\nat 1 0 0 0 0\ngrip 0\nask 0 2\nstore 0\nload 0\nstore 1\nlabel L\nframe 0 0\nslot 0 0 2\nslot 1 0 2\nguard 0\nguard 0\nguard 0\nguard 0\nguard 0\ncost 3+3v1\nat 0 0 0 0 0+1v0-1v1\nat 1 0 0 0 0\ndown 1 M\naside +z 1\nhalt\nlabel M\nframe 0 0\nslot 0 0 2\nslot 1 0 1\nguard -1+1v0-1v1\ncost 5+3v1\nat 0 0 0 0 -1+1v0-1v1\nat 1 0 0 0 0\nstep +z\njump L\n", P4, 21)  -- fifth guard
    ∷ (codes "plan cup 2 14\nproc main 0\nlabel start\nframe 0 -\ncost 14\nat 0 0 0 0 0\nat 1 0 0 0 0\ngrip 0\nask 0 2\nstore 0\nload 0\nstore 1\nlabel L\nframe 0 0\nslot 0 0 2\nslot 1 0 2\nguard 0\nguard 0\nguard 0\nguard 0\nguard 0+1v7\ncost 3+3v1\nat 0 0 0 0 0+1v0-1v1\nat 1 0 0 0 0\ndown 1 M\naside +z 1\nhalt\nlabel M\nframe 0 0\nslot 0 0 2\nslot 1 0 1\nguard -1+1v0-1v1\ncost 5+3v1\nat 0 0 0 0 -1+1v0-1v1\nat 1 0 0 0 0\nstep +z\njump L\n", P3, 21)  -- fifth guard out of range
    ∷ (codes "plan2 cup 2 18\nproc main 0 0\nlabel start\nframe 0 -\ncost 18\nat 0 0 0 0 0\nat 1 0 0 0 0\ngrip 0\ncall lift\ndrop\naside +z 1\nhalt\nproc lift 0 3\nexit 0 0\nresult 0 2\nat 0 0 0 0 0+1v0\nat 1 0 0 0 0\nlabel start\nframe 0 0\ncost 13\nat 0 0 0 0 0\nat 1 0 0 0 0\nask 0 2\nstore 0\nload 0\nstore 1\nlabel L\nframe 0 0\nslot 0 0 2\nslot 1 0 2\nguard 0+1v0-1v1\ncost 3+3v1\nat 0 0 0 0 0+1v0-1v1\nat 1 0 0 0 0\ndown 1 M\nload 0\nret\nlabel M\nframe 0 0\nslot 0 0 2\nslot 1 0 1\nguard -1+1v0-1v1\ncost 5+3v1\nat 0 0 0 0 -1+1v0-1v1\nat 1 0 0 0 0\nstep +z\njump L\n", P3, 13)  -- many results
    ∷ (codes "plan2 cup 2 18\nproc main 0 1\nlabel start\nframe 0 -\ncost 18\nat 0 0 0 0 0\nat 1 0 0 0 0\ngrip 0\ncall lift\ndrop\naside +z 1\nhalt\nproc lift 0 1\nexit 0 0\nresult 0 2\nat 0 0 0 0 0+1v0\nat 1 0 0 0 0\nlabel start\nframe 0 0\ncost 13\nat 0 0 0 0 0\nat 1 0 0 0 0\nask 0 2\nstore 0\nload 0\nstore 1\nlabel L\nframe 0 0\nslot 0 0 2\nslot 1 0 2\nguard 0+1v0-1v1\ncost 3+3v1\nat 0 0 0 0 0+1v0-1v1\nat 1 0 0 0 0\ndown 1 M\nload 0\nret\nlabel M\nframe 0 0\nslot 0 0 2\nslot 1 0 1\nguard -1+1v0-1v1\ncost 5+3v1\nat 0 0 0 0 -1+1v0-1v1\nat 1 0 0 0 0\nstep +z\njump L\n", P3, 2)  -- main with results
    ∷ (codes "plan2 cup 2 18\nproc main 0 0\nlabel start\nframe 0 -\ncost 18\nat 0 0 0 0 0\nat 1 0 0 0 0\ngrip 0\ncall lift\ndrop\naside +z 1\nhalt\nproc lift 0 1\nexit 0 0\nat 0 0 0 0 0+1v0\nat 1 0 0 0 0\nlabel start\nframe 0 0\ncost 13\nat 0 0 0 0 0\nat 1 0 0 0 0\nask 0 2\nstore 0\nload 0\nstore 1\nlabel L\nframe 0 0\nslot 0 0 2\nslot 1 0 2\nguard 0+1v0-1v1\ncost 3+3v1\nat 0 0 0 0 0+1v0-1v1\nat 1 0 0 0 0\ndown 1 M\nload 0\nret\nlabel M\nframe 0 0\nslot 0 0 2\nslot 1 0 1\nguard -1+1v0-1v1\ncost 5+3v1\nat 0 0 0 0 -1+1v0-1v1\nat 1 0 0 0 0\nstep +z\njump L\n", P1, 15)  -- no result line
    ∷ (codes "plan2 cup 2 18\nproc main 0\nlabel start\nframe 0 -\ncost 18\nat 0 0 0 0 0\nat 1 0 0 0 0\ngrip 0\ncall lift\ndrop\naside +z 1\nhalt\nproc lift 0 1\nexit 0 0\nresult 0 2\nat 0 0 0 0 0+1v0\nat 1 0 0 0 0\nlabel start\nframe 0 0\ncost 13\nat 0 0 0 0 0\nat 1 0 0 0 0\nask 0 2\nstore 0\nload 0\nstore 1\nlabel L\nframe 0 0\nslot 0 0 2\nslot 1 0 2\nguard 0+1v0-1v1\ncost 3+3v1\nat 0 0 0 0 0+1v0-1v1\nat 1 0 0 0 0\ndown 1 M\nload 0\nret\nlabel M\nframe 0 0\nslot 0 0 2\nslot 1 0 1\nguard -1+1v0-1v1\ncost 5+3v1\nat 0 0 0 0 -1+1v0-1v1\nat 1 0 0 0 0\nstep +z\njump L\n", P1, 2)  -- no results in version 2
    ∷ (codes "plan2 cup 2 18\nproc main 0 0\nlabel start\nframe 0 -\ncost 18\nat 0 0 0 0 0\nat 1 0 0 0 0\ngrip 0\ncall lift\ndrop\naside +z 1\nhalt\nproc lift 0 1\nexit 0 0\nresult 0 2\nat 0 0 0 0 0+1v1\nat 1 0 0 0 0\nlabel start\nframe 0 0\ncost 13\nat 0 0 0 0 0\nat 1 0 0 0 0\nask 0 2\nstore 0\nload 0\nstore 1\nlabel L\nframe 0 0\nslot 0 0 2\nslot 1 0 2\nguard 0+1v0-1v1\ncost 3+3v1\nat 0 0 0 0 0+1v0-1v1\nat 1 0 0 0 0\ndown 1 M\nload 0\nret\nlabel M\nframe 0 0\nslot 0 0 2\nslot 1 0 1\nguard -1+1v0-1v1\ncost 5+3v1\nat 0 0 0 0 -1+1v0-1v1\nat 1 0 0 0 0\nstep +z\njump L\n", P3, 16)  -- exit over no result
    ∷ (codes "plan2 cup 2 18\nproc main 0 0\nlabel start\nframe 0 -\ncost 18\nat 0 0 0 0 0\nat 1 0 0 0 0\ngrip 0\ncall lift\ndrop\naside +z 1\nhalt\nproc lift 0 1\nresult 0 2\nat 0 0 0 0 0+1v0\nat 1 0 0 0 0\nlabel start\nframe 0 0\ncost 13\nat 0 0 0 0 0\nat 1 0 0 0 0\nask 0 2\nstore 0\nload 0\nstore 1\nlabel L\nframe 0 0\nslot 0 0 2\nslot 1 0 2\nguard 0+1v0-1v1\ncost 3+3v1\nat 0 0 0 0 0+1v0-1v1\nat 1 0 0 0 0\ndown 1 M\nload 0\nret\nlabel M\nframe 0 0\nslot 0 0 2\nslot 1 0 1\nguard -1+1v0-1v1\ncost 5+3v1\nat 0 0 0 0 -1+1v0-1v1\nat 1 0 0 0 0\nstep +z\njump L\n", P1, 14)  -- no exit
    ∷ (codes "plan2 cup 2 18\nproc main 0 0\nlabel start\nframe 0 -\ncost 18\nat 0 0 0 0 0\nat 1 0 0 0 0\ngrip 0\ncall lift\ndrop\naside +z 1\nhalt\nproc main 9 9\nexit 0 0\nresult 0 2\nat 0 0 0 0 0+1v0\nat 1 0 0 0 0\nlabel start\nframe 0 0\ncost 13\nat 0 0 0 0 0\nat 1 0 0 0 0\nask 0 2\nstore 0\nload 0\nstore 1\nlabel L\nframe 0 0\nslot 0 0 2\nslot 1 0 2\nguard 0+1v0-1v1\ncost 3+3v1\nat 0 0 0 0 0+1v0-1v1\nat 1 0 0 0 0\ndown 1 M\nload 0\nret\nlabel M\nframe 0 0\nslot 0 0 2\nslot 1 0 1\nguard -1+1v0-1v1\ncost 5+3v1\nat 0 0 0 0 -1+1v0-1v1\nat 1 0 0 0 0\nstep +z\njump L\n", P2, 13)  -- repeated procedure
    ∷ (codes "plan2 cup 2 18\nproc main 0 0\nlabel start\nframe 0 -\ncost 18\nat 0 0 0 0 0\nat 1 0 0 0 0\ngrip 0\ncall lift\ndrop\naside +z 1\nhalt\nproc lift 0 1\nexit 0 0\nresult 0 2\nresult 0 2\nat 0 0 0 0 0+1v0\nat 1 0 0 0 0\nlabel start\nframe 0 0\ncost 13\nat 0 0 0 0 0\nat 1 0 0 0 0\nask 0 2\nstore 0\nload 0\nstore 1\nlabel L\nframe 0 0\nslot 0 0 2\nslot 1 0 2\nguard 0+1v0-1v1\ncost 3+3v1\nat 0 0 0 0 0+1v0-1v1\nat 1 0 0 0 0\ndown 1 M\nload 0\nret\nlabel M\nframe 0 0\nslot 0 0 2\nslot 1 0 1\nguard -1+1v0-1v1\ncost 5+3v1\nat 0 0 0 0 -1+1v0-1v1\nat 1 0 0 0 0\nstep +z\njump L\n", P1, 16)  -- too many results
    ∷ []
    )
limit_faults = (found _ _ _ refl, (found _ _ _ refl, (found _ _ _ refl, (found _ _ _ refl, (found _ _ _ refl, (found _ _ _ refl, (found _ _ _ refl, (found _ _ _ refl, (found _ _ _ refl, (found _ _ _ refl, tt))))))))))

-- A listing

-- code with a label inside its first instruction
abbrev duo : Plan
duo = record {
  version = 1;
  name = codes "duo";
  pieces = 2;
  budget = 3;
  procedures = main ((0, start 3) ∷ (1, start 3) ∷ []) (16 ∷ 0 ∷ 0 ∷ 0 ∷ 1 ∷ 18 ∷ 1 ∷ 1 ∷ 0 ∷ []) ∷ [];
}

abbrev duo_text : List ℕ
duo_text = codes "plan duo 2 3\nproc p0 0\nlabel L0\nframe 0 -\ncost 3\nat 0 0 0 0 0\nat 1 0 0 0 0\nbyte 10\nlabel L1\nframe 0 -\ncost 3\nat 0 0 0 0 0\nat 1 0 0 0 0\nhalt\nhalt\nhalt\npush 4609\nbyte 01\nhalt\n"

too_short : (a b c : ℕ) (s : List ℕ) → a ∷ [] ≡ b ∷ c ∷ s → ⊥
too_short a b c s e = cc

-- no instruction is so short
short_grip : (i : Instruction) → MayBeListed 2 1 i → ¬ Begins (16 ∷ []) i
short_grip (code.Grip s) may (rest, e) = too_short 16 16 _ _ e
short_grip _ may (rest, e) = omega (arith, same_head _ _ _ _ e)

short_push : (i : Instruction) → MayBeListed 2 1 i → ¬ Begins (1 ∷ 0 ∷ []) i
short_push (code.Push n) may (rest, e) = too_short 0 _ _ _ (same_tail 1 1 _ _ e)
short_push _ may (rest, e) = omega (arith, same_head _ _ _ _ e)

abbrev first_block : Block
first_block = record { label = label_name 0; frame = frame_listed (start 3); code = Byte 16 ∷ [] }

abbrev halt : Statement
halt = instruction_listed code.Halt

abbrev second_block : Block
second_block = record { label = label_name 1; frame = frame_listed (start 3); code = halt ∷ halt ∷ halt ∷ Push (codes "4609") ∷ Byte 1 ∷ halt ∷ [] }

abbrev duo_source : PlanSource
duo_source = record {
  title = title_of duo;
  procedures = record { head = head_of 1 0 (main [] []); exit = None; blocks = first_block ∷ second_block ∷ [] } ∷ [];
}

halts : MayBeListed 2 1 code.Halt
halts = record { in_range = tt; names = refl }

first_code : IsCodeListed 2 1 (16 ∷ []) first_block.code
first_code = ([], inr (short_grip, 16, refl, refl), refl)

second_code : IsCodeListed 2 1 (0 ∷ 0 ∷ 0 ∷ 1 ∷ 18 ∷ 1 ∷ 1 ∷ 0 ∷ []) second_block.code
unfolding digits
second_code =
    let last : IsCodeListed 2 1 (0 ∷ []) (halt ∷ []) = ([], inl (code.Halt, halts, refl, refl), refl) in
    let byte : IsCodeListed 2 1 (1 ∷ 0 ∷ []) (Byte 1 ∷ halt ∷ []) = (0 ∷ [], inr (short_push, 1, refl, refl), last) in
    let push : IsCodeListed 2 1 (1 ∷ 18 ∷ 1 ∷ 1 ∷ 0 ∷ []) (Push (codes "4609") ∷ Byte 1 ∷ halt ∷ []) =
    (1 ∷ 0 ∷ [], inl (code.Push (pos 4609), record { in_range = (omega arith, omega arith); names = refl }, refl, refl), byte) in
    (_, inl (code.Halt, halts, refl, refl), (_, inl (code.Halt, halts, refl, refl), (_, inl (code.Halt, halts, refl, refl), push)))

duo_listed : IsListing duo duo_text
unfolding digits
duo_listed = (
  duo_source,
  record {
    title = refl;
    procedures = (record { head = refl; exit = refl; blocks = (refl, refl, first_code, (refl, refl, second_code, tt)) }, tt);
  },
  refl,
)

-- All that a frame may say, and all instructions: the words of the text are those of the listing.
abbrev all_text : List ℕ
all_text = codes "plan All_9- 3 1000000\nproc p0 0\nlabel L0\nframe 31 -\nslot 2 -32767 32767\nslot 7 -1 -1\nguard -2147483648-32768v2+32767v7\nguard 0\nstack 2147483647\nstack 0+1v7\ncost 0-1v2\nat 0 31 0 1-1v2 2+1v7\nat 1 apart\nat 2 0 0 0 0\nadd\nsub\ndrop\nload 7\nstore 0\ngrip 0,2,31\nstep -x\naside +y 0\ntray 31\njump L1\ndown 7 L0\nask -32767 32767\npick L1 L0 L1\npick L0 L0 L0 L0 L0 L0 L0 L1\ncall p1\ncall p0\nret\nbyte ff\nbyte 0f\nlabel L1\nframe 0 0,1,2\ncost 0\nat 0 apart\nat 1 apart\nat 2 apart\npush -32767\nhalt\nproc p1 4\nexit 1 1\nat 0 5 1-1v0 2+2v1-3v2 3+4v3\nat 1 apart\nat 2 0 0 0 0\nlabel L0\nframe 0 -\nslot 0 0 0\ncost 1\nat 0 apart\nat 1 apart\nat 2 apart\nret\n"

abbrev all_plan : Plan
all_plan = plan_of (source_in all_text)

all_stands : StandsFor all_text all_plan
all_stands = (source_in all_text, record { right = refl; lines = refl }, refl)

all_fits : IsTrue (is_fitting all_plan)
all_fits = refl

all_title : (source_in all_text).title ≡ title_of all_plan
unfolding digits
all_title = refl

abbrev heads_from : ℕ → List PlanProcedure → List ProcedureWords
heads_from n [] = []
heads_from n (p ∷ ps) = head_of 1 n p ∷ heads_from (suc n) ps

all_heads : map (λ (p : ProcedureSource). p.head) (source_in all_text).procedures
    ≡ heads_from 0 all_plan.procedures
unfolding digits
all_heads = refl

all_exits : map (λ (p : ProcedureSource). p.exit) (source_in all_text).procedures ≡ map (λ (p : PlanProcedure). exit_listed p.exit) all_plan.procedures
unfolding digits
all_exits = refl

all_frames : map (λ (p : ProcedureSource). map (λ (b : Block). b.frame) p.blocks) (source_in all_text).procedures
    ≡ map (λ (p : PlanProcedure). map (λ (l : ℕ × Frame). frame_listed l.1) p.labels) all_plan.procedures
unfolding digits
all_frames = refl

abbrev all_instructions : List Instruction
all_instructions =
    code.Add ∷ code.Sub ∷ code.Drop ∷ code.Load 7 ∷ code.Store 0 ∷ code.Grip (1 + 4 + 2 ^ 31) ∷ code.Step MinusX ∷ code.Aside PlusY 0 ∷ code.Tray 31
    ∷ code.Jump 1 ∷ code.Down 7 0 ∷ code.Ask (neg_ℤ (pos 32767)) (pos 32767) ∷ code.Pick (1 ∷ 0 ∷ 1 ∷ []) ∷ code.Pick (0 ∷ 0 ∷ 0 ∷ 0 ∷ 0 ∷ 0 ∷ 0 ∷ 1 ∷ [])
    ∷ code.Call 1 ∷ code.Call 0 ∷ code.Ret ∷ []

-- the code of a procedure's blocks
abbrev codes_of : ProcedureSource → List (List Statement)
codes_of p = map (λ (b : Block). b.code) p.blocks

all_code : map codes_of (source_in all_text).procedures
    ≡ ((map instruction_listed all_instructions ++ (Byte 255 ∷ Byte 15 ∷ [])) ∷ (Push (codes "-32767") ∷ halt ∷ []) ∷ [])
    ∷ ((instruction_listed code.Ret ∷ []) ∷ []) ∷ []
unfolding digits
all_code = refl

-- the bytes of the code are those of the instructions
all_bytes : map (λ (p : PlanProcedure). p.code) all_plan.procedures
    ≡ (flat_map spelled all_instructions ++ (255 ∷ 15 ∷ (spelled (code.Push (neg_ℤ (pos 32767))) ++ (0 ∷ [])))) ∷ (37 ∷ []) ∷ []
all_bytes = refl
