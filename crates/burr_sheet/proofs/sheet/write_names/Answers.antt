use Rattle.std.proofs.Common.{◌∷◌, [], ◌++◌, refl, ◌∙◌, append_assoc, arith}
use Rattle.std.proofs.lemmas.List.{drop_all, length-map}
use Rattle.burr_assembly.specs.Rules.Homes.{names_of}
use Rattle.burr_sheet.specs.Rules.SheetText.{names_from}
use Rattle.burr_text.proofs.Common.Tests.{yes_of, no_of}
use Rattle.burr_io.proofs.Common.Puts.{joined-join}
use Rattle.burr_sheet.proofs.GroupNames.{names_of_assembly, has_room}
use Rattle.burr_sheet.proofs.LineWords.{names_from-in, names_from-out}
use Rattle.burr_sheet.proofs.sheet.write_names.Goals as goal
use Rattle.burr_sheet.proofs.sheet.write_names.Goals.{then-is_in_set, else-is_in_set}

pub loop-piece-init : goal.loop-piece-init
loop-piece-init c = rw (c.push.ensures.items, c.clear.ensures, joined-join 44 (names_from 0 c.args.group (names_of c.args.assembly.now)) (32 ∷ [])) refl

pub add-requires : goal.add-requires
add-requires c =
    let next = names_from-in c.args.assembly.now.pieces c.loop-piece.piece c.args.group (omega arith) _ (yes_of c.if-is_in_set.ensures) c.piece_name.ensures in
    has_room _ c.args.group _ c.loop-piece.separator.now _ (names_of_assembly _ c.piece_count-pieces.ensures.assembly) (rw next at c.loop-piece.invariant)

pub add-requires-then-is_in_set : goal.add-requires-then-is_in_set
add-requires-then-is_in_set c =
    let next = names_from-in c.args.assembly.now.pieces c.loop-piece.piece c.args.group (omega arith) _ (yes_of c.if-is_in_set.ensures) c.piece_name.ensures in
    rw (c.add.ensures, c.as_bytes-name.ensures.value)
    (has_room _ c.args.group _ c.piece_name.result.now _ (names_of_assembly _ c.piece_count-pieces.ensures.assembly)
    (append_assoc c.loop-piece.text.items c.loop-piece.separator.now _ ∙ rw next at c.loop-piece.invariant))

pub loop-piece-preserved : goal.loop-piece-preserved
loop-piece-preserved c = elim c.if-is_in_set.branch [
  | then-is_in_set w ↦
      let next = names_from-in c.args.assembly.now.pieces c.loop-piece.piece c.args.group (omega arith) _ (yes_of w.if-is_in_set.ensures) w.piece_name.ensures in
      rw (w.text-is, w.separator-is, w.add-then-is_in_set.ensures, w.add.ensures, w.as_bytes-name.ensures.value)
      (append_assoc (c.loop-piece.text.items ++ c.loop-piece.separator.now) w.piece_name.result.now _
      ∙ append_assoc c.loop-piece.text.items c.loop-piece.separator.now _ ∙ rw next at c.loop-piece.invariant)
  | else-is_in_set w ↦
      let next = names_from-out c.args.assembly.now.pieces c.loop-piece.piece c.args.group (omega arith) (no_of w.if-is_in_set.ensures) in
      rw (w.text-is, w.separator-is) (rw next at c.loop-piece.invariant)
]

pub push-requires-2 : goal.push-requires-2
push-requires-2 c =
    let none = drop_all c.loop-piece.piece (names_of c.args.assembly.now) (rw length-map (omega arith)) in
    let room = has_room _ c.args.group c.loop-piece.text.items (32 ∷ []) [] (names_of_assembly _ c.piece_count-pieces.ensures.assembly) (rw none at c.loop-piece.invariant) in
    (omega arith, omega arith)
