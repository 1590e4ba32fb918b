use Rattle.std.proofs.Common.{◌≡◌, ◌≢◌, true, false, ◌<◌, length, get_or, [], bit_or, sym, ap, subst, ◌∙◌, arith}
use Rattle.std.proofs.lemmas.List.{length-map}
use Rattle.std.proofs.lemmas.Nat.{one_shl}
use Rattle.std.proofs.lemmas.Bool.Decides.{Decides-eqb}
use Rattle.std.proofs.lemmas.Slice.Eq.{slice_eq-Decides}
use Rattle.burr_assembly.specs.Rules.Homes.{names_of}
use Rattle.burr_sheet.proofs.LineWords.{name-at}
use Rattle.burr_sheet.proofs.GroupNames.{ReadsNames, names_of_assembly, taken, passed, named, none_named}
use Rattle.burr_sheet.proofs.motion_lines.group_named.Goals as goal
use Rattle.burr_sheet.proofs.motion_lines.group_named.Goals.{then-eq, else-eq}

pub loop-piece-preserved : goal.loop-piece-preserved
loop-piece-preserved c =
    let are = names_of_assembly c.args.assembly.now c.piece_count-piece-end.ensures.assembly in
    let below : c.loop-piece.piece < length c.args.assembly.now.pieces = omega arith in
    let inside : c.loop-piece.piece < length (names_of c.args.assembly.now) = rw length-map below in
    let own = name-at c.args.assembly.now.pieces c.loop-piece.piece _ below c.piece_name.ensures in
    let tells = slice_eq-Decides Decides-eqb c.first_name.result.0.now c.as_bytes.result.now c.eq.result c.eq.ensures in
    let same : c.as_bytes.result.now ≡ get_or (names_of c.args.assembly.now) c.loop-piece.piece [] = c.as_bytes.ensures.value ∙ sym own in
    elim c.if-eq.branch [
      | then-eq w ↦
          rw w.left-is
          (taken _ _ _ _ _ _ _ are inside c.loop-piece.invariant c.first_name.ensures (tells.0 w.if-eq.true ∙ same) _
          (w.group-is ∙ ap (λ n. bit_or c.loop-piece.group n) (one_shl c.loop-piece.piece 32 (omega arith))))
      | else-eq w ↦
          rw (w.left-is, w.group-is)
          (passed _ _ _ _ _ _ _ are inside c.loop-piece.invariant c.first_name.ensures (λ e. differ (sym (tells.1 (e ∙ sym same)) ∙ w.if-eq.false)))
    ]
  where
    differ : true ≢ false
    differ e = cc

pub returns-in-Some : goal.returns-in-Some
returns-in-Some c = none_named _ _ _ _ _ (rw length-map (omega arith)) (subst (ReadsNames _ _ _ _) c.in-Some.is c.loop-piece.invariant)

pub returns-in-None : goal.returns-in-None
returns-in-None c =
    let all : c.loop-piece.piece ≡ length c.args.assembly.now.pieces = omega arith in
    named _ _ _ _ (all ∙ sym (length-map c.args.assembly.now.pieces _)) (subst (ReadsNames _ _ _ _) c.in-None.is c.loop-piece.invariant)
