use Rattle.std.proofs.Common.{append-nil, arith}
use Rattle.std.proofs.lemmas.List.{drop_all, length-map}
use Rattle.std.specs.List.{join_with_byte}
use Rattle.burr_assembly.specs.Rules.Homes.{names_of}
use Rattle.burr_sheet.specs.Rules.SheetText.{names_from}
use Rattle.burr_text.proofs.Common.Tests.{yes_of, no_of}
use Rattle.burr_io.proofs.Common.Puts.{Puts-nothing, Puts-more, Puts-fails, joined-join}
use Rattle.burr_sheet.proofs.LineWords.{names_from-in, names_from-out}
use Rattle.burr_sheet.proofs.sheet.put_names.Goals as goal
use Rattle.burr_sheet.proofs.sheet.put_names.Goals.{then-is_in_set+in_ok-put_all+in_ok-put_all-2, else-is_in_set}

pub loop-piece-init : goal.loop-piece-init
loop-piece-init g c new r put = rw (← append-nil (join_with_byte 44 (names_from 0 c.args.group (names_of c.args.assembly.now))), joined-join 44) put

pub returns-in_err-put_all : goal.returns-in_err-put_all
returns-in_err-put_all g c =
    let next = names_from-in c.args.assembly.now.pieces c.loop-piece.piece c.args.group (omega arith) _ (yes_of c.if-is_in_set.ensures) c.piece_name.ensures in
    (rw next at c.loop-piece.invariant) _ _ (Puts-fails _ c.in_err-put_all.ensures.puts c.from_residual.ensures.0)

pub returns-in_err-put_all-2 : goal.returns-in_err-put_all-2
returns-in_err-put_all-2 g c =
    let next = names_from-in c.args.assembly.now.pieces c.loop-piece.piece c.args.group (omega arith) _ (yes_of c.if-is_in_set.ensures) c.piece_name.ensures in
    let short = rw c.as_bytes-name.ensures.value at c.in_err-put_all-2.ensures.puts in
    (rw next at c.loop-piece.invariant) _ _ (Puts-more c.in_ok-put_all.ensures.puts (Puts-fails _ short c.from_residual-in_err-put_all-2.ensures.0))

pub loop-piece-preserved : goal.loop-piece-preserved
loop-piece-preserved g c = elim c.if-is_in_set.branch [
  | then-is_in_set+in_ok-put_all+in_ok-put_all-2 w ↦
      let next = names_from-in c.args.assembly.now.pieces c.loop-piece.piece c.args.group (omega arith) _ (yes_of w.if-is_in_set.ensures) w.piece_name.ensures in
      let went = rw w.as_bytes-name.ensures.value at w.in_ok-put_all-2.ensures.puts in
      rw (w.sink-is, w.separator-is) (λ new r put. (rw next at c.loop-piece.invariant) new r (Puts-more w.in_ok-put_all.ensures.puts (Puts-more went put)))
  | else-is_in_set w ↦
      let next = names_from-out c.args.assembly.now.pieces c.loop-piece.piece c.args.group (omega arith) (no_of w.if-is_in_set.ensures) in
      rw (w.sink-is, w.separator-is) (rw next at c.loop-piece.invariant)
]

pub returns : goal.returns
returns g c = let none = drop_all c.loop-piece.piece (names_of c.args.assembly.now) (rw length-map (omega arith)) in (rw none at c.loop-piece.invariant) _ _ Puts-nothing
