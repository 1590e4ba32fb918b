use Rattle.std.proofs.Common.{◌<◌, length, rules, Ok, Err, inl, inr}
use Rattle.burr_assembly.specs.declared.fault.AssemblyFault.{AssemblyFault}
use Rattle.burr_assembly.specs.declared.text.beginning.Beginning.{Beginning}
use Rattle.burr_assembly.specs.Views.LineViews.{words_of}
use Rattle.burr_assembly.specs.Views.ReaderViews.{beginning_of}
use Rattle.burr_assembly.proofs.After.{first_piece, ok_with, err_with}
use Rattle.burr_assembly.proofs.text.beginning.Beginning.with.Goals as goal

pub returns-else-is_empty-clause-ok : goal.returns-else-is_empty-clause-ok
returns-else-is_empty-clause-ok c =
    let some : 0 < length c.in-Shapes-Piece.header.shapes.items = search rules in
    let given = rw c.new-in-Shapes-Piece.ensures at c.with_piece.ensures.ok in
    rw (c.in-Shapes-Piece.is-0, c.in-Shapes-Piece.is-1) (ok_with c.with_piece.result _ _ (λ (next : Beginning) rule. first_piece c.args.line c.in-Shapes-Piece.header.name c.in-Shapes-Piece.header.shapes.items (words_of c.in-Shapes-Piece.words) (Ok (beginning_of next)) some rule) given)

pub returns-else-is_empty-clause-err : goal.returns-else-is_empty-clause-err
returns-else-is_empty-clause-err c =
    let some : 0 < length c.in-Shapes-Piece.header.shapes.items = search rules in
    let given = rw c.new-in-Shapes-Piece.ensures at c.with_piece.ensures.err in
    rw (c.in-Shapes-Piece.is-0, c.in-Shapes-Piece.is-1) (err_with c.with_piece.result _ _ (λ (e : AssemblyFault) due. elim due [
      | inl memory ↦ inl memory
      | inr rule ↦ inr (first_piece c.args.line c.in-Shapes-Piece.header.name c.in-Shapes-Piece.header.shapes.items (words_of c.in-Shapes-Piece.words) (Err e) some rule)
    ]) given)
