use Rattle.std.proofs.Common.{length, rules, inr, refl, sym, ap}
use Rattle.std.proofs.lemmas.List.Elements.{All-push}
use Rattle.burr_assembly.specs.Rules.Text.{IsShapeName, HasCells}
use Rattle.burr_assembly.specs.Views.LineViews.{words_of}
use Rattle.burr_assembly.specs.Views.HomedPieces.{HomedPiece, turn_of}
use Rattle.burr_assembly.proofs.PieceSteps.{IsNamed, IsPlaced, piece_of, wrong_name, unknown_shape, unknown_turn, unknown_place, shared, taken}
use Rattle.burr_assembly.proofs.Sharing.{pieces_of-push}
use Rattle.burr_assembly.proofs.text.beginning.Header.with_piece.Goals as goal
use Rattle.burr_assembly.proofs.text.beginning.Header.with_piece.Goals.{then-not-is_name-via-then-not-is_name, then-not-is_name-via-else-not-is_name+then-is_taken}

pub returns-then-not-is_name-clause-err : goal.returns-then-not-is_name-clause-err
returns-then-not-is_name-clause-err c =
    inr (wrong_name _ _ _ c.args.occupancy (words_of c.args.words) (search rules) (elim c.then-not-is_name.branch [
      | then-not-is_name-via-then-not-is_name w ↦ search rules
      | then-not-is_name-via-else-not-is_name+then-is_taken w ↦ λ right. let taken = w.if-is_taken.ensures.0 refl in right.1 (rw c.pieces-pieces.ensures.pieces at taken)
    ]))

pub returns-in_default-clause-err : goal.returns-in_default-clause-err
returns-in_default-clause-err c =
    let named : IsNamed c.args.occupancy (words_of c.args.words) = record { room = search rules; name = search rules; free = search rules } in
    let unknown : ¬ IsShapeName c.args.self.shapes.items c.args.words.shape.now = λ (k, s, inside, at, is). c.in_default.ensures s (k, inside, at) is in
    inr (unknown_shape _ _ _ c.args.occupancy (words_of c.args.words) named unknown)

pub returns-in_default-parse-clause-err : goal.returns-in_default-parse-clause-err
returns-in_default-parse-clause-err c =
    let named : IsNamed c.args.occupancy (words_of c.args.words) = record { room = search rules; name = search rules; free = search rules } in
    inr (unknown_turn _ _ _ c.args.occupancy (words_of c.args.words) named (c.in-Some.ensures.0.0, c.in-Some.shape.now, c.in-Some.ensures.0.1, c.in-Some.ensures.0.2, c.in-Some.ensures.1) (λ t is. c.in_default-parse.ensures t.x t.y t.z is.0 (sym is.1)))

pub returns-in_default-position-clause-err : goal.returns-in_default-position-clause-err
returns-in_default-position-clause-err c =
    let named : IsNamed c.args.occupancy (words_of c.args.words) = record { room = search rules; name = search rules; free = search rules } in
    inr (unknown_place _ _ _ c.args.occupancy (words_of c.args.words) (turn_of c.in-Some-parse.orientation) named (c.in-Some.ensures.0.0, c.in-Some.shape.now, c.in-Some.ensures.0.1, c.in-Some.ensures.0.2, c.in-Some.ensures.1) c.in-Some-parse.orientation.rotation (sym c.in-Some-parse.ensures) c.in_default-position.ensures)

pub returns-in-Some-first_with-clause-err : goal.returns-in-Some-first_with-clause-err
returns-in-Some-first_with-clause-err c =
    let named : IsNamed c.args.occupancy (words_of c.args.words) = record { room = search rules; name = search rules; free = search rules } in
    let is : IsPlaced c.args.self.shapes.items (words_of c.args.words) (turn_of c.in-Some-parse.orientation) c.in-Some-position.position =
    record { shape = (c.in-Some.ensures.0.0, c.in-Some.shape.now, c.in-Some.ensures.0.1, c.in-Some.ensures.0.2, c.in-Some.ensures.1); turn = c.in-Some-parse.orientation.rotation; spelled = sym c.in-Some-parse.ensures; place = c.in-Some-position.ensures } in
    let home : HasCells c.args.self.shapes.items (piece_of (words_of c.args.words) (turn_of c.in-Some-parse.orientation) c.in-Some-position.position) c.in_ok-piece.piece.cells =
    (c.in-Some.shape.now, c.in-Some.ensures.0, c.in-Some.ensures.1, ap (λ (p : HomedPiece). p.cells) c.in_ok-piece.ensures) in
    inr (shared _ _ _ c.args.occupancy (words_of c.args.words) (turn_of c.in-Some-parse.orientation) c.in-Some-position.position c.in_ok-piece.piece.cells _ _ named is c.requires.distinct c.requires.homes home
    (rw c.cells.ensures.cells at c.in-Some-first_with.ensures) (ap length c.pieces-pieces.ensures.pieces))

pub with-requires-clause-free : goal.with-requires-clause-free
with-requires-clause-free c = rw c.cells.ensures.cells at c.in_default-first_with.ensures

pub returns-clause-ok : goal.returns-clause-ok
returns-clause-ok c =
    let named : IsNamed c.args.occupancy (words_of c.args.words) = record { room = search rules; name = search rules; free = search rules } in
    let is : IsPlaced c.args.self.shapes.items (words_of c.args.words) (turn_of c.in-Some-parse.orientation) c.in-Some-position.position =
    record { shape = (c.in-Some.ensures.0.0, c.in-Some.shape.now, c.in-Some.ensures.0.1, c.in-Some.ensures.0.2, c.in-Some.ensures.1); turn = c.in-Some-parse.orientation.rotation; spelled = sym c.in-Some-parse.ensures; place = c.in-Some-position.ensures } in
    let home : HasCells c.args.self.shapes.items (piece_of (words_of c.args.words) (turn_of c.in-Some-parse.orientation) c.in-Some-position.position) c.in_ok-piece.piece.cells =
    (c.in-Some.shape.now, c.in-Some.ensures.0, c.in-Some.ensures.1, ap (λ (p : HomedPiece). p.cells) c.in_ok-piece.ensures) in
    rw (c.in_ok-with.ensures, pieces_of-push, ap (λ (p : HomedPiece). p.piece) c.in_ok-piece.ensures, c.in-Some.ensures.1)
    (taken _ _ _ c.args.occupancy (words_of c.args.words) (turn_of c.in-Some-parse.orientation) c.in-Some-position.position c.in_ok-piece.piece.cells named is c.requires.distinct c.requires.homes home
    (rw c.cells.ensures.cells at c.in_default-first_with.ensures))

pub returns-clause-home : goal.returns-clause-home
returns-clause-home c =
    rw c.in_ok-with.ensures
    (All-push (λ (p : HomedPiece). HasCells c.args.self.shapes.items p.piece p.cells) c.args.occupancy c.in_ok-piece.piece c.requires.homes
    (rw c.in_ok-piece.ensures (c.in-Some.shape.now, c.in-Some.ensures.0, refl, refl)))
