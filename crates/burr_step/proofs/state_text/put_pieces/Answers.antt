-- The line of a piece more.
use Rattle.std.proofs.Common.{◌≡◌, ◌<◌, ◌≤◌, ℕ, List, [], length, drop, ap, arith}
use Rattle.std.proofs.lemmas.List.{drop_all, length-map}
use Rattle.burr_assembly.specs.Rules.Homes.{names_of}
use Rattle.burr_io.proofs.Common.Puts.{Puts-more, Puts-fails, Puts-nothing}
use Rattle.burr_step.specs.Rules.StepTexts.{piece_lines}
use Rattle.burr_step.proofs.ShownWords.{next_line}
use Rattle.burr_step.proofs.state_text.put_pieces.Goals as goal

pub returns-in_err-put_piece : goal.returns-in_err-put_piece
returns-in_err-put_piece g c =
    let machine = c.args.machine.now in
    let has = rw c.assembly-assembly.ensures.assembly at c.piece_name.ensures in
    let inside : c.loop-piece.piece < length machine.assembly.pieces = rw (← c.assembly-assembly.ensures.assembly) (omega arith) in
    let put = rw c.as_bytes.ensures.value at c.in_err-put_piece.ensures in
    c.loop-piece.invariant _ _ (rw (next_line machine.assembly.pieces machine.state.places c.loop-piece.piece _ _ inside has c.place.ensures.place)
    (Puts-fails _ put c.from_residual.ensures.0))

pub loop-piece-preserved : goal.loop-piece-preserved
loop-piece-preserved g c new r more =
    let machine = c.args.machine.now in
    let has = rw c.assembly-assembly.ensures.assembly at c.piece_name.ensures in
    let inside : c.loop-piece.piece < length machine.assembly.pieces = rw (← c.assembly-assembly.ensures.assembly) (omega arith) in
    let put = rw c.as_bytes.ensures.value at c.in_ok-put_piece.ensures in
    c.loop-piece.invariant new r (rw (next_line machine.assembly.pieces machine.state.places c.loop-piece.piece _ _ inside has c.place.ensures.place)
    (Puts-more put more))

pub returns : goal.returns
returns g c =
    let names = names_of c.args.machine.now.assembly in
    let past : length names ≤ c.loop-piece.piece = rw (length-map, ← c.assembly-assembly.ensures.assembly) (omega arith) in
    let none : drop c.loop-piece.piece names ≡ [] = drop_all c.loop-piece.piece names past in
    let all : piece_lines (drop c.loop-piece.piece names) (drop c.loop-piece.piece c.args.machine.now.state.places) ≡ [] =
    ap (λ (left : List (List ℕ)). piece_lines left (drop c.loop-piece.piece c.args.machine.now.state.places)) none in
    c.loop-piece.invariant _ _ (rw all Puts-nothing)
