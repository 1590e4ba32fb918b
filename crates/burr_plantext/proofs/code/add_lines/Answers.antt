-- The next line is written.
use Rattle.std.proofs.Common.{◌≡◌, ◌+◌, ◌++◌, length}
use Rattle.burr_plantext.specs.Rules.ListedPlaces.{comment_at}
use Rattle.burr_plantext.proofs.CodeSteps.{line_turn, rest_taken, code_end, place_marked, place_unmarked}
use Rattle.burr_plantext.proofs.code.add_lines.Goals as goal
use Rattle.burr_plantext.proofs.code.add_lines.Goals.{in-Some+in_ok-add_number+in_ok-add_number-2+in_ok-end_line, in_default}

pub loop-rest-preserved : goal.loop-rest-preserved
loop-rest-preserved c =
    let reach = c.args.reach in
    let rest = c.loop-rest.rest.now in
    let text = c.loop-rest.text.items in
    let marked : c.match-reach.text.items ≡ text ++ comment_at reach.placed c.loop-rest.at =
    (elim c.match-reach.branch [
      | in-Some+in_ok-add_number+in_ok-add_number-2+in_ok-end_line w ↦
          rw w.text-is
          (place_marked reach.placed w.in-Some.procedure c.loop-rest.at text _ _ _ w.in-Some.is w.in_ok-add_number.ensures w.in_ok-add_number-2.ensures w.in_ok-end_line.ensures)
      | in_default w ↦ rw w.text-is (place_unmarked reach.placed c.loop-rest.at text w.in_default.not-Some)
    ]) in
    line_turn reach.labels reach.procedures reach.placed c.args.start c.args.block.now c.args.text.now.items c.loop-rest.at rest text c.match-reach.text.items c.add_line.new.text.items _ c.in_ok-size.size (c.args.start + length c.args.block.now)
    c.loop-rest.invariant marked c.in_ok-size.ensures (rest_taken c.in_ok-size.size rest)

pub returns : goal.returns
returns c =
    let reach = c.args.reach in
    code_end reach.labels reach.procedures reach.placed c.args.start c.args.block.now c.args.text.now.items c.loop-rest.at c.loop-rest.rest.now c.loop-rest.text.items
    c.loop-rest.invariant.0 c.loop-rest-test.ensures
