-- The rest that begins with no answer's line is where the text goes wrong.
use Rattle.std.proofs.Common.{rules, ◌≡◌, ◌≢◌, ◌+◌, [], length}
use Rattle.burr_runs.specs.Rules.Answers.{BeginsWithNone}
use Rattle.burr_runs.proofs.input.read_answers.Goals as goal

pub returns-in_default-clause-err : goal.returns-in_default-clause-err
returns-in_default-clause-err c =
    let more : c.loop-rest.rest.now ≢ [] = search rules in
    let none : BeginsWithNone c.loop-rest.rest.now = search rules in
    let count : c.len.result + 1 ≡ length c.loop-rest.answers.items + 1 = search rules in (
      c.loop-rest.answers.items,
      c.loop-rest.rest.now,
      record {
        each = c.loop-rest.invariant.each;
        parts = c.loop-rest.invariant.parts;
        more = more;
        none = none;
      },
      count,
    )
