use Rattle.std.proofs.Common.{rules}
use Rattle.burr_plantext.specs.Rules.Checks.{P1, P3}
use Rattle.burr_asm.specs.Views.LineWords.{piece_words}
use Rattle.burr_asm.proofs.Refusals.{refused}
use Rattle.burr_asm.proofs.FrameParts.{not_next, no_place, one_place, one_more}
use Rattle.burr_asm.proofs.text.frame.add_place.Goals as goal

pub returns-then-not-is_next : goal.returns-then-not-is_next
returns-then-not-is_next c = λ before same.
    refused _ P1 c.args.line (not_next c.args.live.now c.args.places.now.items before (piece_words c.args.words) same c.len.result c.is_next.result (search rules) c.is_next.ensures c.if-not-is_next.true)

pub returns-in_ok-push-in-Some : goal.returns-in_ok-push-in-Some
returns-in_ok-push-in-Some c = λ before same. (
  one_place c.args.live.now c.args.places.now.items before (piece_words c.args.words) same c.len.result c.is_next.result (search rules) c.is_next.ensures c.if-not-is_next.false c.in-Some.ensures.0,
  one_more c.args.live.now c.args.places.now.items before (piece_words c.args.words) same c.push.new.self.items c.in-Some.place (search rules) c.in-Some.ensures.1,
)

pub returns-in-None : goal.returns-in-None
returns-in-None c = λ before same.
    refused _ P3 c.args.line (no_place c.args.live.now c.args.places.now.items before (piece_words c.args.words) same c.len.result c.is_next.result (search rules) c.is_next.ensures c.if-not-is_next.false c.in-None.ensures)
