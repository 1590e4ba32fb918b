use Rattle.std.proofs.Common.{◌<◌, length, ap, ◌∙◌, rules, arith}
use Rattle.std.proofs.lemmas.Grind.{common_steps}
use Rattle.burr_io.proofs.Putting.{HasPut-more, HasPut-some, HasPut-short}
use Rattle.burr_io.specs.Sink.{TakesShort}
use Rattle.burr_io.proofs.writing.put_all.Goals as goal

pub loop-rest-preserved : goal.loop-rest-preserved
loop-rest-preserved g c =
    let put = c.loop-rest.invariant.put in
    let some : 0 < length c.loop-rest.rest.now = search rules in
    record {
      put = HasPut-more c.args.bytes.now c.loop-rest.rest.now _ _ _ _ _ _ c.in-Ok.taken put c.in-Ok.ensures.bytes c.in-Ok.ensures.fails (grind (arith, common_steps));
      nothing = λ none. absurd (HasPut-some _ _ _ _ _ put some none);
      for_good = λ failed.
          let refused = c.in-Ok.ensures.for_good (ap g.W.Sink.has_failed (c.loop-rest.invariant.for_good failed) ∙ failed) in
          cc;
    }

pub returns-in_default-clause-short : goal.returns-in_default-clause-short
returns-in_default-clause-short g c =
    let short : TakesShort (g.W.Sink.taken c.args.sink.now) (g.W.Sink.taken c.put.new.self) c.args.bytes.now = HasPut-short _ _ _ _ _ _ c.loop-rest.invariant.put (search rules) (search rules) in
    search rules
