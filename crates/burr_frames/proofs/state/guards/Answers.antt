-- One more is read; at the end all are.
use Rattle.std.proofs.Common.{refl, sym, subst, arith}
use Rattle.std.specs.Prelude.{map}
use Rattle.std.proofs.lemmas.List.{length-map}
use Rattle.std.proofs.lemmas.List.Elements.{All-push}
use Rattle.burr_forms.specs.Rules.Forms.{IsSmallForm, AllSmallForms}
use Rattle.burr_container.specs.Rules.Plans.{live_slots, over_symbols}
use Rattle.burr_container.specs.Views.Refs.{frame_of}
use Rattle.burr_container.proofs.Common.ListsRead.{pushed, all_read}
use Rattle.burr_frames.proofs.state.guards.Goals as goal

pub loop-n-preserved : goal.loop-n-preserved
loop-n-preserved c =
    let whole = map (over_symbols (live_slots c.args.frame.now.slots)) (frame_of c.args.frame.now).guards in
    let before = c.loop-n.guards.items in
    record {
      read = pushed whole c.loop-n.n before c.push.new.self.items c.guard.result c.guard.result c.guard.ensures.guard refl c.push.ensures.items
          c.loop-n.invariant.read;
      small = subst AllSmallForms (sym c.push.ensures.items) (All-push IsSmallForm before c.guard.result c.loop-n.invariant.small c.guard.ensures.small);
    }

pub returns-clause-guards : goal.returns-clause-guards
returns-clause-guards c =
    let frame = c.args.frame.now in
    let over = over_symbols (live_slots frame.slots) in
    let guards = (frame_of frame).guards in
    all_read (map over guards) c.loop-n.n c.loop-n.guards.items
    (omega (arith, length-map guards over, c.guard_count-n-end.ensures.count, c.loop-n-test.false, c.loop-n.auto.n-end)) c.loop-n.invariant.read

pub returns-clause-small : goal.returns-clause-small
returns-clause-small c = c.loop-n.invariant.small
