-- The line is that of the plan's procedure.
use Rattle.std.proofs.Common.{◌≡◌, ◌++◌, ◌==◌, [], codes, refl, if◌then◌else◌}
use Rattle.std.specs.Fmt.{decimal}
use Rattle.std.proofs.lemmas.Result.{on_ok_weaker}
use Rattle.burr_plantext.proofs.Blocks.{head_added, count_two, count_none}
use Rattle.burr_plantext.proofs.listing.add_head.Goals as goal
use Rattle.burr_plantext.proofs.listing.add_head.Goals.{then-header-eq2+in_ok-add_number-3, else-header-eq2}

pub returns : goal.returns
returns c =
    let told = c.header.result.version in
    on_ok_weaker c.end_line.result
    (λ says p q is here.
    let counted : c.if-header-eq2.text.items ≡ c.add_number-2.new.text.items ++ (if told == 2 then codes " " ++ decimal q.results else []) =
    (elim c.if-header-eq2.branch [
      | then-header-eq2+in_ok-add_number-3 w ↦
          rw w.text-is
          (count_two c.add_number-2.new.text.items _ told w.results.result q.results w.if-header-eq2.true (w.results.ensures.plan p q is here) w.in_ok-add_number-3.ensures)
      | else-header-eq2 w ↦
          rw w.text-is
          (count_none c.add_number-2.new.text.items _ told q.results w.if-header-eq2.false refl)
    ]) in
    head_added p.version c.args.i q told c.params.result c.args.text.now.items c.add_number.new.text.items c.add_number-2.new.text.items c.if-header-eq2.text.items c.end_line.new.text.items c.in_ok-add_number.ensures c.in_ok-add_number-2.ensures counted says (c.header.ensures.plan p is).version (c.params.ensures.plan p q is here)) c.end_line.ensures
