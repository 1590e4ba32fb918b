use Rattle.std.proofs.Common.{◌≡◌, ◌∙◌, Some, ap, sym}
use Rattle.burr_step.specs.Views.Driving.{Driving, IsReady}
use Rattle.burr_c.specs.declared.handle.Handle.{Handle}
use Rattle.burr_c.specs.declared.handle.KeptRun.{KeptRun}
use Rattle.burr_c.specs.declared.handle.KeptRun.TheVariants.{Drive}
use Rattle.burr_c.specs.DriveCalls.{DriveBegins}
use Rattle.burr_c.proofs.Opening.{opens_as, wrapped}
use Rattle.burr_c.proofs.drive.open.Goals as goal
use Rattle.burr_c.proofs.drive.open.Goals.{in-Some+in-Ok, in_default}

pub returns-clause-opens : goal.returns-clause-opens
returns-clause-opens c =
    opens_as (λ (d : Driving). Drive d) IsReady DriveBegins (λ j d ready. ready) c.args.text.now c.args.container.now c.in_ok-printed.printed.status
    c.in_ok-printed.opened c.match-opened.run.value put c.in_ok-printed.ensures.opens
  where
    put : c.match-opened.run.value ≡ wrapped (λ (d : Driving). Drive d) c.in_ok-printed.opened
    put = elim c.match-opened.branch [
      | in-Some+in-Ok w ↦
          ap (λ (h : Handle). h.value) w.run-is ∙ w.put.ensures ∙ ap (λ (k : KeptRun). Some k) w.in-Ok.ensures.ok
          ∙ sym (ap (wrapped (λ (d : Driving). Drive d)) w.in-Some.is)
      | in_default w ↦ ap (λ (h : Handle). h.value) w.run-is ∙ c.take-old.ensures.left ∙ sym (ap (wrapped (λ (d : Driving). Drive d)) w.in_default.is)
    ]
