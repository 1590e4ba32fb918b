-- An exit frame that is formed or not, or none.
use Rattle.std.proofs.Common.{◌∙◌, None, Some, refl, inl, inr, true, false}
use Rattle.burr_text.proofs.Common.Tests.{yes_of, no_of}
use Rattle.burr_frames.specs.Views.Exits.{framed_ref}
use Rattle.burr_frames.specs.declared.rule.Rule.TheVariants as rules
use Rattle.burr_frames.proofs.Common.Heres.{procedure_here}
use Rattle.burr_verify.proofs.Formed.{exit_formed, exit_here, no_exit_here}
use Rattle.burr_verify.proofs.JudgedOn.{exit_read, plainly_refused}
use Rattle.burr_verify.proofs.forming.judge_exit.Goals as goal

pub returns-in_default : goal.returns-in_default
returns-in_default c p here is at =
    let found = procedure_here p c.args.procedure.number here at in
    exit_read c.args.procedure.number here.exit None _ _
    (no_exit_here p.pieces found.0 here found.2 (c.in_default.ensures p found.0 is found.1)) refl

pub returns-then-not-are_formed : goal.returns-then-not-are_formed
returns-then-not-are_formed c p here is at =
    let found = procedure_here p c.args.procedure.number here at in
    let f = framed_ref c.in-Some.exit in
    exit_read c.args.procedure.number here.exit (Some f) _ _
    (exit_here p.pieces found.0 here c.in-Some.exit found.2 (c.in-Some.ensures p found.0 is found.1)) (inl (
      no_of (exit_formed f c.as_slice.result.now c.tray.result c.grip.result false (c.as_slice.ensures.value ∙ c.exit_places-places.ensures.places) c.tray.ensures c.grip.ensures c.if-not-are_formed.ensures),
      plainly_refused c.plain.result c.number.result 0 c.args.procedure.number 0 rules.BadFrame c.plain.ensures c.number.ensures.number refl,
    ))

pub returns : goal.returns
returns c p here is at =
    let found = procedure_here p c.args.procedure.number here at in
    let f = framed_ref c.in-Some.exit in
    exit_read c.args.procedure.number here.exit (Some f) _ _
    (exit_here p.pieces found.0 here c.in-Some.exit found.2 (c.in-Some.ensures p found.0 is found.1)) (inr (
      yes_of (exit_formed f c.as_slice.result.now c.tray.result c.grip.result true (c.as_slice.ensures.value ∙ c.exit_places-places.ensures.places) c.tray.ensures c.grip.ensures c.if-not-are_formed.ensures),
      refl,
    ))
