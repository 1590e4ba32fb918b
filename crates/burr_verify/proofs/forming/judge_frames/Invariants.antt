-- What the labels from here on come to is what all frames come to.
use Rattle.std.specs.Prelude.{drop}
use Rattle.burr_frames.specs.Views.Here.{OfFramedProcedure}
use Rattle.burr_verify.specs.Rules.Judging.{judging_exit, judging_entry}
use Rattle.burr_verify.specs.Views.Judgements.{PartFrom}
use Rattle.burr_verify.proofs.JudgedOn.{judging_from}
use Rattle.burr_verify.proofs.forming.judge_frames.Given as goal

abbrev pub invariant-loop-label : goal.invariant-loop-label
invariant-loop-label l =
    OfFramedProcedure l.procedure (λ plan here. PartFrom
    (judging_from l.procedure.number here.parameters l.label (drop l.label here.labels))
    (λ rest. judging_exit l.procedure.number here.exit (judging_entry l.procedure.number here.parameters here.labels rest)))
