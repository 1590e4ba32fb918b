-- What is opened for a program in C is kept as a run, of whichever kind.
use Rattle.std.proofs.Common.{◌≡◌, ◌∙◌, List, ℕ, None, Some, ap, refl, inl, inr}
use Rattle.std.specs.Prelude.{Option}
use Rattle.burr_verify.specs.Rules.Accepting.{Judged}
use Rattle.burr_judge.specs.declared.status.Status.{Status}
use Rattle.burr_judge.specs.OpenEnds.{Beginnings}
use Rattle.burr_c.specs.OpenCalls.{Opens}
use Rattle.burr_c.specs.declared.handle.KeptRun.{KeptRun}

abbrev pub wrapped : {Run : Type 0} → (Run → KeptRun) → Option Run → Option KeptRun
wrapped wrap None = None
wrapped wrap (Some run) = Some (wrap run)

pub opens_as : {Run : Type 0} (wrap : Run → KeptRun) (Mine : Beginnings Run) (Ours : Beginnings KeptRun) → ((j : Judged) (run : Run) → Mine j run → Ours j (wrap run))
    → (text bytes : List ℕ) (status : Status) (opened : Option Run) (kept : Option KeptRun) → kept ≡ wrapped wrap opened
    → Opens Mine text bytes status opened → Opens Ours text bytes status kept
opens_as wrap Mine Ours begins text bytes status opened kept is (inl (refused, none)) = inl (refused, is ∙ ap (wrapped wrap) none)
opens_as wrap Mine Ours begins text bytes status opened kept is (inr (done, (run, some, (a, read, (container, of, (accepted, begun)))))) =
    inr (done, (wrap run, is ∙ ap (wrapped wrap) some, (a, read, (container, of, (accepted, begins _ run begun)))))
