-- The lines that were read are those of the answers so far.
use Rattle.std.proofs.Common.{◌≡◌, ◌++◌, length, All, FitsSigned, w32}
use Rattle.burr_runs.specs.Rules.Answers.{answers_text}
use Rattle.burr_runs.proofs.input.read_answers.Given as goal

-- each turn takes a line
abbrev pub decreases-loop-rest : goal.decreases-loop-rest
decreases-loop-rest l = length l.rest

-- what stands before the rest
abbrev pub invariant-loop-rest : goal.invariant-loop-rest
invariant-loop-rest l = record {
  each : All (FitsSigned w32) l.answers.items;
  parts : l.fn.text ≡ answers_text l.answers.items ++ l.rest;
}
