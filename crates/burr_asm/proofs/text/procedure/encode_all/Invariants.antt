use Rattle.std.proofs.Common.{◌≡◌, ◌++◌, drop}
use Rattle.burr_asm.specs.Views.CodeParts.{code_of_all, first_unknown, numbered}
use Rattle.burr_asm.proofs.text.procedure.encode_all.Given as goal

-- what is left to be encoded has what is left of the code, and the first unknown name
abbrev pub invariant-loop-statement : goal.invariant-loop-statement
invariant-loop-statement l = record {
  bytes : l.code.items ++ code_of_all l.labels l.procedures (numbered (drop l.statement-index l.statements)) ≡ code_of_all l.labels l.procedures (numbered l.statements);
  unknown : first_unknown l.labels l.procedures (numbered l.statements) ≡ first_unknown l.labels l.procedures (numbered (drop l.statement-index l.statements));
}
