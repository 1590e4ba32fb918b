-- The fault of a text that ends early is that of the rules.
use Rattle.burr_asm.proofs.StageEnds.{ends_in_part, ends_before_part}
use Rattle.burr_asm.proofs.text.stage.Stage.end.Goals as goal

pub returns-in_default : goal.returns-in_default
returns-in_default c = ends_in_part c.args.self.now c.args.line c.in_default.not-InCode c.in_default.not-AwaitsLabel c.in_default.not-AwaitsFrame

pub returns-in-AwaitsLabel : goal.returns-in-AwaitsLabel
returns-in-AwaitsLabel c = ends_before_part c.args.self.now c.args.line c.in-AwaitsLabel.is

pub returns-in-AwaitsLabel-2 : goal.returns-in-AwaitsLabel-2
returns-in-AwaitsLabel-2 c = ends_before_part c.args.self.now c.args.line c.in-AwaitsLabel.is
