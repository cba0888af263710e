use Rattle.verilog_size_checks.proofs.LengthLaws.{misfit_right, misfit_wrong}
use Rattle.verilog_size_checks.proofs.indexes.check_length.Goals as goal

pub returns-then-width-needed-clause-right : goal.returns-then-width-needed-clause-right
returns-then-width-needed-clause-right c = λ x e. misfit_right c.args.name.now c.args.width x c.in-Some.needed c.args.needed c.in-Some.is c.requires e c.if-width-needed.true

pub returns-clause-wrong : goal.returns-clause-wrong
returns-clause-wrong c = λ x e. misfit_wrong c.args.name.now _ c.args.width x c.in-Some.needed c.args.needed c.in-Some.is c.requires e c.if-width-needed.false c.in_ok-clone.ensures.cases
