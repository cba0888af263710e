use Rattle.verilog_expression_reader.proofs.FrontLaws.{one_tree}
use Rattle.verilog_expression_reader.proofs.laws.one_expression.Goals as goal

pub returns : goal.returns
returns c = one_tree
