use Rattle.verilog_expression_reader.specs.Past.{placed_toks}
use Rattle.verilog_expression_reader.proofs.FrontLaws as laws
use Rattle.verilog_expression_reader.proofs.expressions.expression.Goals as goal

pub returns-clause-found : goal.returns-clause-found
returns-clause-found c = laws.found c.args.budget (placed_toks c.args.tokens.now) c.any.result c.any.ensures.exact

pub returns-clause-only : goal.returns-clause-only
returns-clause-only c = laws.only c.args.budget (placed_toks c.args.tokens.now) c.any.result c.any.ensures.exact
