use Rattle.std.proofs.Common.{ap, arith}
use Rattle.verilog_text.specs.Trees.{v_depth}
use Rattle.verilog_places.specs.Trees.{PlacedTree, bare}
use Rattle.verilog_expression_reader.proofs.Views.{placed_tree-Join}
use Rattle.verilog_expression_reader.proofs.expressions.joined_parts.Goals as goal

pub invariant_of-result : goal.invariant_of-result
invariant_of-result c = record { counted = omega (arith, ap (λ (t : PlacedTree). v_depth (bare t)) (placed_tree-Join c.args.at c.args.all.parts), c.args.all.counted) }

pub returns-clause-value : goal.returns-clause-value
returns-clause-value c = placed_tree-Join c.args.at c.args.all.parts
