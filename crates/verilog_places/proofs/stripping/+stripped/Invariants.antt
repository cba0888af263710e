use Rattle.std.proofs.Common.{List}
use Rattle.verilog_text.specs.Trees.{vexpr_trees}
use Rattle.verilog_places.specs.declared.expressions.PlacedExpr.{PlacedExpr}
use Rattle.verilog_places.specs.Trees.{placed_trees, bare_parts}
use Rattle.verilog_places.proofs.ListSteps.{Matches}
use Rattle.verilog_places.proofs.stripping.+stripped.Given as goal

abbrev pub invariant-expressions-each : goal.invariant-expressions-each
invariant-expressions-each l = Matches vexpr_trees (λ (ys : List PlacedExpr). bare_parts (placed_trees ys)) l.all.items l.yielded
