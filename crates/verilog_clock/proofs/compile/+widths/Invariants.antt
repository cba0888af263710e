use Rattle.verilog_text.specs.Trees.{vexpr_tree, vexpr_trees}
use Rattle.verilog_clock.proofs.Trees.{tree_size, trees_size}
use Rattle.verilog_clock.proofs.compile.+widths.Given as goal

abbrev pub decreases-own_width : goal.decreases-own_width
decreases-own_width l = tree_size (vexpr_tree l.e.now)

abbrev pub decreases-parts_width : goal.decreases-parts_width
decreases-parts_width l = trees_size (vexpr_trees l.parts.now)
