use Rattle.std.proofs.Common.{◌+◌, ◌*◌}
use Rattle.verilog_text.specs.Trees.{vexpr_tree, vexpr_trees}
use Rattle.verilog_clock.proofs.Trees.{tree_size, trees_size}
use Rattle.verilog_clock.proofs.compile.+compiled.Given as goal

abbrev pub decreases-compile : goal.decreases-compile
decreases-compile l = 3 * tree_size (vexpr_tree l.e.now)

abbrev pub decreases-compile_part : goal.decreases-compile_part
decreases-compile_part l = 3 * tree_size (vexpr_tree l.e.now) + 1

abbrev pub decreases-compile_repeat : goal.decreases-compile_repeat
decreases-compile_repeat l = 3 * tree_size (vexpr_tree l.a.now) + 2

abbrev pub decreases-compile_join : goal.decreases-compile_join
decreases-compile_join l = 3 * trees_size (vexpr_trees l.parts.now)
