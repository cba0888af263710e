use Rattle.std.proofs.Common.{◌≡◌, ◌+◌, ◌++◌, map, drop}
use Rattle.verilog_text.specs.Trees.{vexpr_tree, vexpr_trees}
use Rattle.verilog_text.specs.Pieces.{piece_tok}
use Rattle.verilog_text.specs.Printing.{expr_size, parts_size, more_tokens}
use Rattle.verilog_text.proofs.printer.+shown.Given as goal

abbrev pub decreases-put : goal.decreases-put
decreases-put l = expr_size (vexpr_tree l.e.now) + 1

abbrev pub decreases-put_bare : goal.decreases-put_bare
decreases-put_bare l = expr_size (vexpr_tree l.e.now)

abbrev pub decreases-put_join : goal.decreases-put_join
decreases-put_join l = parts_size (vexpr_trees l.parts.now) + 2

abbrev pub decreases-put_parts : goal.decreases-put_parts
decreases-put_parts l = parts_size (vexpr_trees l.parts.now) + 1

abbrev pub decreases-put_more : goal.decreases-put_more
decreases-put_more l = parts_size (vexpr_trees l.parts.now) + 1

abbrev pub decreases-put_one_more : goal.decreases-put_one_more
decreases-put_one_more l = expr_size (vexpr_tree l.part.now) + 2

abbrev pub invariant-put_more-each : goal.invariant-put_more-each
invariant-put_more-each l = map piece_tok l.out.items ++ more_tokens (vexpr_trees (drop l.part-index l.parts)) ≡ map piece_tok l.initial.out.items ++ more_tokens (vexpr_trees l.parts)
