use Rattle.std.proofs.Common.{◌≡◌, ◌++◌, map, drop}
use Rattle.verilog_text.specs.Printing.{expr_size, parts_size}
use Rattle.verilog_text.specs.Conditions.{parts_uses}
use Rattle.verilog_places.specs.Trees.{bare, bare_parts, placed_tree, placed_trees}
use Rattle.verilog_checks.specs.Views.{counted_use, behind}
use Rattle.verilog_checks.proofs.uses.+expressions.Given as goal

abbrev pub decreases-put_expr : goal.decreases-put_expr
decreases-put_expr l = expr_size (bare (placed_tree l.e.now))

abbrev pub decreases-put_parts : goal.decreases-put_parts
decreases-put_parts l = parts_size (bare_parts (placed_trees l.parts.now))

abbrev pub invariant-put_parts-each : goal.invariant-put_parts-each
invariant-put_parts-each l = map counted_use l.out.items ++ behind l.before (parts_uses (bare_parts (placed_trees (drop l.part-index l.parts))))
    ≡ map counted_use l.initial.out.items ++ behind l.before (parts_uses (bare_parts (placed_trees l.parts)))
