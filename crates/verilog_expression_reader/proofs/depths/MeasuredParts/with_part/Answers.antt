use Rattle.std.proofs.Common.{◌≡◌, ap, ◌∙◌, arith}
use Rattle.verilog_text.specs.Trees.{parts_depth}
use Rattle.verilog_places.specs.Trees.{PlacedTrees, Then, End, placed_tree, placed_trees, bare_parts}
use Rattle.verilog_expression_reader.specs.Reading.{all_then}
use Rattle.verilog_expression_reader.proofs.PartLaws.{trees_last, last_depth}
use Rattle.verilog_expression_reader.proofs.depths.MeasuredParts.with_part.Goals as goal

pub invariant_of-result : goal.invariant_of-result
invariant_of-result c =
    let same : placed_trees c.push.new.self.items ≡ all_then (placed_trees c.args.self.parts.items) (Then (placed_tree c.args.part.tree) End) = rw c.in_ok-push.ensures.items (trees_last c.args.self.parts.items c.args.part.tree) in
    let deep = ap (λ (xs : PlacedTrees). parts_depth (bare_parts xs)) same ∙ last_depth (placed_trees c.args.self.parts.items) (placed_tree c.args.part.tree) in
    record { counted = omega (arith, deep, c.max-depth.ensures, c.args.self.counted, c.args.part.counted) }

pub returns-clause-value : goal.returns-clause-value
returns-clause-value c = rw c.in_ok-push.ensures.items (trees_last c.args.self.parts.items c.args.part.tree)
