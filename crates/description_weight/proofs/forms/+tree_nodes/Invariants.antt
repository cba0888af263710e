-- With the children that are left all operations are counted.
use Rattle.std.proofs.Common.{◌≡◌, ◌+◌, ◌^◌, ◌<◌, drop}
use Rattle.instruction_forms.specs.Trees.{form_tree}
use Rattle.lisa_forms.proofs.form_patterns_proofs.Views.{trees}
use Rattle.access_counts.specs.Ledgers.{capped}
use Rattle.description_weight.specs.Weights.{tree_nodes, trees_nodes}
use Rattle.description_weight.proofs.forms.+tree_nodes.Given as goal

abbrev pub invariant-loop-child : goal.invariant-loop-child
invariant-loop-child l = record {
  fits : l.nodes < 2 ^ 64;
  rest : capped (l.nodes + trees_nodes (trees (drop l.child-index l.child-items))) ≡ capped (tree_nodes (form_tree l.form));
}
