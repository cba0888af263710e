-- With the forms that are left all operations are counted.
use Rattle.std.proofs.Common.{◌≡◌, ◌+◌, ◌^◌, ◌<◌, drop, map}
use Rattle.instruction_forms.specs.Trees.{form_tree}
use Rattle.access_counts.specs.Ledgers.{capped}
use Rattle.description_weight.specs.Sums.{nodes_where}
use Rattle.description_weight.proofs.forms.nodes_where.Given as goal

abbrev pub invariant-loop-number : goal.invariant-loop-number
invariant-loop-number l = record {
  fits : l.nodes < 2 ^ 64;
  rest : capped (l.nodes + nodes_where (map form_tree (drop l.number l.forms)) (drop l.number l.plain)) ≡ capped (nodes_where (map form_tree l.forms) l.plain);
}
