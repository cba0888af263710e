use Rattle.std.proofs.Common.{◌≡◌, ◌++◌, map, drop}
use Rattle.lisa_tree.specs.Descriptions.{operation_tree}
use Rattle.scene_paths.specs.Conditions.{all_conditions, rows_of}
use Rattle.scene_paths.proofs.conditions.conditions.Given as goal

abbrev pub invariant-each : goal.invariant-each
invariant-each l = rows_of l.rows.items ++ all_conditions (map operation_tree (drop l.operation-index l.operations)) ≡ all_conditions (map operation_tree l.operations)
