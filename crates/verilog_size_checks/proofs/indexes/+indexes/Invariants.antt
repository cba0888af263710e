use Rattle.std.proofs.Common.{◌≡◌, drop}
use Rattle.verilog_text.specs.Conditions.{parts_indexes}
use Rattle.verilog_places.specs.Trees.{placed_trees, bare_parts}
use Rattle.verilog_size_checks.specs.Sought.{first_of, index_fault}
use Rattle.verilog_size_checks.specs.Scopes.{module_in}
use Rattle.verilog_size_checks.proofs.indexes.+indexes.Given as goal

abbrev pub invariant-check_parts-each : goal.invariant-check_parts-each
invariant-check_parts-each l = first_of (index_fault (module_in l.scope)) (parts_indexes (bare_parts (placed_trees (drop l.part-index l.parts)))) ≡ first_of (index_fault (module_in l.scope)) (parts_indexes (bare_parts (placed_trees l.parts)))
