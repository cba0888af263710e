use Rattle.std.proofs.Common.{◌≡◌, ◌<◌, ◌+◌, ◌^◌, drop}
use Rattle.verilog_text.specs.Values.{parts_width}
use Rattle.verilog_text.specs.WidePlaces.{◌or_else◌}
use Rattle.verilog_places.specs.Trees.{placed_trees, bare_parts}
use Rattle.verilog_places.specs.WidePlaces.{wide_parts}
use Rattle.verilog_size_checks.specs.Sought.{capped}
use Rattle.verilog_size_checks.specs.Scopes.{widths_in}
use Rattle.verilog_size_checks.proofs.measures.+measures.Given as goal

abbrev pub invariant-measure_parts-each : goal.invariant-measure_parts-each
invariant-measure_parts-each l = record {
  small : l.all.width < 2 ^ 32;
  width : capped (l.all.width + parts_width (widths_in l.scope) (bare_parts (placed_trees (drop l.part-index l.parts)))) ≡ capped (parts_width (widths_in l.scope) (bare_parts (placed_trees l.parts)));
  wide : (l.all.wide or_else wide_parts (widths_in l.scope) (placed_trees (drop l.part-index l.parts))) ≡ wide_parts (widths_in l.scope) (placed_trees l.parts);
}
