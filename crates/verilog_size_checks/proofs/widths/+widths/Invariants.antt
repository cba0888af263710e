use Rattle.std.proofs.Common.{◌≡◌, ◌<◌, ◌+◌, ◌^◌, drop}
use Rattle.verilog_text.specs.Values.{parts_width}
use Rattle.verilog_places.specs.Trees.{placed_trees, bare_parts}
use Rattle.verilog_size_checks.specs.Sought.{capped}
use Rattle.verilog_size_checks.specs.Scopes.{widths_in}
use Rattle.verilog_size_checks.proofs.widths.+widths.Given as goal

abbrev pub invariant-parts_width-each : goal.invariant-parts_width-each
invariant-parts_width-each l = record {
  small : l.width < 2 ^ 32;
  sum : capped (l.width + parts_width (widths_in l.scope) (bare_parts (placed_trees (drop l.part-index l.parts)))) ≡ capped (parts_width (widths_in l.scope) (bare_parts (placed_trees l.parts)));
}
