use Rattle.std.proofs.Common.{◌≡◌, ◌≤◌, length, map}
use Rattle.lisa_words.specs.Many.{with_front, many}
use Rattle.verilog_text.specs.Trees.{setting_tree}
use Rattle.verilog_expression_reader.specs.Past.{placed_toks}
use Rattle.verilog_module_reader.specs.Parts.{setting_of, at_end, settings_of}
use Rattle.verilog_module_reader.proofs.settings.settings.Given as goal

abbrev pub invariant-each : goal.invariant-each
invariant-each l = (with_front (map setting_tree l.all.items) (many setting_of at_end (placed_toks l.rest)) ≡ settings_of (placed_toks l.tokens)) × (length l.rest ≤ length l.tokens)

abbrev pub decreases-each : goal.decreases-each
decreases-each l = length l.rest
