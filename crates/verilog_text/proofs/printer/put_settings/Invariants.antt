use Rattle.std.proofs.Common.{◌≡◌, ◌++◌, map, drop}
use Rattle.std.specs.Prelude.{flat_map}
use Rattle.verilog_text.specs.Trees.{setting_tree}
use Rattle.verilog_text.specs.Grammar.{setting_tokens}
use Rattle.verilog_text.specs.Pieces.{piece_tok}
use Rattle.verilog_text.proofs.printer.put_settings.Given as goal

abbrev pub invariant-each : goal.invariant-each
invariant-each l = map piece_tok l.out.items ++ flat_map setting_tokens (map setting_tree (drop l.setting-index l.settings)) ≡ map piece_tok l.initial.out.items ++ flat_map setting_tokens (map setting_tree l.settings)
