use Rattle.std.proofs.Common.{◌≡◌, ◌++◌, map, drop}
use Rattle.verilog_text.specs.Trees.{setting_tree}
use Rattle.verilog_text.specs.Conditions.{Start}
use Rattle.verilog_checks.specs.Views.{counted_use, behind}
use Rattle.verilog_checks.proofs.uses.put_settings.Given as goal

abbrev pub invariant-each : goal.invariant-each
invariant-each l = map counted_use l.out.items ++ behind l.before (map (λ s. Start s.name) (map setting_tree (drop l.setting-index l.settings)))
    ≡ map counted_use l.initial.out.items ++ behind l.before (map (λ s. Start s.name) (map setting_tree l.settings))
