use Rattle.std.proofs.Common.{◌≡◌, ◌++◌, map, drop}
use Rattle.verilog_text.specs.Trees.{setting_tree}
use Rattle.verilog_checks.specs.Views.{told, Gives}
use Rattle.verilog_checks.proofs.survey.put_given.Given as goal

abbrev pub invariant-each : goal.invariant-each
invariant-each l = map told l.out.items ++ map (λ s. Gives s.name) (map setting_tree (drop l.setting-index l.settings)) ≡ map told l.initial.out.items ++ map (λ s. Gives s.name) (map setting_tree l.settings)
