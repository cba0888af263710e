use Rattle.std.proofs.Common.{◌≡◌, map, drop}
use Rattle.std.specs.Prelude.{fold}
use Rattle.verilog_text.specs.Trees.{setting_tree}
use Rattle.verilog_text.specs.Clocked.{first_set}
use Rattle.verilog_clock.specs.Scopes.{module_in}
use Rattle.verilog_clock.proofs.firsts.set_firsts.Given as goal

abbrev pub invariant-each : goal.invariant-each
invariant-each l = fold (first_set (module_in l.scope)) l.values (map setting_tree (drop l.setting-index l.all)) ≡ fold (first_set (module_in l.scope)) l.fn.values (map setting_tree l.all)
