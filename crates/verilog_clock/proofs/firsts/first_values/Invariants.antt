use Rattle.std.proofs.Common.{◌≡◌, map, drop}
use Rattle.std.specs.Prelude.{fold}
use Rattle.verilog_text.specs.Trees.{member_tree}
use Rattle.verilog_text.specs.Clocked.{first_set, first_items, settings}
use Rattle.verilog_clock.specs.Scopes.{module_in}
use Rattle.verilog_clock.proofs.firsts.first_values.Given as goal

abbrev pub invariant-each : goal.invariant-each
invariant-each l = fold (first_set (module_in l.scope)) l.values.items (settings (map (member_tree (module_in l.scope).clock) (drop l.member-index l.scope.module.now.members.items))) ≡ first_items (module_in l.scope)
