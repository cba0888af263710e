use Rattle.std.proofs.Common.{List, ◌++◌, map, drop}
use Rattle.verilog_text.specs.Trees.{member_tree}
use Rattle.verilog_text.specs.Clocked.{nets}
use Rattle.verilog_clock.specs.declared.code.Net.{Net}
use Rattle.verilog_clock.specs.Named.{AreNets}
use Rattle.verilog_clock.specs.Scopes.{module_in}
use Rattle.verilog_clock.proofs.actions.compile_nets.Given as goal

abbrev pub invariant-each : goal.invariant-each
invariant-each l = (rest : List Net) → AreNets (module_in l.scope) rest (nets (map (member_tree (module_in l.scope).clock) (drop l.member-index l.members)))
    → AreNets (module_in l.scope) (l.nets.items ++ rest) (nets (map (member_tree (module_in l.scope).clock) l.members))
