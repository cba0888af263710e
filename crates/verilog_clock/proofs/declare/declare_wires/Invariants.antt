use Rattle.std.proofs.Common.{◌≡◌, ◌++◌, map, drop}
use Rattle.name_tables.specs.Keys.{insert_all}
use Rattle.verilog_text.specs.Trees.{member_tree}
use Rattle.verilog_text.specs.Clocked.{nets}
use Rattle.verilog_clock.proofs.declare.declare_wires.Given as goal

abbrev pub invariant-each : goal.invariant-each
invariant-each l = record {
  keys : insert_all l.names.set.keys.items (map (λ x. x.item.name) (nets (map (member_tree l.module.clock) (drop l.member-index l.module.members.items))))
      ≡ insert_all l.initial.names.set.keys.items (map (λ x. x.item.name) (nets (map (member_tree l.module.clock) l.module.members.items)));
  wide : l.names.widths.items ++ map (λ x. x.item.width) (nets (map (member_tree l.module.clock) (drop l.member-index l.module.members.items)))
      ≡ l.initial.names.widths.items ++ map (λ x. x.item.width) (nets (map (member_tree l.module.clock) l.module.members.items));
}
