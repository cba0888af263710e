use Rattle.std.proofs.Common.{◌≡◌, ◌++◌, map, drop}
use Rattle.name_tables.specs.Keys.{insert_all}
use Rattle.verilog_clock.proofs.declare.declare_items.Given as goal

abbrev pub invariant-each : goal.invariant-each
invariant-each l = record {
  keys : insert_all l.names.set.keys.items (map (λ x. x.name) (drop l.item-index l.items))
      ≡ insert_all l.initial.names.set.keys.items (map (λ x. x.name) l.items);
  wide : l.names.widths.items ++ map (λ x. x.width) (drop l.item-index l.items) ≡ l.initial.names.widths.items ++ map (λ x. x.width) l.items;
}
