use Rattle.std.proofs.Common.{◌≡◌, ◌+◌, ◌++◌, drop}
use Rattle.least_fixed_points.specs.Settles.{entry}
use Rattle.instruction_forms.specs.Picks.{span, own_fields}
use Rattle.instruction_forms.proofs.fields.fields.Given as goal

abbrev pub invariant-loop-item : goal.invariant-loop-item
invariant-loop-item g l =
    let known = entry l.sources.widths.now in
    let d = g.N.Names.tree l.sources.names.now in
    record {
      high : l.high ≡ l.pick.low + span known d l.pick.operation (drop l.item-index l.items);
      fields : l.fields.items ++ own_fields known d l.pick.operation l.pick.low (drop l.item-index l.items) ≡ own_fields known d l.pick.operation l.pick.low l.items;
    }
