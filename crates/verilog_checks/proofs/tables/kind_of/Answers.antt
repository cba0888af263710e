use Rattle.std.proofs.Common.{Some, None}
use Rattle.verilog_checks.proofs.Members.{kind_told, got, got_none}
use Rattle.verilog_checks.proofs.tables.kind_of.Goals as goal

pub returns-in-Some : goal.returns-in-Some
returns-in-Some c =
    let there = c.in-Some.ensures.lookup in
    kind_told c.args.declared.now c.args.names.now.keys.items c.args.name.now c.place.result (Some c.in-Some.declaration.now) c.requires c.place.ensures
    (got c.args.declared.now c.place.result c.in-Some.declaration.now there.3.0 there.1)

pub returns-in-None : goal.returns-in-None
returns-in-None c =
    kind_told c.args.declared.now c.args.names.now.keys.items c.args.name.now c.place.result None c.requires c.place.ensures (got_none c.args.declared.now c.place.result c.in-None.ensures.lookup.3)
