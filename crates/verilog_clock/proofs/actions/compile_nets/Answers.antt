use Rattle.std.proofs.Common.{subst, arith}
use Rattle.verilog_text.specs.declared.modules.Member.{Member}
use Rattle.verilog_text.specs.Trees.{member_tree}
use Rattle.verilog_text.specs.Clocked.{widths_of}
use Rattle.verilog_clock.specs.Named.{IsSmallMember}
use Rattle.verilog_clock.specs.Scopes.{module_in}
use Rattle.verilog_clock.proofs.Acting.{all_mapped, nets_done}
use Rattle.verilog_clock.proofs.actions.compile_nets.Goals as goal

pub compile_net-requires-clause-small : goal.compile_net-requires-clause-small
compile_net-requires-clause-small c =
    let m = module_in c.args.scope.now in
    (subst (λ (x : Member). IsSmallMember (widths_of m) (member_tree m.clock x)) c.in-Wire.is
    (all_mapped (IsSmallMember (widths_of m)) (member_tree m.clock) c.args.members.now c.each.member-index c.member-item.result c.requires c.each-test.true c.member-item.is)).0

pub compile_net-requires-clause-narrow : goal.compile_net-requires-clause-narrow
compile_net-requires-clause-narrow c =
    let m = module_in c.args.scope.now in
    (subst (λ (x : Member). IsSmallMember (widths_of m) (member_tree m.clock x)) c.in-Wire.is
    (all_mapped (IsSmallMember (widths_of m)) (member_tree m.clock) c.args.members.now c.each.member-index c.member-item.result c.requires c.each-test.true c.member-item.is)).1

pub returns : goal.returns
returns c = nets_done (module_in c.args.scope.now) c.args.members.now c.each.member-index c.each.nets.items _ (omega arith) c.each.invariant
