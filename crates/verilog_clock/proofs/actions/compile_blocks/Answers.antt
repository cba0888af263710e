use Rattle.std.proofs.Common.{List, subst, sym}
use Rattle.verilog_text.specs.declared.modules.Action.{Action}
use Rattle.verilog_text.specs.declared.modules.Member.{Member}
use Rattle.verilog_text.specs.Trees.{member_tree, action_trees}
use Rattle.verilog_text.specs.Clocked.{widths_of}
use Rattle.verilog_text.specs.Clockable.{AreNarrowActions}
use Rattle.verilog_clock.specs.Named.{IsSmallMember}
use Rattle.verilog_clock.specs.Scopes.{module_in}
use Rattle.verilog_clock.proofs.Acting.{all_mapped}
use Rattle.verilog_clock.proofs.actions.compile_blocks.Goals as goal

pub compile_actions-requires : goal.compile_actions-requires
compile_actions-requires c =
    let m = module_in c.args.scope.now in
    subst (λ (xs : List Action). AreNarrowActions (widths_of m) (action_trees xs)) (sym c.deref.ensures.value)
    (subst (λ (x : Member). IsSmallMember (widths_of m) (member_tree m.clock x)) c.in-Always.is
    (all_mapped (IsSmallMember (widths_of m)) (member_tree m.clock) c.args.members.now c.each.member-index c.member-item.result c.requires c.each-test.true c.member-item.is))
