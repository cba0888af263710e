use Rattle.verilog_size_checks.proofs.NameLaws.{depths_table}
use Rattle.verilog_size_checks.proofs.scope.depths.Goals as goal

pub returns : goal.returns
returns c =
    depths_table c.args.m.now c.new-table.result c.enter.new.table c.enter_inputs.new.table c.enter_members.new.table c.new-table.ensures.empty
    _ _ c.deref.ensures.value c.deref-2.ensures.value c.in_ok-enter.ensures c.in_ok-enter_inputs.ensures c.in_ok-enter_members.ensures
