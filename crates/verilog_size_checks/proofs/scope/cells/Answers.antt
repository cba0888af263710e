use Rattle.verilog_size_checks.proofs.NameLaws.{cells_table}
use Rattle.verilog_size_checks.proofs.scope.cells.Goals as goal

pub returns : goal.returns
returns c =
    cells_table c.args.m.now c.new-table.result c.enter_members.new.table c.new-table.result c.new-table.result c.new-table.ensures.empty
    _ c.deref.ensures.value c.in_ok-enter_members.ensures
