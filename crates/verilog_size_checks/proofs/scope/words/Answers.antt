use Rattle.verilog_size_checks.proofs.NameLaws.{words_table}
use Rattle.verilog_size_checks.proofs.scope.words.Goals as goal

pub returns : goal.returns
returns c =
    words_table c.args.m.now c.new-table.result c.enter_members.new.table c.enter_inputs.new.table c.enter_members-2.new.table c.new-table.ensures.empty
    _ _ _ c.deref.ensures.value c.deref-2.ensures.value c.deref-3.ensures.value c.in_ok-enter_members.ensures c.in_ok-enter_inputs.ensures c.in_ok-enter_members-2.ensures
