use Rattle.std.proofs.Common.{◌+◌, arith}
use Rattle.lisa_io.proofs.Known.{puts_exit, puts_early, puts_whole}
use Rattle.lisa_debug.specs.Answers.{list_line}
use Rattle.lisa_debug.proofs.Fronts.{line_more}
use Rattle.lisa_debug.proofs.tell.put_list.Goals as goal

pub returns-in_err-put_list_line : goal.returns-in_err-put_list_line
returns-in_err-put_list_line g c =
    puts_exit _ _ c.from_residual.ensures.1
    (puts_early list_line c.args.items.now (c.loop-item.item-index + 1) _ _ _ _ _
    (line_more list_line c.args.items.now c.loop-item.item-index c.item-item.result (omega arith) c.item-item.is c.loop-item.invariant c.in_err-put_list_line.ensures))

pub loop-item-preserved : goal.loop-item-preserved
loop-item-preserved g c =
    line_more list_line c.args.items.now c.loop-item.item-index c.item-item.result (omega arith) c.item-item.is c.loop-item.invariant c.in_ok-put_list_line.ensures

pub returns : goal.returns
returns g c = puts_whole list_line c.args.items.now c.loop-item.item-index _ _ _ _ _ (omega arith) c.loop-item.invariant
