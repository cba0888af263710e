use Rattle.std.proofs.Common.{subst, ◌++◌}
use Rattle.lisa_io.proofs.Known.{puts_then, puts_stop, puts_exit}
use Rattle.lisa_io.specs.Contents.{Puts}
use Rattle.lisa_io.specs.declared.outside.Failed.{Failed}
use Rattle.lisa_engine.specs.Touches.{put_back}
use Rattle.lisa_engine.specs.Text.{changed_cells}
use Rattle.lisa_engine.proofs.CellTexts.{same_arrays}
use Rattle.lisa_engine.proofs.trace.put_changes.Goals as goal

pub returns-in_err-put_edge_line-clause-puts : goal.returns-in_err-put_edge_line-clause-puts
returns-in_err-put_edge_line-clause-puts g c = puts_exit _ _ c.from_residual.ensures.1 (puts_stop _ c.in_err-put_edge_line.ensures)

pub returns-in_err-put_changed_items-clause-puts : goal.returns-in_err-put_changed_items-clause-puts
returns-in_err-put_changed_items-clause-puts g c =
    puts_exit _ _ c.from_residual-in_err-put_changed_items.ensures.1
    (puts_then c.in_ok-put_edge_line.ensures (puts_stop (changed_cells (g.E.Engine.machine c.args.engine.now).arrays (put_back (g.E.Engine.touch_list c.args.engine.now) (g.E.Engine.present c.args.engine.now).cells)
    (g.E.Engine.present c.args.engine.now).cells) c.in_err-put_changed_items.ensures.puts))

pub returns-clause-puts : goal.returns-clause-puts
returns-clause-puts g c =
    puts_then c.in_ok-put_edge_line.ensures (puts_then c.in_ok-put_changed_items.ensures.puts
    (rw (same_arrays (g.E.Engine.machine c.args.engine.now).arrays (g.E.Engine.touch_list c.args.engine.now) c.args.row.now (g.E.Engine.present c.args.engine.now).cells
    (g.met.E.Engine.shaped c.args.engine.now).cells c.requires.touches c.requires.same) at c.put_changed_arrays.ensures))
