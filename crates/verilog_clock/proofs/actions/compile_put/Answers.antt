use Rattle.verilog_text.specs.Trees.{vexpr_tree}
use Rattle.verilog_clock.specs.Scopes.{module_in}
use Rattle.verilog_clock.proofs.Acting.{put_means}
use Rattle.verilog_clock.proofs.actions.compile_put.Goals as goal

pub returns : goal.returns
returns c = put_means (module_in c.args.scope.now) c.args.name.now (vexpr_tree c.args.index.now) (vexpr_tree c.args.value.now) c.array.result c.cell_width-width.result c.of.result c.in_ok-index.index c.in_ok-value.value
    c.cell_width-width.ensures.value c.of.ensures c.array.ensures c.in_ok-index.ensures c.in_ok-value.ensures
