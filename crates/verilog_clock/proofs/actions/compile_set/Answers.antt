use Rattle.verilog_text.specs.Trees.{vexpr_tree}
use Rattle.verilog_clock.specs.Scopes.{module_in}
use Rattle.verilog_clock.proofs.Acting.{set_means}
use Rattle.verilog_clock.proofs.actions.compile_set.Goals as goal

pub returns : goal.returns
returns c = set_means (module_in c.args.scope.now) c.args.name.now (vexpr_tree c.args.value.now) c.target.result c.width-width.result c.of.result c.in_ok-value.value
    c.width-width.ensures.value c.of.ensures c.target.ensures c.in_ok-value.ensures
