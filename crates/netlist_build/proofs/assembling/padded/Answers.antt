use Rattle.std.proofs.Common.{rules, ap, ◌∙◌}
use Rattle.verilog_text.specs.Trees.{Join}
use Rattle.verilog_text.proofs.Views.{vexpr_tree-Join}
use Rattle.netlist_build.proofs.assembling.padded.Goals as goal

pub returns : goal.returns
returns c = vexpr_tree-Join c.push-2.new.self ∙ ap Join (search rules)
