use Rattle.verilog_text.specs.Trees.{module_tree}
use Rattle.lisa_outcomes.proofs.Stages.{passed_replies, stopped_replies}
use Rattle.assembler_commands.specs.checked_descriptions.ToolViews.{checked_of}
use Rattle.generator_commands.specs.Soaks.{SoaksModule}
use Rattle.generator_commands.proofs.soaking.soak_with_tools.Goals as goal

pub returns-in-Ok : goal.returns-in-Ok
returns-in-Ok g c =
    passed_replies {T = Unit {0}} module_tree _ _ (SoaksModule c.args.plan.number c.args.plan.count c.args.plan.edges (checked_of c.args.tools.now)) c.in-Ok.clocked _ _ _ _ _ c.in-Ok.ensures.finds c.soak_module.ensures

pub returns-in-Err : goal.returns-in-Err
returns-in-Err g c =
    stopped_replies {T = Unit {0}} module_tree _ _ (SoaksModule c.args.plan.number c.args.plan.count c.args.plan.edges (checked_of c.args.tools.now)) c.in-Err.end _ _ c.in-Err.ensures.finds
