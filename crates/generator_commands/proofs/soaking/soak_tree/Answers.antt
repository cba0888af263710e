use Rattle.lisa_outcomes.proofs.Stages.{passed_replies, stopped_replies}
use Rattle.assembler_commands.specs.checked_descriptions.ToolViews.{checked_of}
use Rattle.generator_commands.specs.Soaks.{SoaksChecked}
use Rattle.generator_commands.proofs.soaking.soak_tree.Goals as goal

pub returns-in-Ok : goal.returns-in-Ok
returns-in-Ok g c =
    passed_replies {T = Unit {0}} checked_of _ _ (SoaksChecked c.args.verilog.now c.args.plan.number c.args.plan.count c.args.plan.edges) c.in-Ok.tools _ _ _ _ _ c.in-Ok.ensures.finds c.soak_with_tools.ensures

pub returns-in-Err : goal.returns-in-Err
returns-in-Err g c = stopped_replies {T = Unit {0}} checked_of _ _ (SoaksChecked c.args.verilog.now c.args.plan.number c.args.plan.count c.args.plan.edges) c.in-Err.end _ _ c.in-Err.ensures.finds
