use Rattle.lisa_outcomes.proofs.Stages.{passed_replies, stopped_replies}
use Rattle.assembler_commands.specs.checked_descriptions.ToolViews.{checked_of}
use Rattle.generator_commands.specs.Generates.{GeneratesChecked}
use Rattle.generator_commands.proofs.generating.write_tree.Goals as goal

pub returns-in-Ok : goal.returns-in-Ok
returns-in-Ok g c = passed_replies {T = Unit {0}} checked_of _ _ (GeneratesChecked c.args.number c.args.count) c.in-Ok.tools _ _ _ _ _ c.in-Ok.ensures.finds c.write_with_tools.ensures

pub returns-in-Err : goal.returns-in-Err
returns-in-Err g c = stopped_replies {T = Unit {0}} checked_of _ _ (GeneratesChecked c.args.number c.args.count) c.in-Err.end _ _ c.in-Err.ensures.finds
