use Rattle.lisa_outcomes.specs.RunViews.{bytes_of}
use Rattle.lisa_outcomes.proofs.Stages.{passed_replies, stopped_replies}
use Rattle.checked_descriptions.specs.ToolViews.{checked_of}
use Rattle.description_commands.specs.Occupancies.{OccupiesChecked}
use Rattle.description_commands.proofs.occupancy.count_tree.Goals as goal

pub returns-in-Ok : goal.returns-in-Ok
returns-in-Ok g c =
    passed_replies {T = Unit {0}} checked_of _ _ (OccupiesChecked c.args.edges (bytes_of c.args.bytes.now)) c.in-Ok.tools _ _ _ _ _ c.in-Ok.ensures.finds c.count_with_tools.ensures

pub returns-in-Err : goal.returns-in-Err
returns-in-Err g c = stopped_replies {T = Unit {0}} checked_of _ _ (OccupiesChecked c.args.edges (bytes_of c.args.bytes.now)) c.in-Err.end _ _ c.in-Err.ensures.finds
