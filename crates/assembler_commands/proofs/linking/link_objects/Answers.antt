use Rattle.lisa_tree.specs.Descriptions.{description_tree}
use Rattle.lisa_outcomes.proofs.Stages.{passed_replies, stopped_replies}
use Rattle.checked_descriptions.specs.Checked.{AfterChecks}
use Rattle.assembler_commands.specs.Links.{LinksChecked}
use Rattle.assembler_commands.specs.ObjectViews.{texts_of}
use Rattle.assembler_commands.proofs.linking.link_objects.Goals as goal

pub link_tree-requires-clause-spelled : goal.link_tree-requires-clause-spelled
link_tree-requires-clause-spelled g c = record { bytes = c.args.description.now; spells = c.in-Ok.ensures.found }

pub returns-in-Ok : goal.returns-in-Ok
returns-in-Ok g c = passed_replies {T = Unit {0}} description_tree _ _ (λ d. AfterChecks d (LinksChecked (texts_of c.args.files.now))) c.in-Ok.description _ _ _ _ _ c.in-Ok.ensures c.link_tree.ensures

pub returns-in-Err : goal.returns-in-Err
returns-in-Err g c = stopped_replies {T = Unit {0}} description_tree _ _ (λ d. AfterChecks d (LinksChecked (texts_of c.args.files.now))) c.in-Err.end _ _ c.in-Err.ensures
