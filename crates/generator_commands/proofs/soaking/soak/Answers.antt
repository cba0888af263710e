use Rattle.lisa_tree.specs.Descriptions.{description_tree}
use Rattle.lisa_outcomes.proofs.Stages.{passed_replies, stopped_replies}
use Rattle.assembler_commands.specs.checked_descriptions.Checked.{AfterChecks}
use Rattle.generator_commands.specs.Soaks.{SoaksChecked}
use Rattle.generator_commands.proofs.soaking.soak.Goals as goal

pub soak_tree-requires-clause-spelled : goal.soak_tree-requires-clause-spelled
soak_tree-requires-clause-spelled g c = record { bytes = c.args.description.now; spells = c.in-Ok.ensures.found }

pub returns-in-Ok : goal.returns-in-Ok
returns-in-Ok g c =
    passed_replies {T = Unit {0}} description_tree _ _ (λ d. AfterChecks d (SoaksChecked c.args.verilog.now c.args.number c.args.count c.args.edges)) c.in-Ok.description _ _ _ _ _ c.in-Ok.ensures c.soak_tree.ensures

pub returns-in-Err : goal.returns-in-Err
returns-in-Err g c =
    stopped_replies {T = Unit {0}} description_tree _ _ (λ d. AfterChecks d (SoaksChecked c.args.verilog.now c.args.number c.args.count c.args.edges)) c.in-Err.end _ _ c.in-Err.ensures
